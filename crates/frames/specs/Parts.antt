-- Definitions: a byte on its way (iic.rs, `Frame`), its parts and what is asked of it. Numbers in brackets are lines of iic.rs.
use Rattle.std.specs.Prelude.{ℕ, ◌-◌, Bool, true, false, not, ◌&&◌, ◌||◌, cond, eqb, ltb, None, Option, Some}
use Rattle.std.specs.Int.Bits.{bit_and}
use Rattle.bus.specs.Bus.{first_bit, shift_in}
use Rattle.frames.specs.declared.Frame.{Frame}
use Rattle.frames.specs.declared.Phase.{Phase}
use Rattle.frames.specs.declared.Phase.TheVariants.{Data, Ack, Done}

-- ## Phases

abbrev pub is_data : Phase → Bool
is_data Data = true
is_data Ack = false
is_data Done = false

abbrev pub is_done : Phase → Bool
is_done Data = false
is_done Ack = false
is_done Done = true

-- the bits of a frame: eight for an address or where ICMR's BC is 0 (331, 571)
abbrev pub bits_of : Bool → ℕ → ℕ
bits_of address n = cond (address || eqb n 0) 8 n

-- ## A frame with some parts set anew

-- in another phase (641, 650, 656)
abbrev pub phased : Phase → Frame → Frame
phased p f = record { shift = f.shift; remaining = f.remaining; phase = p; address = f.address; transmit = f.transmit; loaded = f.loaded; last = f.last }

-- with the byte to send (587)
abbrev pub filled : ℕ → Frame → Frame
filled b f = record { shift = b; remaining = f.remaining; phase = f.phase; address = f.address; transmit = f.transmit; loaded = true; last = f.last }

-- sending or receiving; a receiver's frame counts as loaded (277, 715)
abbrev pub turned : Bool → Frame → Frame
turned sends f = record { shift = f.shift; remaining = f.remaining; phase = f.phase; address = f.address; transmit = sends; loaded = f.loaded || not sends; last = f.last }

-- after a lost arbitration the frame goes on as a receiver's (604)
abbrev pub yielded : Frame → Frame
yielded f = record { shift = f.shift; remaining = f.remaining; phase = f.phase; address = f.address; transmit = false; loaded = true; last = f.last }

-- a bit was sampled, and arbitration may have been lost by it (619 to 622)
abbrev pub sampled : Bool → Bool → Frame → Frame
sampled lost sda f = record { shift = shift_in f.shift sda; remaining = f.remaining - 1; phase = f.phase; address = f.address; transmit = f.transmit && not lost; loaded = f.loaded; last = f.last }

-- the last byte of a receive, or not (241, 278)
abbrev pub marked : Bool → Frame → Frame
marked last f = record { shift = f.shift; remaining = f.remaining; phase = f.phase; address = f.address; transmit = f.transmit; loaded = f.loaded; last = last }

-- ICMR's BC was written (331)
abbrev pub recounted : ℕ → Frame → Frame
recounted n f = record { shift = f.shift; remaining = bits_of false n; phase = f.phase; address = f.address; transmit = f.transmit; loaded = f.loaded; last = f.last }

-- the direction that ICCR1 has now; a slave sends no address (276, 714)
abbrev pub directed : Bool → Bool → Frame → Frame
directed transmit master f = turned (transmit && (master || not f.address)) f

-- ICCR1's MST or TRS was written; a receiver's byte is the last where RCVD is written (276 to 278)
unfoldable pub redirect_frame : Bool → Bool → Bool → Frame → Frame
redirect_frame transmit master last f = marked (not transmit && last) (directed transmit master f)

-- ## What a frame shows

-- a frame that waits for its byte (586, 730, 836)
abbrev pub starved : Frame → Bool
starved f = f.transmit && not f.loaded

-- what a frame's data phase shows on SDA: the bit to send, or released by a receiver (737, 784, 845)
abbrev pub data_level : Frame → Bool
data_level f = not f.transmit || first_bit f.shift

-- ## The same where there may be no frame

-- arbitration was lost (603)
abbrev pub yield_in : Option Frame → Option Frame
yield_in None = None
yield_in (Some f) = Some (yielded f)

-- ICDRR was read: the byte under way is the last where ICCR1's RCVD is set, unless it is an address or is through (240)
abbrev pub mark_in : Option Frame → Bool → Option Frame
mark_in None last = None
mark_in (Some f) last = cond (is_done f.phase || f.address) (Some f) (Some (marked last f))

-- ICCR1 was written: a frame's data phase follows MST and TRS while filtered SCL is low (275)
abbrev pub redirect_in : Option Frame → Bool → Bool → Bool → Bool → Option Frame
redirect_in None transmit master last scl = None
redirect_in (Some f) transmit master last scl =
    cond (is_data f.phase && not scl) (Some (redirect_frame transmit master last f)) (Some f)

-- ICMR was written: its BC is that of a data phase that is no address (330)
abbrev pub recount_in : Option Frame → ℕ → Option Frame
recount_in None n = None
recount_in (Some f) n = cond (is_data f.phase && not f.address) (Some (recounted n f)) (Some f)

-- ## What is asked where there may be no frame

-- ICMR's BC: what a frame has to go, else as written (207)
abbrev pub shown_count : Option Frame → ℕ → ℕ
shown_count None n = n
shown_count (Some f) n = bit_and f.remaining 7

-- a frame that is through (317, 701)
abbrev pub is_done_in : Option Frame → Bool
is_done_in None = false
is_done_in (Some f) = is_done f.phase

-- document 01, 10: the bits to go that a phase allows (904)
abbrev pub progress_at : Phase → ℕ → Bool
progress_at Data n = ltb 0 n && ltb n 9
progress_at Ack n = eqb n 0
progress_at Done n = eqb n 0

-- document 01, refused 10 where this doesn't hold: 1 to 8 bits to go in the data phase, none in another
abbrev pub progress_in : Option Frame → Bool
progress_in None = true
progress_in (Some f) = progress_at f.phase f.remaining
