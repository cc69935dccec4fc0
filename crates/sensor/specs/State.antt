-- Definitions: the parser's state, its parts and what is asked of it. Numbers in brackets are lines of devices/bma150/i2c.rs.
use Rattle.std.specs.Prelude.{ℕ, ◌+◌, ◌-◌, ◌*◌, ◌%◌, ◌^◌, Bool, true, false, not, ◌&&◌, ◌||◌, ◌==◌, nat_lt, Option, Some, None}
use Rattle.std.specs.Bool.{beq}
use Rattle.bus.specs.Bus.{first_bit}
use Rattle.sensor.specs.declared.Following.{Following}
use Rattle.sensor.specs.declared.Phase.{Phase}
use Rattle.sensor.specs.declared.Phase.TheVariants as phase
use Rattle.sensor.specs.declared.State.{State}

-- ## The state with some parts set anew

abbrev pub set_phase : Phase → State → State
set_phase p s = record { phase = p; pointer = s.pointer; bits = s.bits; shift = s.shift; low = s.low }

abbrev pub set_pointer : ℕ → State → State
set_pointer n s = record { phase = s.phase; pointer = n; bits = s.bits; shift = s.shift; low = s.low }

abbrev pub set_bits : ℕ → ℕ → State → State
set_bits n byte s = record { phase = s.phase; pointer = s.pointer; bits = n; shift = byte; low = s.low }

abbrev pub set_low : Bool → State → State
set_low b s = record { phase = s.phase; pointer = s.pointer; bits = s.bits; shift = s.shift; low = b }

-- a whole byte is acknowledged next (199)
abbrev pub acknowledging : Following → State → State
acknowledging f s = set_phase (phase.Acknowledge f 0) s

-- before the first edge (46)
abbrev pub fresh_state : State
fresh_state = record { phase = phase.Idle; pointer = 0; bits = 0; shift = 0; low = false }

-- nothing is kept but the pointer (78)
abbrev pub abort_of : State → State
abort_of s = set_pointer s.pointer fresh_state

-- ## Phases

abbrev pub is_idle : Phase → Bool
is_idle phase.Idle = true
is_idle (phase.Receive k) = false
is_idle (phase.Acknowledge f n) = false
is_idle (phase.Read n) = false
is_idle (phase.MasterAcknowledge h) = false

abbrev pub is_acknowledge : Phase → Bool
is_acknowledge phase.Idle = false
is_acknowledge (phase.Receive k) = false
is_acknowledge (phase.Acknowledge f n) = true
is_acknowledge (phase.Read n) = false
is_acknowledge (phase.MasterAcknowledge h) = false

-- ## What is asked of a state

-- the state is what `abort` would leave (70)
abbrev pub is_idle_of : State → Bool
is_idle_of s = is_idle s.phase && s.bits == 0 && s.shift == 0 && not s.low

-- 16 with no byte on its way in, 1 outside of one; within a byte twice the bits to come less one, modulo 256 (61)
unfoldable pub effect_edges_of : Phase → ℕ → ℕ
effect_edges_of phase.Idle bits = 16
effect_edges_of (phase.Receive k) bits = (512 + 15 - 2 * bits) % 256
effect_edges_of (phase.Acknowledge f n) bits = 1
effect_edges_of (phase.Read n) bits = 1
effect_edges_of (phase.MasterAcknowledge h) bits = 1

-- so many bits, fewer than eight, hold the number (92)
unfoldable pub fits_in : ℕ → ℕ → Bool
fits_in byte bits = nat_lt bits 8 && nat_lt byte (2 ^ bits)

-- no byte is on its way in (95)
abbrev pub no_bits : State → Bool
no_bits s = s.bits == 0 && s.shift == 0

-- what the phase asks of the other fields (90)
unfoldable pub sound_of : Phase → State → Bool
sound_of phase.Idle s = no_bits s && not s.low
sound_of (phase.Receive k) s = not s.low && fits_in s.shift s.bits
sound_of (phase.Acknowledge f n) s = no_bits s && nat_lt n 3 && beq s.low (not (n == 0))
sound_of (phase.Read n) s = no_bits s && nat_lt n 9
sound_of (phase.MasterAcknowledge h) s = no_bits s && not s.low

-- whether `validate` accepts the state (85)
unfoldable pub validate_of : Bool → State → Bool
validate_of available s = nat_lt s.pointer 128 && (available || is_idle s.phase) && sound_of s.phase s

-- ## The byte to send

-- the byte that goes over the line: ff where none was prepared (246, 259)
abbrev pub sent : Option ℕ → ℕ
sent None = 0xff
sent (Some b) = b

-- the bit that goes over the line after n others: the first of what is left of the byte (246)
unfoldable pub sent_bit : ℕ → ℕ → Bool
sent_bit n byte = first_bit (byte * 2 ^ (n % 8) % 256)
