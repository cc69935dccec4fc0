-- Laws: status writes worked out, as one table with one fact: what the latest answered read of ICSR had shown, ICSR before and after the write, and how
-- the write ended. They show that StatusWrites.antt says neither too little nor too much. Below the table stands a write that is refused in its midst,
-- over a clock set whose count is too large to be doubled.
use Rattle.std.specs.Prelude.{ℕ, ◌+◌, ◌^◌, true, false, List, [], ◌∷◌, ◌++◌, map, ◌≡◌, refl, Err, None, Result, Some}
use Rattle.std.proofs.Common.{ap, lit<}
use Rattle.bus.specs.Bus.{levels}
use Rattle.time.specs.declared.Time.{Time}
use Rattle.time.specs.Clock.{edges_before}
use Rattle.time.proofs.Laws.{edges_before_is}
use Rattle.time.specs.Time.{time_of}
use Rattle.time.specs.Time as Time
use Rattle.time.specs.Clock as Clock
use Rattle.clocks.specs.declared.Clocks.{Clocks}
use Rattle.clocks.specs.Clocks as Clocks
use Rattle.domain.specs.Domain as Domain
use Rattle.frames.specs.Mirror as Mirror
use Rattle.frames.specs.Parts as Parts
use Rattle.waits.specs.Half as Half
use Rattle.waits.specs.Half.{half_after}
use Rattle.rates.specs.Rates as Rates
use Rattle.rates.specs.Rates.{default_rates}
use Rattle.iic.specs.Calls as Iic
use Rattle.iic.specs.Kick as Kick
use Rattle.iic.specs.Reading as Reading
use Rattle.registers.specs.Registers as Registers
use Rattle.iic.specs.Ready as Ready
use Rattle.iic.specs.Setters.{set_gate as gated, set_address, set_control, set_drive, set_frame, set_receive_enabled, set_seen, set_status}
use Rattle.iic.specs.Shift as Shift
use Rattle.iic.specs.State as State
use Rattle.iic.specs.State.{default_iic}
use Rattle.iic.specs.Waiting as Waits
use Rattle.iic.specs.Waiting.{clock_from}
use Rattle.iic.specs.Writing as Writing
use Rattle.iic.specs.declared.Iic.{Iic}
use Rattle.hosts.specs.Calls as Hosts
use Rattle.hosts.specs.Calls.{Call, peek, read, write, set_gate, Made, lent_read, lent_write, outcome, outcome_of}
use Rattle.iic.specs.Told.{Answer, nothing, refusal}
use Rattle.hosts.specs.ClockRows.{begun, of_step}
use Rattle.hosts.specs.Rows.{at, clock_set, made, still}
use Rattle.flags.specs.StatusWrites as Flags
use Rattle.flags.specs.StatusWrites.{Latest, before, reached, written}
use Rattle.refusals.specs.declared.Refusal.{Refusal}
use Rattle.waits.specs.declared.HalfWait.{HalfWait}
use Rattle.refusals.specs.declared.Refusal.TheVariants.{Overflow}

-- ## Clock sets

-- a clock with a zero: every call that gets the set is refused 1
abbrev zeroed : Clocks
zeroed = record {
  system = record { clock = record { start = at 0; numerator = 0; denominator = 1; ordinal = 0; fraction = 0 }; running = false; held_at = at 0 };
  cpu = still.cpu;
  watch = still.watch;
  on_chip = still.on_chip;
  oscillator = still.oscillator;
  subclock = still.subclock;
  prescaler_s = still.prescaler_s;
  prescaler_w = still.prescaler_w;
}

-- ## Calls before the write

-- a master that transmits: TRS goes from 0 to 1 and raises TDRE; the bus is idle, so that no frame begins
abbrev ready : List Call
ready = set_gate true (at 0) ∷ write 0 0xb0 (at 0) ∷ []

-- TRS goes to 0 and to 1 again
abbrev again : List Call
again = write 0 0xa0 (at 0) ∷ write 0 0xb0 (at 0) ∷ []

-- a synchronous slave whose frame waits for its byte
abbrev waiting : List Call
waiting = set_gate true (at 0) ∷ write 5 0x01 (at 0) ∷ write 0 0x90 (at 0) ∷ []

-- in reset, where nothing begins; it is lifted after these
abbrev in_reset : List Call → List Call
in_reset l = set_gate true (at 0) ∷ write 5 0x01 (at 0) ∷ write 1 0x02 (at 0) ∷ l ++ (write 1 0x00 (at 0) ∷ [])

-- ## The table

record Row : Type 0 where
  clocks : Clocks
  made_by : List Made
  address : ℕ
  value : ℕ
  latest : Latest
  was : ℕ
  is : ℕ
  says : Answer

-- the calls before, the address and the value of the write; what was shown, ICSR before and after it, over clocks that stand still
abbrev row : List Call → ℕ → ℕ → Latest → ℕ → ℕ → Row
row l a v s w i = record { clocks = still; made_by = made l; address = a; value = v; latest = s; was = w; is = i; says = nothing }

abbrev rows : List Row
rows =
    -- shown and written 0: cleared; by any address whose bits 0 to 2 are 4
    row (ready ++ (read 4 (at 0) ∷ [])) 4 0x00 (Some 0x80) 0x80 0x00
    ∷ row (ready ++ (read 0xc (at 0) ∷ [])) 0x14 0x7f (Some 0x80) 0x80 0x00
    -- before any read nothing is cleared; `peek` is no read, nor is a read of another register
    ∷ row ready 4 0x00 None 0x80 0x80
    ∷ row (ready ++ (peek 4 ∷ [])) 4 0x00 None 0x80 0x80
    ∷ row (ready ++ (read 5 (at 0) ∷ [])) 4 0x00 None 0x80 0x80
    -- shown, but written 1
    ∷ row (ready ++ (read 4 (at 0) ∷ [])) 4 0x80 (Some 0x80) 0x80 0x80
    -- read before it was raised: shown 0
    ∷ row (read 4 (at 0) ∷ ready) 4 0x00 (Some 0x00) 0x80 0x80
    -- shown, then cleared by a write of ICDRT and raised again by TRS: it stays set, so that what was shown isn't always cleared
    ∷ row (ready ++ (read 4 (at 0) ∷ write 6 0x55 (at 0) ∷ []) ++ again) 4 0x00 (Some 0x80) 0x80 0x80
    -- shown by a read that isn't the latest
    ∷ row (ready ++ (read 4 (at 0) ∷ write 6 0x55 (at 0) ∷ read 4 (at 0) ∷ []) ++ again) 4 0x00 (Some 0x00) 0x80 0x80
    -- the latest of two
    ∷ row (read 4 (at 0) ∷ ready ++ (read 4 (at 0) ∷ [])) 4 0x00 (Some 0x80) 0x80 0x00
    -- TDRE is cleared, ICDRT goes into the frame, and TDRE is raised again, all in one call
    ∷ row (waiting ++ (read 4 (at 0) ∷ [])) 4 0x00 (Some 0x80) 0x80 0x80
    -- TDRE is raised: a frame begins, with the byte that ICDRT holds
    ∷ row (in_reset (write 0 0x90 (at 0) ∷ write 6 0x55 (at 0) ∷ [])) 4 0xff None 0x00 0x80
    -- a lent read is a read
    ∷ record {
      clocks = still;
      made_by = made ready ++ (lent_read 4 (at 0) ∷ lent_write 3 0x10 (at 0) ∷ []);
      address = 4;
      value = 0x00;
      latest = Some 0x80;
      was = 0x80;
      is = 0x00;
      says = nothing;
    }
    -- a refused read isn't
    ∷ record {
      clocks = zeroed;
      made_by = made (ready ++ (read 4 (at 0) ∷ []));
      address = 4;
      value = 0x00;
      latest = None;
      was = 0x00;
      is = 0x00;
      says = refusal 1;
    }
    ∷ []

abbrev worked : Row → Latest × ℕ × ℕ × Answer
worked r = (
  (reached default_rates r.clocks r.made_by).latest,
  before default_rates r.clocks r.made_by,
  written default_rates r.clocks r.made_by r.address r.value (at 0),
  (outcome_of r.clocks (write r.address r.value (at 0)) (reached default_rates r.clocks r.made_by).state).answer,
)

abbrev expected : Row → Latest × ℕ × ℕ × Answer
expected r = (r.latest, r.was, r.is, r.says)

rows_hold : map worked rows ≡ map expected rows
unfolding Clock.zero_in Clocks.has_zero Parts.redirect_frame Mirror.ordered Reading.peek_at Reading.read_at Registers.register_at Writing.control_set Writing.enter_reset_of Writing.give_data_of Writing.pull_sda_of Writing.redirected Writing.send_on_of Writing.stop_receive_of Writing.take_control_of Writing.out_of_reset_of Writing.write_address_of Writing.write_at Writing.write_command_of Writing.write_control_of Writing.write_data_of Writing.write_enable_of Writing.write_status_of Iic.keep_stretched_of Iic.peek_of Iic.read_of Iic.set_gate_of Iic.turn_gate_of Iic.turn_waits_of Iic.write_of Kick.clock_frame_of Kick.kick_of Kick.launch_of Ready.next_frame_of Shift.begin_frame_of Shift.load_transmit_of Shift.set_hold_of State.initial State.stop_shifter_of Waits.schedule_filter_of Waits.turn_clock_of Waits.turn_filter_of Waits.turn_monitor_of Waits.turn_setup_of Hosts.outcome_of Flags.begin Flags.next Flags.past Rates.rates_hold Rates.lengths_hold Rates.monitor_below Rates.monitor_halves Rates.period_of Rates.rate
rows_hold = refl

-- ## A refused write clears too

-- 1 Hz from time 0 on, and a time at which the system clock has counted 2 ^ 63
abbrev long : Clocks
long = clock_set true (at 0)

abbrev end : Time
end = at (2 ^ 63)

counted : edges_before long.system.clock (time_of end + 1) ≡ 2 ^ 63
counted = edges_before_is long.system.clock (time_of end + 1) (lit< tt) (lit< tt)

too_many : half_after end 28 long.system ≡ Err Overflow
unfolding Half.half_after Clock.zero_in Domain.domain_half_ticks Domain.domain_ticks Domain.halves_of Clock.edges_before_of Time.earlier Time.moment_of Time.next_time
too_many = rw counted refl

-- TDRE was raised in the reset, and a synchronous master receives now; the write that clears TDRE begins its frame, whose clock is refused 7
abbrev receiving : List Call
receiving = in_reset (write 0 0x90 (at 0) ∷ write 0 0xa0 (at 0) ∷ []) ++ (read 4 (at 0) ∷ [])

-- the state before the write, but for ICSR and `seen`
abbrev bare : Iic
bare = set_control 0xa0 (set_address 0x01 (set_receive_enabled true (gated true default_iic)))

-- the state that it leaves
abbrev cleared_state : Iic
cleared_state = set_frame (Some (begun false)) (set_drive (levels false true) bare)

shown_before : reached default_rates long (made receiving) ≡ record { state = set_status 0x80 (set_seen 0x80 bare); latest = Some 0x80 }
unfolding Clock.zero_in Clocks.has_zero Parts.redirect_frame Reading.peek_at Reading.read_at Registers.register_at Writing.control_set Writing.enter_reset_of Writing.stop_receive_of Writing.take_control_of Writing.redirected Writing.write_address_of Writing.write_at Writing.write_command_of Writing.write_control_of Iic.keep_stretched_of Iic.peek_of Iic.read_of Iic.set_gate_of Iic.turn_gate_of Iic.turn_waits_of Iic.write_of Kick.clock_frame_of Kick.kick_of Ready.next_frame_of Shift.load_transmit_of State.initial State.stop_shifter_of Waits.schedule_filter_of Waits.turn_clock_of Waits.turn_filter_of Waits.turn_monitor_of Waits.turn_setup_of Hosts.outcome_of Flags.begin Flags.next Flags.past Rates.rates_hold Rates.lengths_hold Rates.monitor_below Rates.monitor_halves Rates.period_of Rates.rate
shown_before = refl

refused_and_cleared : outcome_of long (write 4 0x00 end) (set_status 0x80 (set_seen 0x80 bare)) ≡ outcome (refusal 7) cleared_state
unfolding Clock.zero_in Clocks.has_zero Registers.register_at Writing.write_at Writing.write_status_of Iic.write_of Kick.clock_frame_of Kick.kick_of Kick.launch_of Ready.low_half_of Ready.next_frame_of Rates.period_of Rates.rate Shift.begin_frame_of Shift.load_transmit_of State.initial Waits.start_clock_of Hosts.outcome_of Rates.rates_hold Rates.lengths_hold Rates.monitor_below Rates.monitor_halves
refused_and_cleared = ap (λ (w : Result HalfWait Refusal). of_step (clock_from w cleared_state)) too_many
