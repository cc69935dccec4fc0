-- Laws: lists of calls with the idle calls struck out, and what those left answer, as one table with one fact. They are worked out over a clock
-- set that stands still, so that no wait is ever due; ClockRows.antt has those with waits.
use Rattle.std.specs.Prelude.{ℕ, Bool, true, false, List, [], ◌∷◌, ◌++◌, map, ◌≡◌, refl}
use Rattle.time.specs.declared.Time.{Time}
use Rattle.clocks.specs.declared.Clocks.{Clocks}
use Rattle.domain.specs.declared.Domain.{Domain}
use Rattle.prescaler.specs.Prescaler.{fresh_s, fresh_w}
use Rattle.time.specs.Time as Time
use Rattle.time.specs.Clock as Clock
use Rattle.clocks.specs.Clocks as Clocks
use Rattle.domain.specs.Domain as Domain
use Rattle.counts.specs.Counts as Counts
use Rattle.clocks.specs.Tap as Tap
use Rattle.clocks.specs.System as System
use Rattle.clocks.specs.Wait as Wait
use Rattle.frames.specs.Mirror as Mirror
use Rattle.frames.specs.Parts as Parts
use Rattle.iic.specs.Calls as Iic
use Rattle.iic.specs.Clocking as Clocking
use Rattle.iic.specs.Kick as Kick
use Rattle.rates.specs.Rates as Rates
use Rattle.rates.specs.Rates.{default_rates}
use Rattle.iic.specs.State as State
use Rattle.iic.specs.Waiting as Waits
use Rattle.iic.specs.Reading as Reading
use Rattle.registers.specs.Registers as Registers
use Rattle.iic.specs.Writing as Writing
use Rattle.iic.specs.Ready as Ready
use Rattle.iic.specs.Shift as Shift
use Rattle.waits.specs.Ends as Ends
use Rattle.hosts.specs.Calls as Hosts
use Rattle.hosts.specs.Calls.{Call, peek, read, write, input_pins, set_gate, deadline, advance, pins, interrupt, interrupt_with_enable, validate, Made, by_value, lent_read, lent_write}
use Rattle.iic.specs.Told.{Answer, nothing, byte}
use Rattle.hosts.specs.Demand3 as Demand3
use Rattle.hosts.specs.Demand3.{Left, left_of, calls}

-- ## Clock sets

abbrev pub at : ℕ → Time
at n = record { seconds = n; fraction = 0 }

-- 1 Hz from a time on
abbrev pub domain : Bool → Time → Domain
domain running t = record { clock = record { start = t; numerator = 1; denominator = 1; ordinal = 0; fraction = 0 }; running = running; held_at = at 0 }

-- a clock set of six such domains
abbrev pub clock_set : Bool → Time → Clocks
clock_set running t = record {
  system = domain running t;
  cpu = domain running t;
  watch = domain running t;
  on_chip = domain running t;
  oscillator = domain running t;
  subclock = domain running t;
  prescaler_s = fresh_s;
  prescaler_w = fresh_w;
}

abbrev pub still : Clocks
still = clock_set false (at 1)

-- ## Lists

abbrev pub made : List Call → List Made
made l = map by_value l

-- every kind of idle call, where the gate is as given
abbrev pub idle_calls : Bool → List Call
idle_calls gate =
    peek 4 ∷ pins ∷ interrupt ∷ interrupt_with_enable 0xff ∷ deadline ∷ validate (at 0) ∷ advance (at 0)
    ∷ read 0 (at 0) ∷ read 1 (at 0) ∷ read 2 (at 0) ∷ read 3 (at 0) ∷ read 5 (at 0) ∷ read 6 (at 0)
    ∷ input_pins true true (at 0) ∷ set_gate gate (at 0) ∷ []

-- every kind of call that isn't idle, but visits; address c chooses ICSR, as 4 does
abbrev other_calls : List Call
other_calls =
    set_gate true (at 0) ∷ write 0 0x80 (at 0) ∷ write 1 0x7d (at 0) ∷ write 2 0x00 (at 0) ∷ write 3 0x00 (at 0) ∷ write 4 0x00 (at 0)
    ∷ write 5 0xa0 (at 0) ∷ write 6 0x55 (at 0) ∷ write 7 0x00 (at 0) ∷ read 4 (at 0) ∷ read 7 (at 0) ∷ read 0xc (at 0)
    ∷ input_pins true false (at 0) ∷ set_gate false (at 0) ∷ []

-- a synchronous slave waits for its byte; then TDRE is seen and written 0, and the kick loads ICDRT and raises TDRE again
abbrev pub sending : List Call
sending = set_gate true (at 0) ∷ write 5 0x01 (at 0) ∷ write 0 0x90 (at 0) ∷ read 4 (at 0) ∷ write 4 0x00 (at 0) ∷ []

-- the reset is lifted from a peripheral that has a frame to begin
abbrev lifting : List Call
lifting = set_gate true (at 0) ∷ write 5 0x01 (at 0) ∷ write 1 0x02 (at 0) ∷ write 0 0x90 (at 0) ∷ write 1 0x00 (at 0) ∷ []

-- the reset is lifted and taken again, from a peripheral that is off
abbrev lifted : List Call
lifted = write 1 0x02 (at 0) ∷ write 1 0x00 (at 0) ∷ write 1 0x02 (at 0) ∷ []

-- calls in one moment, the last of which reads ICSR after a write that raises TDRE, and before it
abbrev one_moment : List Call
one_moment = set_gate true (at 5) ∷ write 5 0x01 (at 5) ∷ write 0 0x90 (at 5) ∷ read 4 (at 5) ∷ []

abbrev other_order : List Call
other_order = set_gate true (at 5) ∷ write 5 0x01 (at 5) ∷ read 4 (at 5) ∷ []

-- two lists that differ in idle calls alone
abbrev pub plain : List Made
plain = made (sending ++ (read 4 (at 0) ∷ []))

abbrev pub visited : List Made
visited = made (idle_calls false ++ sending ++ idle_calls true) ++ (lent_read 4 (at 0) ∷ [])

-- ## The table

-- a list that a host makes, the calls that are left of it, and what the last of them answers
record Row : Type 0 where
  made_by : List Made
  left_are : List Call
  last_says : Answer

abbrev row : List Made → List Call → Answer → Row
row l e a = record { made_by = l; left_are = e; last_says = a }

abbrev rows : List Row
rows =
    row [] [] nothing
    ∷ row (made (idle_calls false)) [] nothing
    ∷ row (made (sending ++ idle_calls true)) sending nothing
    ∷ row (made other_calls) other_calls nothing
    -- a lent call is judged and left as the call of its name
    ∷ row (lent_read 3 (at 0) ∷ lent_write 3 0x10 (at 0) ∷ lent_read 4 (at 0) ∷ []) (write 3 0x10 (at 0) ∷ read 4 (at 0) ∷ []) (byte 0x00)
    -- the first visit after a write that lifts the reset isn't idle, whatever comes between; the second is
    ∷ row (made (lifting ++ (advance (at 0) ∷ advance (at 0) ∷ []))) (lifting ++ (advance (at 0) ∷ [])) nothing
    ∷ row (made (lifted ++ (read 0 (at 0) ∷ advance (at 0) ∷ advance (at 0) ∷ []))) (lifted ++ (advance (at 0) ∷ [])) nothing
    -- times may be equal, and calls in one moment are made in their order (document 02, (c)); an idle call between them is struck
    ∷ row (made one_moment) one_moment (byte 0x80)
    ∷ row (made (other_order ++ (advance (at 5) ∷ write 0 0x90 (at 5) ∷ []))) (other_order ++ (write 0 0x90 (at 5) ∷ [])) nothing
    ∷ row (made other_order) other_order (byte 0x00)
    -- the same calls left, and the same answer
    ∷ row plain (sending ++ (read 4 (at 0) ∷ [])) (byte 0x80)
    ∷ row visited (sending ++ (read 4 (at 0) ∷ [])) (byte 0x80)
    ∷ []

-- the answer of the last of them
abbrev last_answer : List Left → Answer → Answer
last_answer [] a = a
last_answer (p ∷ l) a = last_answer l p.answer

abbrev worked : Row → List Call × Answer
worked r = (calls (left_of default_rates still r.made_by), last_answer (left_of default_rates still r.made_by) nothing)

abbrev expected : Row → List Call × Answer
expected r = (r.left_are, r.last_says)

rows_hold : map worked rows ≡ map expected rows
unfolding Time.earlier Time.next_time Time.same_time Clock.edges_before_of Clock.zero_in Clocks.available_of Clocks.fed_by Clocks.has_zero Clocks.routed_ticks Clocks.source_of Clocks.tap_ticks Domain.domain_ticks Counts.fits Tap.route_of Tap.route_s Tap.route_w Tap.stage_below Tap.stage_of Wait.edge_deadline Wait.left_at Wait.paused_by System.domain_deadline Wait.started_by System.system_after System.system_started_at Wait.wait_deadline Wait.wait_pause Reading.continued_of Writing.control_set Writing.enter_reset_of Writing.give_data_of Reading.peek_at Writing.pull_sda_of Reading.read_at Reading.read_data_of Parts.redirect_frame Writing.redirected Registers.register_at Reading.resumed_of Writing.send_on_of Writing.stop_receive_of Writing.take_control_of Reading.taken_of Writing.write_address_of Writing.write_at Writing.out_of_reset_of Writing.write_control_of Writing.write_data_of Writing.write_enable_of Writing.write_mode_of Writing.write_command_of Writing.write_status_of Iic.advance_of Iic.input_pins_of Iic.keep_stretched_of Iic.peek_of Iic.read_of Iic.set_gate_of Iic.take_pins_of Iic.turn_gate_of Iic.turn_waits_of Iic.visit_of Iic.write_of Clocking.fire_clock_of Clocking.fire_filter_of Clocking.fire_monitor_of Clocking.fire_setup_of Kick.clock_frame_of Kick.kick_of Kick.launch_of Ready.next_frame_of Shift.begin_frame_of Shift.load_transmit_of Shift.set_hold_of State.initial State.stop_shifter_of Ends.due_of Ends.half_end Waits.schedule_filter_of Waits.turn_clock_of Waits.turn_filter_of Waits.turn_monitor_of Waits.turn_setup_of Ends.wait_end Hosts.after Hosts.any_due Hosts.idle Hosts.outcome_of Hosts.start Demand3.left Mirror.ordered Rates.rates_hold Rates.lengths_hold Rates.monitor_below Rates.monitor_halves Rates.period_of Rates.rate
rows_hold = refl
