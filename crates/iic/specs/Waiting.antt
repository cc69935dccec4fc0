-- Definitions: how the four waits of a state start, pause and resume (document 01, Registers and steps; numbers in brackets are lines of iic.rs).
-- The peripheral runs on the system clock: each wait that it starts is on that, so what starts one takes the system domain. Only a wait of the
-- filter or of the setup in a state that is handed in can be on another tap of the set.
use Rattle.clocks.specs.System.{system_after}
use Rattle.clocks.specs.declared.Clocks.{Clocks}
use Rattle.domain.specs.declared.Domain.{Domain}
use Rattle.iic.specs.Answers.{Stepped, fine, refused}
use Rattle.iic.specs.Setters.{set_filter_wait, set_setup_wait, set_clock_wait, set_monitor_wait}
use Rattle.iic.specs.declared.Iic.{Iic}
use Rattle.iic.specs.Filter.{unsettled}
use Rattle.iic.specs.State.{awake}
use Rattle.time.specs.declared.Time.{Time}
use Rattle.waits.specs.Ends.{is_wait, turn_half, turn_wait}
use Rattle.waits.specs.Half.{half_after}
use Rattle.rates.specs.Rates.{monitor_halves, period_of, setup_cycles}
use Rattle.std.specs.Prelude.{Bool, ◌&&◌, cond, not, Err, None, Ok, Option, Result, Some}
use Rattle.clocks.specs.declared.wait.ClockWait.{ClockWait}
use Rattle.refusals.specs.declared.Refusal.{Refusal}
use Rattle.waits.specs.declared.HalfWait.{HalfWait}

-- ## Starting: a wait that was made is the state's, a refused one leaves the state at that point

abbrev pub wait_from : {W : Type 0} → (Option W → Iic → Iic) → Result W Refusal → Iic → Stepped
wait_from set (Ok w) s = fine (set (Some w) s)
wait_from set (Err n) s = refused n s

abbrev pub clock_from : Result HalfWait Refusal → Iic → Stepped
clock_from w s = wait_from set_clock_wait w s

abbrev pub monitor_from : Result HalfWait Refusal → Iic → Stepped
monitor_from w s = wait_from set_monitor_wait w s

abbrev pub filter_from : Result ClockWait Refusal → Iic → Stepped
filter_from w s = wait_from set_filter_wait w s

abbrev pub setup_from : Result ClockWait Refusal → Iic → Stepped
setup_from w s = wait_from set_setup_wait w s

-- half a clock from now on (552, 555, 775, 808, 850, 864, 879)
unfoldable pub start_clock_of : Time → Domain → Iic → Stepped
start_clock_of now system s = clock_from (half_after now (period_of s.rates s.registers.control) system) s

-- until a rising clock is looked at (881)
unfoldable pub start_monitor_of : Time → Domain → Iic → Stepped
start_monitor_of now system s = monitor_from (half_after now (monitor_halves s.rates s.registers.control) system) s

-- before a slave releases SCL (777)
unfoldable pub start_setup_of : Time → Domain → Iic → Stepped
start_setup_of now system s = setup_from (system_after now (setup_cycles s.rates s.registers.control) system) s

-- `schedule_filter`: enabled, gate on, no such wait yet, and a level still on its way through the filter (416)
abbrev pub wants_filter : Iic → Bool
wants_filter s = awake s && not (is_wait s.filter_wait) && unsettled s

-- one clock from now on (422)
abbrev pub start_filter_of : Time → Domain → Iic → Stepped
start_filter_of now system s = filter_from (system_after now 1 system) s

unfoldable pub schedule_filter_of : Time → Domain → Iic → Stepped
schedule_filter_of now system s = cond (wants_filter s) (start_filter_of now system s) (fine s)

-- ## `set_gate`, and a stretched clock: waits resume (true) and pause (false)

-- a step of a wait, where there is one
abbrev pub at_wait : {W : Type 0} → Option W → (W → Iic → Stepped) → Iic → Stepped
at_wait None f s = fine s
at_wait (Some w) f s = f w s

-- the clock's (385 to 394), and while SCL is stretched (397, 497, 546)
unfoldable pub turn_clock_of : Bool → Time → Domain → Iic → Stepped
turn_clock_of gate now system s = at_wait s.clock_wait (λ w. clock_from (turn_half gate now system w)) s

unfoldable pub turn_monitor_of : Bool → Time → Domain → Iic → Stepped
turn_monitor_of gate now system s = at_wait s.monitor_wait (λ w. monitor_from (turn_half gate now system w)) s

-- the filter's, then the setup's, by their taps (400 to 409)
unfoldable pub turn_filter_of : Bool → Time → Clocks → Iic → Stepped
turn_filter_of gate now k s = at_wait s.filter_wait (λ w. filter_from (turn_wait gate now k w)) s

unfoldable pub turn_setup_of : Bool → Time → Clocks → Iic → Stepped
turn_setup_of gate now k s = at_wait s.setup_wait (λ w. setup_from (turn_wait gate now k w)) s
