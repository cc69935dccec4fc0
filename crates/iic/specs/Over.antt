-- Definitions: the calls over the system clock alone, and when they are the calls over a clock set: OverLaws.antt says that they are in a set without
-- a zero whose system domain it is, for a visit and a deadline where the waits that may be on any tap are on that clock.
use Rattle.std.specs.Prelude.{ℕ, Bool, ◌&&◌, cond, Option, Result}
use Rattle.domain.specs.declared.Domain.{Domain}
use Rattle.iic.specs.Answers.{Stepped, and_then, fine, guarded}
use Rattle.iic.specs.Calls.{deadline_by, guard_by, input_pins_by, read_by, write_by}
use Rattle.iic.specs.Clocking.{fire_clock_of, fire_filter_of, fire_monitor_of, fire_setup_of}
use Rattle.iic.specs.Kick.{kick_of}
use Rattle.iic.specs.State.{awake}
use Rattle.iic.specs.declared.Ends.{Ends}
use Rattle.iic.specs.declared.Iic.{Iic}
use Rattle.iic.specs.declared.Answered.{Answered}
use Rattle.time.specs.Clock.{zero_in}
use Rattle.time.specs.declared.Time.{Time}
use Rattle.waits.specs.Ends.{is_on_system, system_end}
use Rattle.refusals.specs.declared.Refusal.{Refusal}

unfoldable pub read_over : Iic → ℕ → Time → Domain → Answered ℕ
read_over s a now system = read_by (zero_in system.clock) s a now system

unfoldable pub write_over : Iic → ℕ → ℕ → Time → Domain → Stepped
write_over s a value now system = write_by (zero_in system.clock) s a value now system

unfoldable pub input_pins_over : Iic → Bool → Bool → Time → Domain → Answered Bool
input_pins_over s scl sda now system = input_pins_by (zero_in system.clock) s scl sda now system

-- the waits of the filter and of the setup, where there are any, are for edges of the system clock itself
abbrev pub waits_on_system : Iic → Bool
waits_on_system s = is_on_system s.filter_wait && is_on_system s.setup_wait

-- when they end, if they are; their taps aren't looked at
abbrev pub system_ends : Iic → Domain → Ends
system_ends s system = record { filter = system_end s.filter_wait system; setup = system_end s.setup_wait system }

unfoldable pub deadline_over : Iic → Domain → Result (Option Time) Refusal
deadline_over s system = deadline_by (zero_in system.clock) (system_ends s system) s system

-- the four waits in the order of a visit, those of the filter and of the setup by their ends, and then what is due
abbrev pub fired_by : Ends → Time → Domain → Stepped → Stepped
fired_by ends now system o =
    and_then (and_then (and_then (and_then (and_then o (fire_filter_of ends.filter now system)) (fire_setup_of ends.setup now))
    (fire_monitor_of now system)) (fire_clock_of now system)) (kick_of now system)

abbrev pub advance_by : Bool → Ends → Iic → Time → Domain → Stepped
advance_by zero ends s now system =
    guarded (guard_by zero s) s (cond (awake s) (fired_by ends now system (fine s)) (fine s))

unfoldable pub advance_over : Iic → Time → Domain → Stepped
advance_over s now system = advance_by (zero_in system.clock) (system_ends s system) s now system
