-- Laws: a report leaves what the unit drives, so that the wires would be the same if they were read anew before each report. Assumes nothing.
use Rattle.std.specs.Prelude.{Bool, ◌≡◌, refl, eqb, Err, Ok, Result, ⊤}
use Rattle.bus.specs.Bus.{levels, same_levels}
use Rattle.clocks.specs.Clocks.{has_zero}
use Rattle.clocks.specs.System.{system_after}
use Rattle.clocks.specs.declared.Clocks.{Clocks}
use Rattle.iic.specs.Calls.{guard_by, input_pins_of, pins_of, take_pins_of}
use Rattle.iic.specs.Setters.{set_raw}
use Rattle.iic.specs.Waiting.{filter_from, schedule_filter_of, wants_filter}
use Rattle.iic.specs.declared.Iic.{Iic}
use Rattle.iic.specs.Answers.{Stepped, guarded}
use Rattle.time.specs.Truths.{either}
use Rattle.time.specs.declared.Time.{Time}
use Rattle.clocks.specs.declared.wait.ClockWait.{ClockWait}
use Rattle.refusals.specs.declared.Refusal.{Refusal}

pub drives_on : (s : Iic) (scl sda : Bool) (now : Time) (k : Clocks) → pins_of (input_pins_of s scl sda now k).state ≡ pins_of s
unfolding input_pins_of take_pins_of schedule_filter_of
drives_on s scl sda now k = by (guard_by (has_zero k) s)
  where
    Same : Stepped → Type 0
    Same o = pins_of o.state ≡ pins_of s

    started : (w : Result ClockWait Refusal) → pins_of (filter_from w (set_raw (levels scl sda) s)).state ≡ pins_of s
    started (Ok w) = refl
    started (Err n) = refl

    by : (g : Result ⊤ Refusal) → Same (guarded g s (take_pins_of (levels scl sda) now k.system s))
    by (Ok u) =
        either Same (same_levels s.lines.raw (levels scl sda)) refl
        (either Same (wants_filter (set_raw (levels scl sda) s)) (started (system_after now 1 k.system)) refl)
    by (Err n) = refl
