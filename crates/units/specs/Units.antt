-- Definitions: one unit of a bench, the moment that it names and what it drives (document 02, (g)).
use Rattle.std.specs.Prelude.{Bool, true, false, cond, not, ◌&&◌, None, Option, Some, Err, Ok, Result}
use Rattle.bus.specs.Bus.{levels}
use Rattle.bus.specs.declared.Levels.{Levels}
use Rattle.clocks.specs.declared.Clocks.{Clocks}
use Rattle.time.specs.declared.Time.{Time}
use Rattle.time.specs.Time.{same_time}
use Rattle.iic.specs.declared.Iic.{Iic}
use Rattle.iic.specs.Calls.{deadline_of}
use Rattle.lines.specs.Lines.{may_follow}
use Rattle.refusals.specs.declared.Refusal.{Refusal}

-- ## Moments

abbrev pub is_present : Option Time → Time → Bool
is_present None t = false
is_present (Some now) t = same_time now t

-- "the earliest moment, not before the present one, that .. any deadline names (a refused deadline names none, nor does one whose visit in that
-- moment was refused)": what a deadline names
abbrev pub names_by : Option Time → Bool → Result (Option Time) Refusal → Result (Option Time) Refusal
names_by present refused (Ok None) = (Ok None)
names_by present refused (Ok (Some t)) = cond (may_follow present t && not (refused && is_present present t)) (Ok (Some t)) (Ok None)
names_by present refused (Err n) = (Ok None)

unfoldable pub names_of : Clocks → Option Time → Bool → Iic → Result (Option Time) Refusal
names_of k present refused s = names_by present refused (deadline_of s k)

abbrev pub is_at : Result (Option Time) Refusal → Time → Bool
is_at (Ok None) t = false
is_at (Ok (Some u)) t = same_time u t
is_at (Err n) t = false

-- a peripheral "whose deadline names it", the moment that the bench is in
unfoldable pub is_named : Clocks → Time → Bool → Iic → Bool
is_named k t refused s = is_at (names_of k (Some t) refused s) t

-- ## Wires

abbrev pub released : Levels
released = levels true true

-- "one without pins counts as released"
abbrev pub driven : Option Levels → Levels
driven None = released
driven (Some l) = l
