-- Definitions: the filter's part of a unit, its view: what two units are to have in common, and what becomes of it at a moment and when levels are told. It goes
-- by the moment and the levels alone. No paper has it: it is for the proof.
use Rattle.std.specs.Prelude.{Bool, true, not, ◌&&◌, ◌||◌, cond, Err, None, Ok, Option, Result, Some}
use Rattle.bus.specs.Bus.{levels, same_levels}
use Rattle.bus.specs.declared.Levels.{Levels}
use Rattle.clocks.specs.System.{system_after}
use Rattle.clocks.specs.declared.Clocks.{Clocks}
use Rattle.hosts.specs.Calls.{is_now}
use Rattle.iic.specs.Filter.{passed}
use Rattle.time.specs.declared.Time.{Time}
use Rattle.waits.specs.Ends.{due_of, is_wait, wait_end}
use Rattle.clocks.specs.declared.wait.ClockWait.{ClockWait}
use Rattle.refusals.specs.declared.Refusal.{Refusal}

pub record View : Type 0 where
  pub raw : Levels
  pub latch : Levels
  pub filtered : Levels
  pub filter : Option ClockWait

abbrev pub view : Levels → Levels → Levels → Option ClockWait → View
view r l f w = record { raw = r; latch = l; filtered = f; filter = w }

-- the default's
abbrev pub default_view : View
default_view = view (levels true true) (levels true true) (levels true true) None

-- a level is still on its way, and the filter doesn't wait
abbrev pub unawaited : View → Bool
unawaited v = not (is_wait v.filter) && (not (same_levels v.raw v.latch) || not (same_levels v.latch v.filtered))

-- ## After a step

abbrev pub made : Result ClockWait Refusal → Option ClockWait
made (Ok w) = Some w
made (Err n) = None

-- the filter's wait is started where a level is on its way and there is none
abbrev pub scheduled : Time → Clocks → View → View
scheduled now k v = cond (unawaited v) (view v.raw v.latch v.filtered (made (system_after now 1 k.system))) v

-- the filter's clock: the levels that were seen twice pass
abbrev pub clocked : View → View
clocked v =
    view v.raw v.raw
    (levels (passed v.raw.scl v.latch.scl v.filtered.scl) (passed v.raw.sda v.latch.sda v.filtered.sda)) None

-- at a moment: where the filter's wait is due, it fires
abbrev pub fired : Time → Clocks → View → View
fired now k v = cond (is_now (due_of (wait_end v.filter k) now)) (scheduled now k (clocked v)) v

-- levels are told
abbrev pub told : Levels → Time → Clocks → View → View
told given now k v = cond (same_levels v.raw given) v (scheduled now k (view given v.latch v.filtered v.filter))
