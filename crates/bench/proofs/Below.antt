-- The units that script lines name.
-- Assumes nothing.
use Prim.Native.Nat.{ℕ, ◌<◌}
use mathlib.Core.Bool.{Bool, true, false, cond}
use mathlib.Core.Path.{◌≡◌, refl, subst}
use lib.Dec.{leb}
use borrow.Author.Tests.{leb-false}
use Rattle.std.specs.Prelude.{Option, None, Some, Result, Ok, Err}
use Rattle.lines.specs.declared.Call.{Call}
use Rattle.lines.specs.Lines.{may_follow}
use Rattle.time.specs.declared.Time.{Time}
use Rattle.script.specs.declared.Unplayed.{Unplayed}
use Rattle.script.specs.declared.Unplayed.TheVariants.{Unread, Early}
use Rattle.script.specs.Script.{judged_as, judged_by}

-- the unit of a line that isn't refused 4 is below the number of units
abbrev pub Below : ℕ → Result (ℕ × Call) Unplayed → Type 0
Below count (Ok x) = x.0 < count
Below count (Err Unread) = Unit {0}
Below count (Err (Early u)) = u < count

there : (count : ℕ) (line : Option (ℕ × Call)) (last : Option Time) → Below count (judged_by count line last)
unfolding judged_by judged_as
there count None last = tt
there count (Some (u, c)) last = go (leb count u) refl (may_follow last c.time)
  where
    go : (b : Bool) → leb count u ≡ b → (f : Bool) → Below count (cond b (Err Unread) (cond f (Ok (u, c)) (Err (Early u))))
    go true e f = tt
    go false e true = leb-false count u e
    go false e false = leb-false count u e

pub below : (count : ℕ) (line : Option (ℕ × Call)) (last : Option Time) (r : Result (ℕ × Call) Unplayed) → judged_by count line last ≡ r → Below count r
below count line last r e = subst (Below count) e (there count line last)
