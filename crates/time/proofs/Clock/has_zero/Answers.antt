-- `time::Clock::has_zero` meets its contract: no fraction is below a numerator of zero.
-- Assumes nothing.
use Rattle.std.proofs.Common.{◌≡◌, ℕ, Bool, true, false, not, ◌||◌, eqb, ltb, leb, refl, ⊎_elim, arith, le-ltb, lt-ltb, ne_eqb, le-leb}
use borrow.Author.Tests.{lt-leb}
use Rattle.time.specs.Clock.{zero_in}
use Rattle.time.proofs.Laws.{lt_or_le}
use Rattle.time.proofs.Clock.has_zero.Goals as goal

unordered : (z d : Bool) → (d || true) ≡ (z || d || true)
unordered true true = refl
unordered true false = refl
unordered false true = refl
unordered false false = refl

two_tests : (h d f : ℕ) → (eqb d 0 || leb h f) ≡ (eqb h 0 || eqb d 0 || not (ltb f h))
two_tests h d f =
    ⊎_elim
    (λ less. rw (lt-leb h f less, lt-ltb f h less, ne_eqb h 0 (λ e. omega arith)) refl)
    (λ le. rw (le-leb h f le, le-ltb f h le) (unordered (eqb h 0) (eqb d 0)))
    (lt_or_le f h)

pub returns : goal.returns
unfolding zero_in
returns c =
    let a = c.args in
    two_tests a.self.numerator a.self.denominator a.self.fraction
