use mathlib.Core.Path.{◌≡◌, refl, sym, subst}
use mathlib.Core.Bool.{Bool, true, false, ◌&&◌}
use Prim.Native.Nat.{ℕ, ◌≤◌, ◌<◌}
use native.Mathlib.Omega.{arith}
use lib.Dec.{T, ltb, leb}
use borrow.Author.Tests.{leb-true, leb-false, ltb-true, ltb-false, lt-ltb, le-ltb}
use Rattle.lines.specs.Reading.{digit_of}
use Rattle.lines.proofs.reading.value.Goals as goal

both : (x y : Bool) → (x && y) ≡ true → (x ≡ true) × (y ≡ true)
both true y e = (refl, e)
both false y e = absurd (subst T (sym e) tt)

between : (a n b : ℕ) → (leb a n && ltb n b) ≡ true → (a ≤ n) × (n < b)
between a n b e = let p = both (leb a n) (ltb n b) e in (leb-true a n p.0, ltb-true n b p.1)

neither : (n : ℕ) (p q r s : Bool) → leb 48 n ≡ p → ltb n 58 ≡ q → leb 97 n ≡ r → ltb n 103 ≡ s → (p && q) ≡ false → (r && s) ≡ false
    → 16 ≡ digit_of n
unfolding digit_of
neither n false q r s ep eq er es e f = simp (lt-ltb n 48 (leb-false 48 n ep))
neither n true true r s ep eq er es e f = absurd (subst T e tt)
neither n true false false s ep eq er es e f =
    simp (le-ltb n 48 (leb-true 48 n ep), le-ltb n 58 (ltb-false n 58 eq), lt-ltb n 97 (leb-false 97 n er))
neither n true false true true ep eq er es e f = absurd (subst T f tt)
neither n true false true false ep eq er es e f =
    simp (le-ltb n 48 (leb-true 48 n ep), le-ltb n 58 (ltb-false n 58 eq), le-ltb n 97 (leb-true 97 n er), le-ltb n 103 (ltb-false n 103 es))

pub overflow_sub-result : goal.overflow_sub-result
overflow_sub-result c = let p = between 48 c.args.b 58 c.if-decimal.true in omega (arith, p.0)

pub returns-then-decimal : goal.returns-then-decimal
unfolding digit_of
returns-then-decimal c =
    let p = between 48 c.args.b 58 c.if-decimal.true in record { value = simp (le-ltb c.args.b 48 p.0, lt-ltb c.args.b 58 p.1); bound = omega (arith, p.0, p.1) }

pub overflow_sub-result-then-letter : goal.overflow_sub-result-then-letter
overflow_sub-result-then-letter c = let p = between 97 c.args.b 103 c.if-letter.true in omega (arith, p.0)

pub returns-then-letter : goal.returns-then-letter
unfolding digit_of
returns-then-letter c =
    let b = c.args.b in
    let p = between 97 b 103 c.if-letter.true in
    record { value = simp (le-ltb b 48 (omega (arith, p.0)), le-ltb b 58 (omega (arith, p.0)), le-ltb b 97 p.0, lt-ltb b 103 p.1); bound = omega (arith, p.0, p.1) }

pub returns-else-letter : goal.returns-else-letter
returns-else-letter c = record { value = neither _ _ _ _ _ refl refl refl refl c.if-decimal.false c.if-letter.false; bound = omega arith }
