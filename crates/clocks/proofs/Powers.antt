-- The stage of a power of two, and that any other number has none. Assumes nothing.
use mathlib.Core.Path.{◌≡◌, refl, sym, ap, ◌∙◌}
use mathlib.Core.Logic.{⊎_elim}
use Prim.Native.Nat.{ℕ, zero, suc, ◌*◌, ◌^◌, ◌<◌}
use native.Mathlib.Nat.{add-zero, eq-or-lt_of_le, le_of_suc-le-suc, not-suc-le-zero, one-mul}
use native.Mathlib.Omega.{arith}
use lib.Pow.{pow-lt, pow_pos}
use lib.Count.{ones, ones_cat}
use borrow.Author.Tests.{eq-eqb, ne_eqb}
use Rattle.clocks.specs.Tap.{stage_below}
use Rattle.std.specs.Prelude.{Some, None}

-- a power has one bit set
pub ones_power : (s : ℕ) → ones (2 ^ s) ≡ 1
unfolding ones
ones_power s = ap ones (sym (add-zero (1 * 2 ^ s) ∙ one-mul (2 ^ s))) ∙ ones_cat s 1 0 (pow_pos s)

-- powers of different exponents differ
power_ne : (i j : ℕ) → i < j → 2 ^ i ≡ 2 ^ j → ⊥
power_ne i j h e = let l : 2 ^ i < 2 ^ j = pow-lt h in omega arith

pub stage_at : (k s d : ℕ) → s < k → d ≡ 2 ^ s → Some s ≡ stage_below k d
unfolding stage_below
stage_at zero s d h e = absurd (not-suc-le-zero h)
stage_at (suc k) s d h e =
    ⊎_elim
    (λ z. sym (rw (eq-eqb d (2 ^ k) (e ∙ ap (λ (x : ℕ). 2 ^ x) z)) (ap Some (sym z))))
    (λ z. sym (rw (ne_eqb d (2 ^ k) (λ f. power_ne s k z (sym e ∙ f))) (sym (stage_at k s d z e))))
    (eq-or-lt_of_le (le_of_suc-le-suc h))

pub stage_none : (k d : ℕ) → (ones d ≡ 1 → ⊥) → None ≡ stage_below k d
unfolding stage_below
stage_none zero d h = refl
stage_none (suc k) d h = sym (rw (ne_eqb d (2 ^ k) (λ e. h (ap ones e ∙ ones_power k))) (sym (stage_none k d h)))
