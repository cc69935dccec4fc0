-- Laws of the stages of a prescaler. Assumes nothing.
use mathlib.Core.Path.{◌≡◌, sym, ap, ◌∙◌, subst}
use Prim.Native.Nat.{ℕ, suc, ◌+◌, ◌*◌, ◌/◌, ◌%◌, ◌^◌, ◌≤◌, ◌<◌}
use native.Mathlib.Nat.{add_comm, add-mul-div_right, div-add-mod', div-lt_iff_lt-mul, le_of_suc-le-suc, mul-le-mul_left, mul-one, one-mul, suc-mul}
use native.Mathlib.Omega.{arith}
use lib.Dec.{lit<}
use lib.Pow.{pow_mono, pow_pos, shl_exact}

-- one shifted left, at 64 bits
pub one_shl : (s : ℕ) → s < 64 → (1 * 2 ^ s) % 2 ^ 64 ≡ 2 ^ s
one_shl s h = shl_exact {a = 1} 1 s 64 (lit< tt) (omega arith) ∙ one-mul (2 ^ s)

-- a stage's step, as the code has it
module _ (s m : ℕ) (le : s ≤ 13) (is : m ≡ 2 ^ s) where
  pub step_pos : 0 < m
  step_pos = subst (λ (n : ℕ). 0 < n) (sym is) (pow_pos s)

  pub step_small : m ≤ 8192
  step_small = subst (λ (n : ℕ). n ≤ 8192) (sym is) (pow_mono {i = s} {j = 13} le)

-- whole steps, and the step that the phase and the rest may make together
pub whole_steps : (p e m : ℕ) → 0 < m → e / m + (p + e % m) / m ≡ (p + e) / m
whole_steps p e m h =
    add_comm (e / m) ((p + e % m) / m) ∙ sym (add-mul-div_right (p + e % m) (e / m) h)
    ∙ ap (λ (n : ℕ). n / m) (regroup p (e % m) (e / m * m) e (div-add-mod' e m))
  where
    regroup : (p r q e : ℕ) → q + r ≡ e → p + r + q ≡ p + e
    regroup p r q e f = omega arith

pub steps_le : (p e m : ℕ) → p < m → (p + e) / m ≤ e
steps_le p e m h =
    le_of_suc-le-suc ((div-lt_iff_lt-mul {k = m} {x = p + e} {y = suc e} (omega arith)).1 (below (suc-mul e m) (mul-le-mul_left e (positive h))))
  where
    positive : p < m → 1 ≤ m
    positive h = omega arith

    below : suc e * m ≡ e * m + m → e * 1 ≤ e * m → p + e < suc e * m
    below f g = let one : e * 1 ≡ e = mul-one e in omega arith
