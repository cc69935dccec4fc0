-- Laws of shifts: by a power of two, and of the shift that sets a divisor's top bit. The proofs of `scaled_shift` and `divide_long` cite them.
-- Assumes nothing.
use Rattle.std.proofs.Common.{◌≡◌, ℕ, suc, ◌+◌, ◌-◌, ◌*◌, ◌/◌, ◌%◌, ◌^◌, ◌<◌, ◌≤◌, sym, ap, ◌∙◌, subst, le_trans, lt_trans, le_of_eq, le_of_lt, add_assoc, add-suc, mul-le-mul_right, mod-lt, mod-eq_of_lt, mul_assoc, mul_comm, add-mul, add_comm, mul-lt-mul_of_pos_right, pow-suc, div-add-mod', sub-add_cancel, arith, pow_pos, pow-add, shl_lt, shr-shr, shr_lt}
use native.Mathlib.Nat.{suc_inj, mul-div-mul_right}
use lib.Arith.{digits_lt}
use lib.Count.{count_leading_zeros, leading_top}
use lib.Pow.{shl-shr}
use Rattle.words.specs.Words.{Divides}
use Rattle.words.proofs.Quotients.{steps, unscaled}

-- 2 ^ 64 in two factors
word_split : (s : ℕ) → s ≤ 64 → 2 ^ 64 ≡ 2 ^ (64 - s) * 2 ^ s
word_split s le = ap (λ (x : ℕ). 2 ^ x) (sym (sub-add_cancel {n = 64} {m = s} le)) ∙ pow-add 2 (64 - s) s

-- a word shifted by s: the bits that leave it, and those that stay
shifted_low : (l s : ℕ) → s ≤ 64 → l / 2 ^ (64 - s) * 2 ^ 64 + (l * 2 ^ s) % 2 ^ 64 ≡ l * 2 ^ s
shifted_low l s le =
    ap (λ (x : ℕ). x * 2 ^ 64 + (l * 2 ^ s) % 2 ^ 64) (sym (ap (λ (x : ℕ). l * 2 ^ s / x) (word_split s le) ∙ mul-div-mul_right {m = 2 ^ s} l (2 ^ (64 - s)) (pow_pos s)))
    ∙ div-add-mod' (l * 2 ^ s) (2 ^ 64)

-- n * 2 ^ 64 by a power of two, in words: n shifted down, and what leaves it
pub scaled_power : (n k : ℕ) → k < 64 → n / 2 ^ k * 2 ^ 64 + ((n * 2 ^ (63 - k)) % 2 ^ 64 * 2) % 2 ^ 64 ≡ n * 2 ^ 64 / 2 ^ k
scaled_power n k less =
    let le : k ≤ 64 = omega arith in
    let back : k ≡ 64 - (64 - k) = omega arith in
    let more : 64 - k ≡ suc (63 - k) = omega arith in
    ap (λ (x : ℕ). n / 2 ^ k * 2 ^ 64 + x) (twice (n * 2 ^ (63 - k)) ∙ ap (λ (x : ℕ). x % 2 ^ 64) (mul_assoc n (2 ^ (63 - k)) 2 ∙ ap (λ (x : ℕ). n * x) (sym (pow-suc 2 (63 - k)) ∙ ap (λ (x : ℕ). 2 ^ x) (sym more))))
    ∙ ap (λ (x : ℕ). n / 2 ^ x * 2 ^ 64 + (n * 2 ^ (64 - k)) % 2 ^ 64) back
    ∙ shifted_low n (64 - k) (omega arith)
    ∙ sym (ap (λ (x : ℕ). n * x / 2 ^ k) (word_split k le) ∙ ap (λ (x : ℕ). x / 2 ^ k) (sym (mul_assoc n (2 ^ (64 - k)) (2 ^ k))) ∙ shl-shr (n * 2 ^ (64 - k)) k)
  where
    twice : (y : ℕ) → (y % 2 ^ 64 * 2) % 2 ^ 64 ≡ (y * 2) % 2 ^ 64
    twice y = omega arith

-- two words shifted by s
shifted_both : (h l s : ℕ) → s ≤ 64 → (h * 2 ^ s + l / 2 ^ (64 - s)) * 2 ^ 64 + (l * 2 ^ s) % 2 ^ 64 ≡ (h * 2 ^ 64 + l) * 2 ^ s
shifted_both h l s le =
    ap (λ (x : ℕ). x + (l * 2 ^ s) % 2 ^ 64) (add-mul (h * 2 ^ s) (l / 2 ^ (64 - s)) (2 ^ 64)) ∙ add_assoc (h * 2 ^ s * 2 ^ 64) (l / 2 ^ (64 - s) * 2 ^ 64) ((l * 2 ^ s) % 2 ^ 64)
    ∙ ap (λ (x : ℕ). h * 2 ^ s * 2 ^ 64 + x) (shifted_low l s le)
    ∙ ap (λ (x : ℕ). x + l * 2 ^ s) (mul_assoc h (2 ^ s) (2 ^ 64) ∙ ap (λ (x : ℕ). h * x) (mul_comm (2 ^ s) (2 ^ 64)) ∙ sym (mul_assoc h (2 ^ 64) (2 ^ s)))
    ∙ sym (add-mul (h * 2 ^ 64) l (2 ^ s))

halves : (x y : ℕ) → (x * 2 ^ 32 + y / 2 ^ 32) * 2 ^ 32 + y % 2 ^ 32 ≡ x * 2 ^ 64 + y
halves x y = omega arith

-- the number h * 2 ^ 64 + l and the divisor m, as `divide_long` shifts them
module _ (h l m : ℕ) (less : h < m) (wm : m < 2 ^ 64) (wl : l < 2 ^ 64) where
  abbrev s : ℕ
  s = count_leading_zeros 64 m

  abbrev divisor : ℕ
  divisor = (m * 2 ^ s) % 2 ^ 64

  abbrev top : ℕ
  top = (h * 2 ^ s) % 2 ^ 64 + l / 2 / 2 ^ (63 - s)

  abbrev rest : ℕ
  rest = (l * 2 ^ s) % 2 ^ 64

  bits : (j : ℕ) × (s + suc j ≡ 64) × (2 ^ j ≤ m) × (m < 2 ^ suc j)
  bits = leading_top 64 m (omega arith) wm

  pub short : s < 64
  short = let e : s + suc bits.0 ≡ 64 = bits.1 in omega arith

  below : m * 2 ^ s < 2 ^ 64
  below = subst (λ (x : ℕ). m * 2 ^ s < 2 ^ x) (add_comm (suc bits.0) s ∙ bits.1) (shl_lt {a = m} (suc bits.0) s bits.3)

  divisor_is : divisor ≡ m * 2 ^ s
  divisor_is = mod-eq_of_lt below

  pub divisor_top : 2 ^ 63 ≤ divisor
  divisor_top =
      let j = bits.0 in
      subst (λ (x : ℕ). 2 ^ 63 ≤ x) (sym divisor_is) (subst (λ (x : ℕ). 2 ^ x ≤ m * 2 ^ s) (add_comm j s ∙ suc_inj (sym (add-suc s j) ∙ bits.1)) (le_trans (le_of_eq (pow-add 2 j s)) (mul-le-mul_right (2 ^ s) bits.2)))

  top_is : top ≡ h * 2 ^ s + l / 2 ^ (64 - s)
  top_is =
      let k : 1 + (63 - s) ≡ 64 - s = omega (arith, short) in
      ap (λ (x : ℕ). x + l / 2 / 2 ^ (63 - s)) (mod-eq_of_lt (lt_trans (mul-lt-mul_of_pos_right {m = h} {n = m} {k = 2 ^ s} less (pow_pos s)) below))
      ∙ ap (λ (x : ℕ). h * 2 ^ s + x) (shr-shr l 1 (63 - s) ∙ ap (λ (x : ℕ). l / 2 ^ x) k)

  pub top_lt : top < divisor
  top_lt =
      subst (λ (x : ℕ). x < divisor) (sym top_is)
      (subst (λ (x : ℕ). h * 2 ^ s + l / 2 ^ (64 - s) < x) (sym divisor_is)
      (digits_lt {q = h} {m = m} {r = l / 2 ^ (64 - s)} {c = 2 ^ s} less (shr_lt {n = l} s (64 - s) (subst (λ (x : ℕ). l < 2 ^ x) (sym (add_comm s (64 - s) ∙ sub-add_cancel {n = 64} {m = s} (le_of_lt short))) wl))))

  pub top_fits : top < 2 ^ 64
  top_fits = lt_trans top_lt (mod-lt (m * 2 ^ s) (pow_pos 64))

  shifted : (top * 2 ^ 32 + rest / 2 ^ 32) * 2 ^ 32 + rest % 2 ^ 32 ≡ (h * 2 ^ 64 + l) * 2 ^ s
  shifted = halves top rest ∙ ap (λ (x : ℕ). x * 2 ^ 64 + rest) top_is ∙ shifted_both h l s (le_of_lt short)

  -- two digits of the shifted number make the quotient, and the last remainder, shifted back, the remainder
  pub shifted_back : {q₁ r₁ q₀ r₀ : ℕ} → Divides (top * 2 ^ 32 + rest / 2 ^ 32) divisor q₁ r₁ → Divides (r₁ * 2 ^ 32 + rest % 2 ^ 32) divisor q₀ r₀ → Divides (h * 2 ^ 64 + l) m (q₁ * 2 ^ 32 + q₀) (r₀ / 2 ^ s)
  shifted_back {q₁} {r₁} {q₀} {r₀} first second =
      let d = steps (2 ^ 32) (rest % 2 ^ 32) first second in
      unscaled (2 ^ s) (pow_pos s) (record {
        whole = ap (λ (x : ℕ). (q₁ * 2 ^ 32 + q₀) * x + r₀) (sym divisor_is) ∙ d.whole ∙ shifted;
        less = subst (λ (x : ℕ). r₀ < x) divisor_is d.less;
      })
