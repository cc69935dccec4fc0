-- Laws on plain numbers that the proofs of the products and of one less cite.
-- Assumes nothing.
use Rattle.std.proofs.Common.{◌≡◌, ℕ, ◌+◌, ◌-◌, ◌*◌, ◌/◌, ◌%◌, ◌^◌, ◌<◌, ◌≤◌, sym, refl, ap, ◌∙◌, subst, le_trans, le_of_eq, le_refl, le-add_right, lt_of_le_of_lt, le_of_lt, add_assoc, add-le-add, mul_assoc, mul_comm, add-mul, add_comm, lt_of_mul-lt-mul_right, mul-le-mul_left, mul-lt-mul_of_pos_right, mul-add, mul_right_comm, mul_left_comm, arith, pow_pos, pow-add}
use mathlib.Core.Path.{subst⁻¹}
use native.Mathlib.Nat.{add_left_comm}
use lib.Arith.{digits_lt}
use lib.Pow.{split}

-- the product of two numbers of k bits has at most k + k
pub below : (k : ℕ) {a b : ℕ} → a < 2 ^ k → b < 2 ^ k → a * b < 2 ^ (k + k)
below k {a} {b} ha hb =
    subst⁻¹ (λ (n : ℕ). a * b < n) (pow-add 2 k k)
    (lt_of_le_of_lt (mul-le-mul_left a (le_of_lt hb)) (mul-lt-mul_of_pos_right ha (pow_pos k)))

-- the high part of a number of j + k bits has j
pub high_lt : (j k h l : ℕ) {x : ℕ} → h * 2 ^ k + l ≡ x → x < 2 ^ (j + k) → h < 2 ^ j
high_lt j k h l {x} e b =
    lt_of_mul-lt-mul_right (2 ^ k) {m = h} {n = 2 ^ j} (lt_of_le_of_lt (le_trans (le-add_right (h * 2 ^ k) l) (le_of_eq e)) (subst (λ (n : ℕ). x < n) (pow-add 2 j k) b))

-- the product of two numbers of two digits each, in any base
spread : (P a₁ a₀ b₁ b₀ : ℕ) → (a₁ * P + a₀) * (b₁ * P + b₀) ≡ a₁ * b₁ * (P * P) + (a₁ * b₀ + a₀ * b₁) * P + a₀ * b₀
spread P a₁ a₀ b₁ b₀ = simp (mul-add, add-mul, mul_assoc, mul_comm, mul_left_comm, add_assoc, add_comm, add_left_comm) refl

-- the four products of the halves, of which the words c and m make the sum of the two across
carried : (p q r s c m : ℕ) → c * 2 ^ 64 + m ≡ q + r
    → (s + c * 2 ^ 32 + m / 2 ^ 32 + (p / 2 ^ 32 + m % 2 ^ 32) / 2 ^ 32) * 2 ^ 64 + ((p / 2 ^ 32 + m % 2 ^ 32) % 2 ^ 32 * 2 ^ 32 + p % 2 ^ 32)
    ≡ s * (2 ^ 32 * 2 ^ 32) + (q + r) * 2 ^ 32 + p
carried p q r s c m e = omega arith

module _ (a b c m : ℕ) (across : c * 2 ^ 64 + m ≡ a / 2 ^ 32 * (b % 2 ^ 32) + a % 2 ^ 32 * (b / 2 ^ 32)) where
  abbrev bottom : ℕ
  bottom = a % 2 ^ 32 * (b % 2 ^ 32)

  abbrev middle : ℕ
  middle = bottom / 2 ^ 32 + m % 2 ^ 32

  abbrev top : ℕ
  top = a / 2 ^ 32 * (b / 2 ^ 32) + c * 2 ^ 32 + m / 2 ^ 32 + middle / 2 ^ 32

  pub whole : top * 2 ^ 64 + (middle % 2 ^ 32 * 2 ^ 32 + bottom % 2 ^ 32) ≡ a * b
  whole =
      carried bottom (a / 2 ^ 32 * (b % 2 ^ 32)) (a % 2 ^ 32 * (b / 2 ^ 32)) (a / 2 ^ 32 * (b / 2 ^ 32)) c m across
      ∙ sym (sym (λ i. split a 32 i * split b 32 i) ∙ spread (2 ^ 32) (a / 2 ^ 32) (a % 2 ^ 32) (b / 2 ^ 32) (b % 2 ^ 32))

  pub top_fits : a < 2 ^ 64 → b < 2 ^ 64 → top < 2 ^ 64
  top_fits ha hb = high_lt 64 64 top (middle % 2 ^ 32 * 2 ^ 32 + bottom % 2 ^ 32) whole (below 64 ha hb)

-- the product of a number of two words and a word, from the products of its words
module _ (h l m u₁ u₀ l₁ l₀ s₁ s₀ : ℕ) (upper : u₁ * 2 ^ 64 + u₀ ≡ h * m) (lower : l₁ * 2 ^ 64 + l₀ ≡ l * m) (sums : s₁ * 2 ^ 64 + s₀ ≡ u₀ + l₁) where
  tops : (u₁ + s₁) * 2 ^ 64 + s₀ ≡ h * m + l₁
  tops = omega arith

  pub tops_fit : h < 2 ^ 64 → m < 2 ^ 64 → l < 2 ^ 64 → u₁ + s₁ < 2 ^ 64
  tops_fit hh hm hl =
      high_lt 64 64 (u₁ + s₁) s₀ tops
      (lt_of_le_of_lt (add-le-add (mul-le-mul_left h (le_of_lt hm)) (le_refl l₁)) (digits_lt {q = h} {m = 2 ^ 64} {r = l₁} {c = 2 ^ 64} hh (high_lt 64 64 l₁ l₀ lower (below 64 hl hm))))

  pub three : ((u₁ + s₁) * 2 ^ 64 + s₀) * 2 ^ 64 + l₀ ≡ (h * 2 ^ 64 + l) * m
  three = joined ((u₁ + s₁) * 2 ^ 64 + s₀) (h * m) (l * m) l₁ l₀ tops lower ∙ sym (add-mul (h * 2 ^ 64) l m ∙ ap (λ (x : ℕ). x + l * m) (mul_right_comm h (2 ^ 64) m))
    where
      joined : (x u n l₁ l₀ : ℕ) → x ≡ u + l₁ → l₁ * 2 ^ 64 + l₀ ≡ n → x * 2 ^ 64 + l₀ ≡ u * 2 ^ 64 + n
      joined x u n l₁ l₀ e f = omega arith

-- the upper part of a number less one
pub less_some : (x l f : ℕ) → f < l → l < 2 ^ 64 → x ≡ (x * 2 ^ 64 + l - 1 - f) / 2 ^ 64
less_some x l f some h = omega arith

pub less_none : (x l f : ℕ) → l ≤ f → f < 2 ^ 64 → x - 1 ≡ (x * 2 ^ 64 + l - 1 - f) / 2 ^ 64
less_none x l f none h = omega arith
