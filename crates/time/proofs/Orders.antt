-- Laws on the order, the equality, the difference and the half of numbers of two words, which the proofs of `Time` cite.
-- Assumes nothing.
use Rattle.std.proofs.Common.{◌≡◌, ℕ, ◌+◌, ◌-◌, ◌*◌, ◌/◌, ◌%◌, ◌^◌, ◌<◌, ◌≤◌, Bool, true, false, ◌&&◌, eqb, ltb, sym, refl, ◌∙◌, ⊎_elim, arith, le-ltb, lt-ltb, eq-eqb, ne_eqb, eqb-true}
use borrow.Author.Tests.{eqb-false}
use Rattle.time.proofs.Laws.{lt_or_le}

module _ (a₁ a₀ b₁ b₀ : ℕ) where
  abbrev a : ℕ
  a = a₁ * 2 ^ 64 + a₀

  abbrev b : ℕ
  b = b₁ * 2 ^ 64 + b₀

  pub order_low : a₁ ≡ b₁ → ltb a₀ b₀ ≡ ltb a b
  order_low e =
      ⊎_elim
      (λ h. lt-ltb a₀ b₀ h ∙ sym (lt-ltb a b (omega arith)))
      (λ h. le-ltb a₀ b₀ h ∙ sym (le-ltb a b (omega arith)))
      (lt_or_le a₀ b₀)

  pub order_high : (a₁ ≡ b₁ → ⊥) → a₀ < 2 ^ 64 → b₀ < 2 ^ 64 → ltb a₁ b₁ ≡ ltb a b
  order_high ne ha hb =
      ⊎_elim
      (λ h. lt-ltb a₁ b₁ h ∙ sym (lt-ltb a b (omega arith)))
      (λ h. let more : b₁ < a₁ = omega arith in le-ltb a₁ b₁ h ∙ sym (le-ltb a b (omega arith)))
      (lt_or_le a₁ b₁)

  pub same_words : a₀ < 2 ^ 64 → b₀ < 2 ^ 64 → eqb a₁ b₁ && eqb a₀ b₀ ≡ eqb a b
  same_words ha hb = told (eqb a₁ b₁) (eqb a₀ b₀) refl refl
    where
      told : (s t : Bool) → eqb a₁ b₁ ≡ s → eqb a₀ b₀ ≡ t → s && t ≡ eqb a b
      told true true e f = let e' : a₁ ≡ b₁ = eqb-true a₁ b₁ e in let f' : a₀ ≡ b₀ = eqb-true a₀ b₀ f in sym (eq-eqb a b (omega arith))
      told true false e f = let e' : a₁ ≡ b₁ = eqb-true a₁ b₁ e in sym (ne_eqb a b (λ g. eqb-false a₀ b₀ f (omega arith)))
      told false t e f = sym (ne_eqb a b (λ g. eqb-false a₁ b₁ e (omega arith)))

  -- the difference, where the low words differ by l, wrapped
  module _ (l : ℕ) (le : b₁ * 2 ^ 64 + b₀ ≤ a₁ * 2 ^ 64 + a₀) (ha : a₀ < 2 ^ 64) (hb : b₀ < 2 ^ 64) (hl : l < 2 ^ 64) (wraps : (l + b₀) % 2 ^ 64 ≡ a₀) where
    pub no_borrow_le : b₁ ≤ a₁
    no_borrow_le = omega (arith, le, ha, hb)

    borrow_lt : a₀ < b₀ → b₁ < a₁
    borrow_lt h = omega arith

    pub one_left : a₀ < b₀ → 1 ≤ a₁ - b₁
    one_left h = let less : b₁ < a₁ = borrow_lt h in omega (arith, less)

    pub no_borrow : b₀ ≤ a₀ → a - b ≡ (a₁ - b₁) * 2 ^ 64 + l
    no_borrow h = let e : l + b₀ ≡ a₀ = omega arith in differ a₁ a₀ b₁ b₀ l no_borrow_le e
      where
        differ : (a₁ a₀ b₁ b₀ l : ℕ) → b₁ ≤ a₁ → l + b₀ ≡ a₀ → a₁ * 2 ^ 64 + a₀ - (b₁ * 2 ^ 64 + b₀) ≡ (a₁ - b₁) * 2 ^ 64 + l
        differ a₁ a₀ b₁ b₀ l h e = omega arith

    pub borrowed : a₀ < b₀ → a - b ≡ (a₁ - b₁ - 1) * 2 ^ 64 + l
    borrowed h = let e : l + b₀ ≡ a₀ + 2 ^ 64 = omega arith in differ a₁ a₀ b₁ b₀ l (borrow_lt h) e
      where
        differ : (a₁ a₀ b₁ b₀ l : ℕ) → b₁ < a₁ → l + b₀ ≡ a₀ + 2 ^ 64 → a₁ * 2 ^ 64 + a₀ - (b₁ * 2 ^ 64 + b₀) ≡ (a₁ - b₁ - 1) * 2 ^ 64 + l
        differ a₁ a₀ b₁ b₀ l h e = omega arith

-- half of a number of two words
module _ (h l : ℕ) (hl : l < 2 ^ 64) where
  pub half_lt : h % 2 * 2 ^ 63 + l / 2 < 2 ^ 64
  half_lt = omega arith

  pub halved : (h * 2 ^ 64 + l) / 2 ≡ h / 2 * 2 ^ 64 + (h % 2 * 2 ^ 63 + l / 2)
  halved = omega arith

-- halfway from a to b
pub midway_late : (a b : ℕ) → b < a → a + (b - a) / 2 ≡ a
midway_late a b h = let z : b - a ≡ 0 = omega arith in omega arith

pub midway_le : (a b : ℕ) → a ≤ b → a + (b - a) / 2 ≤ b
midway_le a b h = omega arith
