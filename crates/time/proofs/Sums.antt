-- Laws on a sum of two times, from the sums of their words, which the proofs of `checked_add` and `next` cite.
-- Assumes nothing.
use Rattle.std.proofs.Common.{◌≡◌, ℕ, ◌+◌, ◌*◌, ◌^◌, ◌<◌, ◌≤◌, sym, ap, ◌∙◌, zero-add, arith}
use Rattle.time.proofs.Laws.{past_time}

-- a high word of zero
pub low_only : (h l n : ℕ) → h * 2 ^ 64 + l ≡ n → h ≡ 0 → l ≡ n
low_only h l n e z = sym (ap (λ (x : ℕ). x * 2 ^ 64 + l) z ∙ zero-add l) ∙ e

-- the carry of two words is at most 1
pub carry_le : (h l a b : ℕ) → h * 2 ^ 64 + l ≡ a + b → a < 2 ^ 64 → b < 2 ^ 64 → h ≤ 1
carry_le h l a b e ha hb = omega arith

-- the words of a sum: those of the low words are lh and ll, of the high words hh and hl, and of these and the carry th and tl
module _ (a₁ a₀ b₁ b₀ lh ll hh hl th tl : ℕ) (lows : lh * 2 ^ 64 + ll ≡ a₀ + b₀) (highs : hh * 2 ^ 64 + hl ≡ a₁ + b₁) (tops : th * 2 ^ 64 + tl ≡ hl + lh) where
  abbrev both : ℕ
  both = a₁ * 2 ^ 64 + a₀ + (b₁ * 2 ^ 64 + b₀)

  carried : (hh + th) * 2 ^ 64 + tl ≡ a₁ + b₁ + lh
  carried = omega arith

  whole : both ≡ (a₁ + b₁ + lh) * 2 ^ 64 + ll
  whole = omega arith

  pub sum_past : (hh + th ≡ 0 → ⊥) → 2 ^ 128 ≤ both
  sum_past some = let big : 2 ^ 64 ≤ a₁ + b₁ + lh = omega (arith, carried) in past_time both (a₁ + b₁ + lh) big (omega (arith, whole))

  pub sum_words : hh + th ≡ 0 → both ≡ tl * 2 ^ 64 + ll
  sum_words clear = whole ∙ ap (λ (x : ℕ). x * 2 ^ 64 + ll) (sym (low_only (hh + th) tl (a₁ + b₁ + lh) carried clear))

-- the words of one unit more
module _ (a₁ a₀ lh ll hh hl : ℕ) (lows : lh * 2 ^ 64 + ll ≡ a₀ + 1) (highs : hh * 2 ^ 64 + hl ≡ a₁ + lh) where
  pub next_past : (hh ≡ 0 → ⊥) → 2 ^ 128 ≤ a₁ * 2 ^ 64 + a₀ + 1
  next_past some = let big : 2 ^ 64 ≤ a₁ + lh = omega arith in past_time (a₁ * 2 ^ 64 + a₀ + 1) (a₁ + lh) big (omega arith)

  pub next_words : hh ≡ 0 → a₁ * 2 ^ 64 + a₀ + 1 ≡ hl * 2 ^ 64 + ll
  next_words clear = whole a₁ a₀ lh ll hl lows (low_only hh hl (a₁ + lh) highs clear)
    where
      whole : (a₁ a₀ lh ll hl : ℕ) → lh * 2 ^ 64 + ll ≡ a₀ + 1 → hl ≡ a₁ + lh → a₁ * 2 ^ 64 + a₀ + 1 ≡ hl * 2 ^ 64 + ll
      whole a₁ a₀ lh ll hl lows highs = omega arith
