-- Laws: which numbers are counts of 64 bits, and which products. Assumes nothing.
use Rattle.std.specs.Prelude.{◌≡◌, ℕ, ◌*◌, ◌/◌, ◌^◌, ◌≤◌, ◌<◌, Ok, Err}
use Rattle.std.proofs.Common.{sym, ap, ◌∙◌, div-lt_iff_lt-mul, le-div_iff_mul-le, mul-zero, le-ltb, lt-ltb, lit<}
use Rattle.refusals.specs.declared.Refusal.TheVariants.{Overflow}
use Rattle.counts.specs.Counts.{fits}

pub fits_of : (n : ℕ) → n < 2 ^ 64 → Ok n ≡ fits n
unfolding fits
fits_of n h = sym (rw (lt-ltb n (2 ^ 64) h))

pub fits_over : (n : ℕ) → 2 ^ 64 ≤ n → Err Overflow ≡ fits n
unfolding fits
fits_over n h = sym (rw (le-ltb n (2 ^ 64) h))

pub product_of_zero : (a b : ℕ) → b ≡ 0 → Ok 0 ≡ fits (a * b)
product_of_zero a b e = fits_of 0 (lit< tt) ∙ ap fits (sym (ap (λ (x : ℕ). a * x) e ∙ mul-zero a))

-- a product with b is at most m exactly where the other factor is at most m / b
module _ (a b m : ℕ) (pos : 0 < b) where
  pub product_le : a ≤ m / b → a * b ≤ m
  product_le h = (le-div_iff_mul-le {k = b} {x = a} {y = m} pos).0 h

  pub product_gt : m / b < a → m < a * b
  product_gt h = (div-lt_iff_lt-mul {k = b} {x = m} {y = a} pos).0 h
