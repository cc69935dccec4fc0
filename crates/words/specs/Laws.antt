-- Laws of the values of numbers of two words, and of what a division gives. Assumes nothing.
use Rattle.std.specs.Prelude.{◌≡◌, ℕ, ◌+◌, ◌*◌, ◌/◌, ◌%◌, ◌^◌, ◌<◌}
use Rattle.std.proofs.Common.{sym, ap, ◌∙◌, ⊎_elim, eq-zero-or-pos, arith, eq-eqb, ne_eqb}
use Rattle.std.proofs.Math.Nat.{div-zero}
use Rattle.std.proofs.Math.Arith.{digits_div, digits_mod}
use Rattle.std.proofs.Math.Pow.{split}
use Rattle.words.specs.Words.{value_of, wide_of, divided_of, Divides}
use Rattle.words.specs.declared.Divided.{Divided}
use Rattle.words.specs.declared.Wide.{Wide}

-- the two words of a number make the number
pub value_of_wide : (n : ℕ) → value_of (wide_of n) ≡ n
value_of_wide n = split n 64

-- by a divisor that is not 0
pub divided_by : (n m : ℕ) → 0 < m → divided_of n m ≡ record { quotient = wide_of (n / m); remainder = n % m }
unfolding divided_of
divided_by n m pos = rw (ne_eqb m 0 (λ z. omega arith))

pub quotient_of : (n m : ℕ) → value_of (divided_of n m).quotient ≡ n / m
unfolding divided_of
quotient_of n m =
    ⊎_elim
    (λ z. rw (eq-eqb m 0 z, z) (sym (div-zero n)))
    (λ pos. ap (λ (d : Divided Wide). value_of d.quotient) (divided_by n m pos) ∙ value_of_wide (n / m))
    (eq-zero-or-pos m)

pub remainder_of : (n m : ℕ) → 0 < m → (divided_of n m).remainder ≡ n % m
remainder_of n m pos = ap (λ (d : Divided Wide). d.remainder) (divided_by n m pos)

-- a quotient and a remainder that make the number are the number's
pub quotient_is : {n m q r : ℕ} → Divides n m q r → n / m ≡ q
quotient_is {n} {m} {q} {r} d = ap (λ (x : ℕ). x / m) (sym d.whole) ∙ digits_div q d.less

pub remainder_is : {n m q r : ℕ} → Divides n m q r → n % m ≡ r
remainder_is {n} {m} {q} {r} d = ap (λ (x : ℕ). x % m) (sym d.whole) ∙ digits_mod q d.less

-- two words that make the quotient are the quotient's
pub divided_at : {n m h l r : ℕ} → Divides n m (h * 2 ^ 64 + l) r → l < 2 ^ 64 → record { quotient = record { high = h; low = l }; remainder = r } ≡ divided_of n m
divided_at {n} {m} {h} {l} {r} d word =
    sym (divided_by n m (omega (arith, d.less)) ∙ rw (quotient_is d, remainder_is d, digits_div h word, digits_mod h word))
