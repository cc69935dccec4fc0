-- Laws: a number with one bit set is the power of two of its trailing zeros. Assumes nothing.
use Rattle.std.specs.Prelude.{◌≡◌, ℕ, zero, suc, ◌+◌, ◌*◌, ◌/◌, ◌%◌, ◌^◌, ◌<◌, refl}
use Rattle.std.proofs.Common.{sym, ap, ◌∙◌, subst, ⊎_elim, eq-zero-or-pos, pow-suc, arith}
use Rattle.std.specs.Int.Count.{ones, count_trailing_zeros, under, ones_step}

half_lt : (k n : ℕ) → n < 2 ^ suc k → n / 2 < 2 ^ k
half_lt k n h = let e : 2 ^ suc k ≡ 2 ^ k * 2 = pow-suc 2 k in omega arith

ones_zero : ones 0 ≡ 0
unfolding ones
ones_zero = refl

-- no bit set: zero
none_set : (k n : ℕ) → n < 2 ^ k → ones n ≡ 0 → n ≡ 0
none_set zero n h e = omega arith
none_set (suc k) n h e =
    let s : ones n ≡ n % 2 + ones (n / 2) = ones_step n in
    let z : n / 2 ≡ 0 = none_set k (n / 2) (half_lt k n h) (omega arith) in
    omega arith

-- one bit set: the power
pub one_set : (k n : ℕ) → n < 2 ^ k → ones n ≡ 1 → (n ≡ 2 ^ count_trailing_zeros k n) × (count_trailing_zeros k n < k)
unfolding count_trailing_zeros
one_set zero n h e = let z : n ≡ 0 = omega arith in let o : ones n ≡ 0 = ap ones z ∙ ones_zero in omega arith
one_set (suc k) n h e =
    let s : ones n ≡ n % 2 + ones (n / 2) = ones_step n in
    ⊎_elim
    (λ z.
    let more = one_set k (n / 2) (half_lt k n h) (omega arith) in
    let t : under (n % 2) (count_trailing_zeros k (n / 2)) ≡ suc (count_trailing_zeros k (n / 2)) = ap (λ (b : ℕ). under b (count_trailing_zeros k (n / 2))) z in
    let p : 2 ^ suc (count_trailing_zeros k (n / 2)) ≡ 2 ^ count_trailing_zeros k (n / 2) * 2 = pow-suc 2 (count_trailing_zeros k (n / 2)) in (
      subst (λ (x : ℕ). n ≡ 2 ^ x) (sym t) (even n (2 ^ count_trailing_zeros k (n / 2)) z more.0 ∙ sym p),
      subst (λ (x : ℕ). x < suc k) (sym t) (omega (arith, more.1)),
    ))
    (λ z.
    let b : n % 2 ≡ 1 = omega arith in
    let t : under (n % 2) (count_trailing_zeros k (n / 2)) ≡ 0 = ap (λ (b : ℕ). under b (count_trailing_zeros k (n / 2))) b in
    let none : n / 2 ≡ 0 = none_set k (n / 2) (half_lt k n h) (omega arith) in (
      subst (λ (x : ℕ). n ≡ 2 ^ x) (sym t) (omega arith),
      subst (λ (x : ℕ). x < suc k) (sym t) (omega arith),
    ))
    (eq-zero-or-pos (n % 2))
  where
    even : (n p : ℕ) → n % 2 ≡ 0 → n / 2 ≡ p → n ≡ p * 2
    even n p z e = omega arith
