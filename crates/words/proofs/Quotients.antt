-- Laws on plain numbers that the divisions' proofs cite.
-- Assumes nothing.
use Rattle.std.proofs.Common.{◌≡◌, ℕ, ◌+◌, ◌-◌, ◌*◌, ◌/◌, ◌%◌, ◌^◌, ◌<◌, ◌≤◌, sym, refl, ap, ◌∙◌, subst, le_trans, le_of_eq, le-add_right, lt_of_le_of_lt, le_of_lt, add_assoc, mul-le-mul_right, mod-lt, mul_assoc, mul_comm, div-lt_iff_lt-mul, add-mul, add_comm, pos_of_ne-zero, lt_of_mul-lt-mul_right, mul-le-mul_left, mul-lt-mul_of_pos_right, lt_of_not-le, div-add-mod', le-div_iff_mul-le, zero-add, zero-mul, mul-add, sub-add_cancel, div-le_self, mul_right_comm, le_of_mul-le-mul_right, mul-div_cancel, mul_left_comm, arith, pow_pos}
use native.Mathlib.Nat.{add_left_comm, add-mul-div_right}
use lib.Pow.{split}
use Rattle.words.specs.Words.{Divides}
use Rattle.words.specs.Laws.{quotient_is}

-- the machine's quotient and remainder
pub machine : (n m : ℕ) → 0 < m → Divides n m (n / m) (n % m)
machine n m pos = record { whole = div-add-mod' n m; less = mod-lt n pos }

-- a number below the divisor
pub small : (n m : ℕ) → n < m → Divides n m 0 n
small n m less = record { whole = ap (λ (x : ℕ). x + n) (zero-mul m) ∙ zero-add n; less = less }

two_digits : (P m q₁ q₀ r : ℕ) → (q₁ * P + q₀) * m + r ≡ q₁ * m * P + (q₀ * m + r)
two_digits P m q₁ q₀ r = simp (add-mul, mul_assoc, mul_comm, mul_left_comm, add_assoc, add_comm, add_left_comm) refl

-- long division in the base P: what the first digit leaves goes before the next
pub steps : (P l : ℕ) {a m q₁ r₁ q₀ r₀ : ℕ} → Divides a m q₁ r₁ → Divides (r₁ * P + l) m q₀ r₀ → Divides (a * P + l) m (q₁ * P + q₀) r₀
steps P l {a} {m} {q₁} {r₁} {q₀} {r₀} first second = record {
  whole = two_digits P m q₁ q₀ r₀ ∙ ap (λ (x : ℕ). q₁ * m * P + x) second.whole ∙ sym (add_assoc (q₁ * m * P) (r₁ * P) l) ∙ ap (λ (x : ℕ). x + l) (sym (add-mul (q₁ * m) r₁ P)) ∙ ap (λ (x : ℕ). x * P + l) first.whole;
  less = second.less;
}

-- a quotient is below P where the number is below P times the divisor
pub quotient_lt : {n m q r : ℕ} (P : ℕ) → Divides n m q r → n < P * m → q < P
quotient_lt {n} {m} {q} {r} P d h = lt_of_mul-lt-mul_right m {m = q} {n = P} (lt_of_le_of_lt (le_trans (le-add_right (q * m) r) (le_of_eq d.whole)) h)

-- a digit before a number below the divisor
pub digit_below : (h l m : ℕ) → h < m → l < 2 ^ 32 → h * 2 ^ 32 + l < 2 ^ 32 * m
digit_below h l m less word = omega arith

-- number and divisor both times s
pub unscaled : {n m q r : ℕ} (s : ℕ) → 0 < s → Divides (n * s) (m * s) q r → Divides n m q (r / s)
unscaled {n} {m} {q} {r} s pos d = record {
  whole = add_comm (q * m) (r / s) ∙ sym (add-mul-div_right r (q * m) pos) ∙ ap (λ (x : ℕ). x / s) (add_comm r (q * m * s) ∙ ap (λ (x : ℕ). x + r) (mul_assoc q m s) ∙ d.whole) ∙ mul-div_cancel n pos;
  less = (div-lt_iff_lt-mul {k = s} {x = r} {y = m} pos).1 d.less;
}

-- One digit by a divisor m with its top bit set, from the estimate q of its upper half u: q times the lower half is to be taken from what
-- q * u leaves of the number, and where there is less, q is one or two too large.
module _ (h l m : ℕ) (top : 2 ^ 63 ≤ m) (word : m < 2 ^ 64) (less : h < m) (digit : l < 2 ^ 32) where
  abbrev u : ℕ
  u = m / 2 ^ 32

  abbrev q : ℕ
  q = h / u

  abbrev have : ℕ
  have = h % u * 2 ^ 32 + l

  abbrev take : ℕ
  take = q * (m % 2 ^ 32)

  upper : 2 ^ 31 ≤ u
  upper = omega arith

  left : h % u < u
  left = mod-lt h (omega (arith, upper))

  pub have_lt : have < m
  have_lt = omega (arith, left)

  estimate : q ≤ 2 ^ 32 + 1
  estimate =
      let below : q < 2 ^ 32 + 2 = (div-lt_iff_lt-mul {k = u} {x = h} {y = 2 ^ 32 + 2} (omega (arith, upper))).1 (omega (arith, upper)) in
      omega arith

  pub take_lt : take < 2 ^ 64
  take_lt = omega (arith, mul-le-mul_right (m % 2 ^ 32) estimate)

  balance : h * 2 ^ 32 + l + take ≡ q * m + have
  balance =
      omega (arith, div-add-mod' h u, ap (λ (x : ℕ). q * x) (sym (split m 32)) ∙ mul-add q (u * 2 ^ 32) (m % 2 ^ 32) ∙ ap (λ (x : ℕ). x + take) (sym (mul_assoc q u (2 ^ 32))))

  pub exact : take ≤ have → Divides (h * 2 ^ 32 + l) m q (have - take)
  exact enough = record { whole = omega (arith, balance); less = omega (arith, have_lt) }

  fewer : (k : ℕ) → k ≤ q → (q - k) * m + k * m ≡ q * m
  fewer k le = sym (add-mul (q - k) k m) ∙ ap (λ (x : ℕ). x * m) (sub-add_cancel le)

  pub one_over : have < take → 1 ≤ q
  one_over over = pos_of_ne-zero (λ z. let none : take ≡ 0 = ap (λ (x : ℕ). x * (m % 2 ^ 32)) z ∙ zero-mul (m % 2 ^ 32) in omega arith)

  pub once : have < take → take - have ≤ m → Divides (h * 2 ^ 32 + l) m (q - 1) (m - (take - have))
  once over within = record { whole = omega (arith, balance, fewer 1 (one_over over)); less = omega arith }

  pub two_over : have < take → m < take - have → 2 ≤ q
  two_over over beyond = let more : 1 < q = lt_of_not-le (λ one. omega (arith, mul-le-mul_right (m % 2 ^ 32) one)) in omega arith

  pub lack_lt : take - have - m < m
  lack_lt = omega (arith, take_lt)

  pub twice : have < take → m < take - have → Divides (h * 2 ^ 32 + l) m (q - 2) (m - (take - have - m))
  twice over beyond = record { whole = omega (arith, balance, fewer 2 (two_over over beyond), take_lt); less = omega arith }

-- The quotient of n * 2 ^ 64 by m: 2 ^ 64 is t times m and r, of 1 to m, so that n * t and the quotient of n * r make it
module _ (n m : ℕ) (pos : 0 < m) where
  abbrev t : ℕ
  t = (2 ^ 64 - 1) / m

  abbrev r : ℕ
  r = (2 ^ 64 - 1) % m + 1

  pub rest_le : r ≤ m
  rest_le = omega (arith, mod-lt (2 ^ 64 - 1) pos)

  parts : n * 2 ^ 64 ≡ n * r + n * t * m
  parts = let whole : 2 ^ 64 ≡ r + t * m = omega (arith, div-add-mod' (2 ^ 64 - 1) m) in ap (λ (x : ℕ). n * x) whole ∙ mul-add n r (t * m) ∙ ap (λ (x : ℕ). n * r + x) (sym (mul_assoc n t m))

  scaled : n * 2 ^ 64 / m ≡ n * r / m + n * t
  scaled = ap (λ (x : ℕ). x / m) parts ∙ add-mul-div_right (n * r) (n * t) pos

  -- the words h and l of n * r: the high one is below m
  pub left_below : (h l : ℕ) → n < 2 ^ 64 → h * 2 ^ 64 + l ≡ n * r → h < m
  left_below h l word words = omega (arith, mul-le-mul_left n rest_le, mul-lt-mul_of_pos_right word pos)

  pub reciprocal_pos : m < 2 ^ 64 → 0 < t
  reciprocal_pos word = (le-div_iff_mul-le {k = m} {x = 1} {y = 2 ^ 64 - 1} pos).1 (omega arith)

  module _ (a₁ a₀ b s₁ s₀ : ℕ) (times : a₁ * 2 ^ 64 + a₀ ≡ n * t) (rest : b ≡ n * r / m) (sums : s₁ * 2 ^ 64 + s₀ ≡ a₀ + b) where
    pub scaled_words : (a₁ + s₁) * 2 ^ 64 + s₀ ≡ n * 2 ^ 64 / m
    scaled_words = omega (arith, scaled)

    pub scaled_fit : n < 2 ^ 64 → a₁ + s₁ < 2 ^ 64
    scaled_fit word = lt_of_le_of_lt (le_of_mul-le-mul_right {m = a₁ + s₁} {n = n} {k = 2 ^ 64} (le_trans (le_trans (le-add_right ((a₁ + s₁) * 2 ^ 64) s₀) (le_of_eq scaled_words)) (div-le_self (n * 2 ^ 64) m)) (pow_pos 64)) word

-- The quotient of x by m from the reciprocal t of m: x * t is e * 2 ^ 64 + l, and e is near the quotient, the nearer the smaller x is
module _ (x m e : ℕ) where
  within : (y l : ℕ) (pos : 0 < m) → x < y * 2 ^ 64 → l < 2 ^ 64 → e * 2 ^ 64 + l ≡ x * t x m pos → (e * m ≤ x) × (x < e * m + m + y * m)
  within y l pos hx hl words =
      let most : x * m < y * m * 2 ^ 64 = subst (λ (z : ℕ). x * m < z) (mul_right_comm y (2 ^ 64) m) (mul-lt-mul_of_pos_right hx pos) in
      (omega (arith, whole), omega (arith, whole, most, mul-lt-mul_of_pos_right hl pos, mul-le-mul_left x (rest_le x m pos)))
    where
      whole : x * 2 ^ 64 ≡ x * r x m pos + (e * m * 2 ^ 64 + l * m)
      whole =
          parts x m pos
          ∙ ap (λ (y : ℕ). x * r x m pos + y) (ap (λ (y : ℕ). y * m) (sym words) ∙ add-mul (e * 2 ^ 64) l m ∙ ap (λ (y : ℕ). y + l * m) (mul_right_comm e (2 ^ 64) m))

  -- of a word: the quotient or one less
  pub near : (l : ℕ) (pos : 0 < m) → x < 2 ^ 64 → l < 2 ^ 64 → e * 2 ^ 64 + l ≡ x * t x m pos → (e * m ≤ x) × (x < e * m + m + m)
  near l pos hx hl words = let both = within 1 l pos (omega arith) hl words in (both.0, omega (arith, both.1))

  pub near_is : e * m ≤ x → x - e * m < m → e ≡ x / m
  near_is le less = sym (quotient_is (record { whole = omega arith; less = less }))

  pub near_less : (e * m ≤ x) × (x < e * m + m + m) → m ≤ x - e * m → e + 1 ≡ x / m
  near_less both more = sym (quotient_is {r = x - e * m - m} (record { whole = omega (arith, both.0, add-mul e 1 m); less = omega (arith, both.1) }))

-- of two words x₁ and x₀: what e leaves is a word, and its quotient is to be added
module _ (x₁ m k : ℕ) (above : x₁ < m) (reciprocal : k ≡ (2 ^ 64 - 1) / m) where
  times_le : k * m ≤ 2 ^ 64 - 1
  times_le = omega (arith, ap (λ (y : ℕ). y * m) reciprocal, div-add-mod' (2 ^ 64 - 1) m)

  pub high_times_fits : x₁ * k < 2 ^ 64
  high_times_fits = omega (arith, mul-le-mul_right k (le_of_lt above), mul_comm m k, times_le)

  module _ (x₀ e₁ l : ℕ) (few : x₁ + 2 ≤ k) (hx : x₀ < 2 ^ 64) (hl : l < 2 ^ 64) (words : e₁ * 2 ^ 64 + l ≡ x₀ * k) where
    abbrev x : ℕ
    x = x₁ * 2 ^ 64 + x₀

    abbrev e : ℕ
    e = x₁ * k + e₁

    pos : 0 < m
    pos = omega arith

    both : (e * m ≤ x) × (x < e * m + m + (x₁ + 1) * m)
    both = within x m e (x₁ + 1) l pos (omega arith) hl (joined x₁ x₀ k e₁ l words ∙ ap (λ (y : ℕ). x * y) reciprocal)
      where
        joined : (x₁ x₀ k e₁ l : ℕ) → e₁ * 2 ^ 64 + l ≡ x₀ * k → (x₁ * k + e₁) * 2 ^ 64 + l ≡ (x₁ * 2 ^ 64 + x₀) * k
        joined x₁ x₀ k e₁ l f = omega (arith, add-mul (x₁ * 2 ^ 64) x₀ k, mul_right_comm x₁ (2 ^ 64) k)

    x_lt : x < 2 ^ 64 * m
    x_lt = omega arith

    pub wide_near_fits : e < 2 ^ 64
    wide_near_fits = lt_of_mul-lt-mul_right m {m = e} {n = 2 ^ 64} (lt_of_le_of_lt both.0 x_lt)

    left_lt : x - e * m < 2 ^ 64
    left_lt = omega (arith, both.1, add-mul x₁ 1 m, add-mul x₁ 2 m, mul-le-mul_right m few, times_le)

    -- the words of e * m are p₁ and p₀: the difference of the low words, wrapped, is what e leaves
    pub left_is : (p₁ p₀ : ℕ) → p₁ * 2 ^ 64 + p₀ ≡ e * m → p₀ < 2 ^ 64 → (x₀ + (2 ^ 64 - p₀)) % 2 ^ 64 ≡ x - e * m
    left_is p₁ p₀ f word = low x₁ x₀ p₁ p₀ (e * m) f word hx both.0 left_lt
      where
        low : (x₁ x₀ p₁ p₀ n : ℕ) → p₁ * 2 ^ 64 + p₀ ≡ n → p₀ < 2 ^ 64 → x₀ < 2 ^ 64 → n ≤ x₁ * 2 ^ 64 + x₀ → x₁ * 2 ^ 64 + x₀ - n < 2 ^ 64 → (x₀ + (2 ^ 64 - p₀)) % 2 ^ 64 ≡ x₁ * 2 ^ 64 + x₀ - n
        low x₁ x₀ p₁ p₀ n f word hx le less = omega arith

    pub wide_is : e + (x - e * m) / m ≡ x / m
    wide_is = add_comm e ((x - e * m) / m) ∙ sym (add-mul-div_right (x - e * m) e pos) ∙ ap (λ (y : ℕ). y / m) (sub-add_cancel both.0)

    pub wide_fits : x / m < 2 ^ 64
    wide_fits = (div-lt_iff_lt-mul {k = m} {x = x} {y = 2 ^ 64} pos).1 x_lt
