-- Laws on the quotients that an edge's time and a count are made of, which the proofs of `edge_of`, `left_over`, `periods` and `count` cite.
-- Assumes nothing.
use Rattle.std.proofs.Common.{◌≡◌, ℕ, ◌+◌, ◌-◌, ◌*◌, ◌/◌, ◌%◌, ◌^◌, ◌<◌, ◌≤◌, min, sym, ap, ◌∙◌, subst, le_trans, le_of_eq, le-add_right, mod-lt, mul_comm, div-lt_iff_lt-mul, add_comm, div-add-mod', le-div_iff_mul-le, mul_right_comm, le-add_left, arith}
use native.Mathlib.Nat.{add-mul-div_right, add-mul-mod_self_right, div-div-eq-div-mul, min-eq_left, min-eq_right}
use lib.Arith.{digits_lt}
use Rattle.time.specs.Time.{time_of}
use Rattle.time.specs.Clock.{edges_before}
use Rattle.time.proofs.Laws.{past_time, edges_before_is}
use Rattle.time.specs.declared.Clock.{Clock}
use Rattle.time.proofs.Sums.{low_only}

-- a quotient with 64 bits more, f their number: the quotient, and that of what it leaves
joined : (p f h : ℕ) → p % h * 2 ^ 64 + f + p / h * 2 ^ 64 * h ≡ p * 2 ^ 64 + f
joined p f h =
    let a : p / h * 2 ^ 64 * h ≡ p / h * h * 2 ^ 64 = mul_right_comm (p / h) (2 ^ 64) h in
    omega (arith, a, div-add-mod' p h)

edge_parts : (p f h : ℕ) → 0 < h → (p * 2 ^ 64 + f) / h ≡ p / h * 2 ^ 64 + (p % h * 2 ^ 64 + f) / h
edge_parts p f h pos =
    ap (λ (x : ℕ). x / h) (sym (joined p f h)) ∙ add-mul-div_right (p % h * 2 ^ 64 + f) (p / h * 2 ^ 64) pos ∙ add_comm ((p % h * 2 ^ 64 + f) / h) (p / h * 2 ^ 64)

-- and its remainder
pub fraction_parts : (p f h : ℕ) → (p * 2 ^ 64 + f) % h ≡ (p % h * 2 ^ 64 + f) % h
fraction_parts p f h = ap (λ (x : ℕ). x % h) (sym (joined p f h)) ∙ add-mul-mod_self_right (p % h * 2 ^ 64 + f) (p / h * 2 ^ 64) h

-- the words q₁ and q₀ of the whole seconds of p periods of 1 / h s, where f / h of a unit is left over from before
module _ (p f h q₁ q₀ : ℕ) (pos : 0 < h) (word : f < 2 ^ 64) (seconds : q₁ * 2 ^ 64 + q₀ ≡ p / h) where
  pub edge_past : (s : ℕ) → (q₁ ≡ 0 → ⊥) → 2 ^ 128 ≤ s + (p * 2 ^ 64 + f) / h
  edge_past s some =
      let big : 2 ^ 64 ≤ p / h = omega arith in
      past_time (s + (p * 2 ^ 64 + f) / h) (p / h) big (le_trans (le_trans (le-add_right (p / h * 2 ^ 64) ((p % h * 2 ^ 64 + f) / h)) (le_of_eq (sym (edge_parts p f h pos)))) (le-add_left ((p * 2 ^ 64 + f) / h) s))

  rest_lt : (p % h * 2 ^ 64 + f) / h < 2 ^ 64
  rest_lt = (div-lt_iff_lt-mul pos).1 (subst (λ (n : ℕ). p % h * 2 ^ 64 + f < n) (mul_comm h (2 ^ 64)) (digits_lt {q = p % h} {m = h} {r = f} {c = 2 ^ 64} (mod-lt p pos) word))

  -- the words of what they leave are f₁ and f₀
  pub edge_words : (f₁ f₀ : ℕ) → f₁ * 2 ^ 64 + f₀ ≡ (p % h * 2 ^ 64 + f) / h → q₁ ≡ 0 → q₀ * 2 ^ 64 + f₀ ≡ (p * 2 ^ 64 + f) / h
  edge_words f₁ f₀ e clear = words (p / h) ((p % h * 2 ^ 64 + f) / h) q₁ q₀ f₁ f₀ seconds e rest_lt clear ∙ sym (edge_parts p f h pos)
    where
      low : (f₁ f₀ r : ℕ) → f₁ * 2 ^ 64 + f₀ ≡ r → r < 2 ^ 64 → f₀ ≡ r
      low f₁ f₀ r e less = omega arith

      words : (q r q₁ q₀ f₁ f₀ : ℕ) → q₁ * 2 ^ 64 + q₀ ≡ q → f₁ * 2 ^ 64 + f₀ ≡ r → r < 2 ^ 64 → q₁ ≡ 0 → q₀ * 2 ^ 64 + f₀ ≡ q * 2 ^ 64 + r
      words q r q₁ q₀ f₁ f₀ e f less clear = λ i. low_only q₁ q₀ q e clear i * 2 ^ 64 + low f₁ f₀ r f less i

-- a quotient of the number x of the words e₁ and e₀ by d, at most 2 ^ 64 - 1
module _ (x d e₁ e₀ : ℕ) (words : e₁ * 2 ^ 64 + e₀ ≡ x) (pos : 0 < d) where
  pub capped_full : d ≤ e₁ → 2 ^ 64 - 1 ≡ min (x / d) (2 ^ 64 - 1)
  capped_full le =
      let much : 2 ^ 64 * d ≤ x = omega arith in
      let q : 2 ^ 64 ≤ x / d = (le-div_iff_mul-le pos).1 much in
      sym (min-eq_right (more q))
    where
      more : {n : ℕ} → 2 ^ 64 ≤ n → 2 ^ 64 - 1 ≤ n
      more h = omega arith

  pub capped_part : (q₁ q₀ : ℕ) → e₁ < d → e₀ < 2 ^ 64 → q₁ * 2 ^ 64 + q₀ ≡ x / d → q₀ ≡ min (x / d) (2 ^ 64 - 1)
  capped_part q₁ q₀ less word e =
      let few : x < 2 ^ 64 * d = omega arith in
      let q : x / d < 2 ^ 64 = (div-lt_iff_lt-mul pos).1 few in
      low (x / d) q₁ q₀ e q ∙ sym (min-eq_left (fewer q))
    where
      low : (n q₁ q₀ : ℕ) → q₁ * 2 ^ 64 + q₀ ≡ n → n < 2 ^ 64 → q₀ ≡ n
      low n q₁ q₀ e less = omega arith

      fewer : {n : ℕ} → n < 2 ^ 64 → n ≤ 2 ^ 64 - 1
      fewer h = omega arith

-- the count's closed form as the code has it: at most a word, the ordinal included
pub edges_before_words : (c : Clock) (limit : ℕ) → 0 < c.numerator → 0 < c.denominator → c.ordinal ≤ 2 ^ 64 - 1
    → edges_before c limit ≡ min (c.ordinal + ((limit - time_of c.start) * c.numerator - 1 - c.fraction) / 2 ^ 64 / c.denominator) (2 ^ 64 - 1)
edges_before_words c limit hh hd le =
    edges_before_is c limit hh hd
    ∙ ap (λ (x : ℕ). c.ordinal + min x (2 ^ 64 - 1 - c.ordinal))
    (ap (λ (x : ℕ). ((limit - time_of c.start) * c.numerator - 1 - c.fraction) / x) (mul_comm c.denominator (2 ^ 64)) ∙ sym (div-div-eq-div-mul ((limit - time_of c.start) * c.numerator - 1 - c.fraction) (2 ^ 64) c.denominator))
    ∙ capped c.ordinal (((limit - time_of c.start) * c.numerator - 1 - c.fraction) / 2 ^ 64 / c.denominator) (2 ^ 64 - 1) le
  where
    capped : (o x w : ℕ) → o ≤ w → o + min x (w - o) ≡ min (o + x) w
    capped o x w h = omega arith
