-- Laws of times, edges and counts, for the crates that use clocks. Assumes nothing.
use Rattle.std.specs.Prelude.{◌≡◌, ℕ, zero, suc, ◌+◌, ◌-◌, ◌*◌, ◌/◌, ◌^◌, ◌<◌, ◌≤◌, min, Bool, true, false, cond, not, ◌||◌, ltb, ◌⊎◌, ◌==◌, nat_eq, nat_lt, refl, Ok, Err}
use Rattle.std.proofs.Common.{sym, ◌∙◌, subst, inl, inr, ⊎_elim, add-zero, le-add_right, zero-mul, le_trans, le_refl, add-le-add, mul_assoc, mul-pos, mul-le-mul_right, eq-zero-or-pos, div-mul-le_self, le_of_eq, le-div_iff_mul-le, div-lt_iff_lt-mul, pos_of_ne-zero, lt_of_not-le, pow_pos}
use Rattle.std.proofs.Math.Path.{ap}
use Rattle.std.proofs.Math.Nat.{min-zero, zero-sub, zero-div, zero-min, div-zero}
use native.Mathlib.Omega.{arith}
use borrow.Author.Tests.{ltb-true, ltb-false, lt-ltb, le-ltb, eqb-false}
use Rattle.std.proofs.Math.Arith.{digits_lt, digits_div, digits_mod}
use Rattle.std.proofs.Math.Pow.{split}
use Rattle.time.specs.Time.{time_of, time_from, moment_of, since_of, next_time, midway}
use Rattle.time.specs.Clock.{edge_of, count_to, edges_before, zero_in, after_of, edges_before_of, start_after}
use Rattle.time.specs.declared.Time.{Time}
use Rattle.refusals.specs.declared.Refusal.{Refusal}
use Rattle.refusals.specs.declared.Refusal.TheVariants.{Overflow, Reversed}
use Rattle.refusals.proofs.Laws.{err_not_ok, same_err, same_ok}
use Rattle.time.specs.declared.Clock.{Clock}

pub lt_or_le : (a b : ℕ) → (a < b) ⊎ (b ≤ a)
lt_or_le a b = told (nat_lt a b) refl
  where
    told : (t : Bool) → nat_lt a b ≡ t → (a < b) ⊎ (b ≤ a)
    told true e = inl (ltb-true a b e)
    told false e = inr (ltb-false a b e)

-- the time of n units has n
pub time_of_from : (n : ℕ) → time_of (time_from n) ≡ n
time_of_from n = split n 64

-- two words are the time of the number that they make
pub time_from_lem : (n h l : ℕ) → n ≡ h * 2 ^ 64 + l → l < 2 ^ 64 → record { seconds = h; fraction = l } ≡ time_from n
time_from_lem n h l e word = sym (rw (e, digits_div h word, digits_mod h word))

-- a number is a time's where its high part is a word, and not where that is more
pub in_time : (n h l : ℕ) → n ≡ h * 2 ^ 64 + l → h < 2 ^ 64 → l < 2 ^ 64 → n < 2 ^ 128
in_time n h l e high low = subst (λ (x : ℕ). x < 2 ^ 128) (sym e) (digits_lt {q = h} {m = 2 ^ 64} {r = l} {c = 2 ^ 64} high low)

pub past_time : (n h : ℕ) → 2 ^ 64 ≤ h → h * 2 ^ 64 ≤ n → 2 ^ 128 ≤ n
past_time n h big le = le_trans (mul-le-mul_right (2 ^ 64) big) le

pub moment_at : (n : ℕ) → n < 2 ^ 128 → moment_of n ≡ Ok (time_from n)
unfolding moment_of
moment_at n less = rw (lt-ltb n (2 ^ 128) less)

pub moment_past : (n : ℕ) → 2 ^ 128 ≤ n → moment_of n ≡ Err Overflow
unfolding moment_of
moment_past n le = rw (le-ltb n (2 ^ 128) le)

-- the time that a moment holds, and why one is refused
pub moment_from : (n : ℕ) (t : Time) → moment_of n ≡ Ok t → t ≡ time_from n
moment_from n t e = ⊎_elim (λ h. same_ok (sym e ∙ moment_at n h)) (λ h. absurd (err_not_ok (sym (moment_past n h) ∙ e))) (lt_or_le n (2 ^ 128))

pub moment_time : (n : ℕ) (t : Time) → moment_of n ≡ Ok t → time_of t ≡ n
moment_time n t e = ap (λ (x : Time). time_of x) (moment_from n t e) ∙ time_of_from n

pub moment_refused : (n : ℕ) (r : Refusal) → moment_of n ≡ Err r → (r ≡ Overflow) × (2 ^ 128 ≤ n)
moment_refused n r e = ⊎_elim (λ h. absurd (err_not_ok (sym e ∙ moment_at n h))) (λ h. (same_err (sym e ∙ moment_past n h), h)) (lt_or_le n (2 ^ 128))

-- one unit later, and the last time
pub next_later : (t : Time) → time_of t + 1 < 2 ^ 128 → next_time t ≡ time_from (time_of t + 1)
unfolding next_time
next_later t less = rw (lt-ltb (time_of t + 1) (2 ^ 128) less)

pub next_last : (t : Time) → 2 ^ 128 ≤ time_of t + 1 → next_time t ≡ t
unfolding next_time
next_last t le = rw (le-ltb (time_of t + 1) (2 ^ 128) le)

pub midway_time : (a b : Time) → time_of (midway a b) ≡ time_of a + (time_of b - time_of a) / 2
unfolding midway
midway_time a b = time_of_from (time_of a + (time_of b - time_of a) / 2)

pub since_at : (a b : Time) → time_of b ≤ time_of a → since_of a b ≡ Ok (time_from (time_of a - time_of b))
unfolding since_of
since_at a b le = rw (le-ltb (time_of a) (time_of b) le)

pub since_reversed : (a b : Time) → time_of a < time_of b → since_of a b ≡ Err Reversed
unfolding since_of
since_reversed a b less = rw (lt-ltb (time_of a) (time_of b) less)

-- a clock without a zero
pub no_zero : (c : Clock) → zero_in c ≡ false → (0 < c.numerator) × (0 < c.denominator)
unfolding zero_in
no_zero c e = (pos_of_ne-zero (eqb-false c.numerator 0 neither.0), pos_of_ne-zero (eqb-false c.denominator 0 neither.1))
  where
    both : (a b : Bool) → a || b ≡ false → (a ≡ false) × (b ≡ false)
    both true b f = absurd (let z : ◌≡◌ {A = ℕ} 0 1 = cc in omega arith)
    both false b f = (refl, f)

    sound : nat_eq c.numerator 0 || (c.denominator == 0) ≡ false
    sound = (both (c.numerator == 0 || c.denominator == 0) (not (nat_lt c.fraction c.numerator)) e).0

    neither : ((c.numerator == 0) ≡ false) × ((c.denominator == 0) ≡ false)
    neither = both (c.numerator == 0) (c.denominator == 0) sound

pub after_is : (c : Clock) (n : ℕ) → zero_in c ≡ false → c.ordinal ≤ n → after_of c n ≡ moment_of (edge_of c n)
unfolding after_of
after_is c n e le = rw (e, le-ltb n c.ordinal le)

pub edges_before_of_lem : (c : Clock) (limit : Time) → zero_in c ≡ false → edges_before_of c limit ≡ Ok (edges_before c (time_of limit))
unfolding edges_before_of
edges_before_of_lem c limit e = rw e

pub div_mono : (h : ℕ) {a b : ℕ} → a ≤ b → a / h ≤ b / h
div_mono h {a} {b} le =
    ⊎_elim
    (λ z. subst (λ (x : ℕ). a / x ≤ b / x) (sym z) (le_of_eq (div-zero a ∙ sym (div-zero b))))
    (λ pos. (le-div_iff_mul-le pos).1 (le_trans (div-mul-le_self a h) le))
    (eq-zero-or-pos h)

-- where the numbers that pass are those from 1 to m, min m k of those to k do
pub count_prefix : (test : ℕ → Bool) (m : ℕ) → ((n : ℕ) → 0 < n → n ≤ m → test n ≡ true) → ((n : ℕ) → m < n → test n ≡ false) → (k : ℕ) → count_to test k ≡ min m k
unfolding count_to
count_prefix test m pass fail zero = sym (min-zero m)
count_prefix test m pass fail (suc k) =
    let before : count_to test k ≡ min m k = count_prefix test m pass fail k in
    ⊎_elim
    (λ h. let e : ◌≡◌ {A = ℕ} (cond (test (suc k)) 1 0) 0 = ap (λ (t : Bool). cond t 1 0) (fail (suc k) h) in omega arith)
    (λ h. let e : ◌≡◌ {A = ℕ} (cond (test (suc k)) 1 0) 1 = ap (λ (t : Bool). cond t 1 0) (pass (suc k) (omega arith) h) in omega arith)
    (lt_or_le m (suc k))

-- a count to k is at most k
pub count_le : (test : ℕ → Bool) (k : ℕ) → count_to test k ≤ k
unfolding count_to
count_le test zero = le_refl 0
count_le test (suc k) = one_more (test (suc k)) (count_le test k)
  where
    one_more : (t : Bool) {x y : ℕ} → x ≤ y → x + cond t 1 0 ≤ suc y
    one_more true h = omega arith
    one_more false h = omega arith

module _ (c : Clock) (limit : ℕ) (hh : 0 < c.numerator) (hd : 0 < c.denominator) where
  -- the number of the last edge before the limit, counted from the start, however large
  abbrev last : ℕ
  last = ((limit - time_of c.start) * c.numerator - 1 - c.fraction) / (c.denominator * 2 ^ 64)

  at : (n : ℕ) → n * (c.denominator * 2 ^ 64) ≡ n * c.denominator * 2 ^ 64
  at n = sym (mul_assoc n c.denominator (2 ^ 64))

  past : (n : ℕ) → edge_of c (c.ordinal + n) ≡ time_of c.start + (n * c.denominator * 2 ^ 64 + c.fraction) / c.numerator
  unfolding edge_of
  past n = ap (λ (x : ℕ). time_of c.start + (x * c.denominator * 2 ^ 64 + c.fraction) / c.numerator) (same c.ordinal n)
    where
      same : (o n : ℕ) → o + n - o ≡ n
      same o n = omega arith

  early : (n : ℕ) → 0 < n → n ≤ last → edge_of c (c.ordinal + n) < limit
  early n pos le =
      let period : 0 < c.denominator * 2 ^ 64 = mul-pos hd (pow_pos 64) in
      let a : n * (c.denominator * 2 ^ 64) ≤ (limit - time_of c.start) * c.numerator - 1 - c.fraction = (le-div_iff_mul-le period).0 le in
      let some : 0 < n * (c.denominator * 2 ^ 64) = mul-pos pos period in
      let less : n * c.denominator * 2 ^ 64 + c.fraction < (limit - time_of c.start) * c.numerator = subst (λ (x : ℕ). x + c.fraction < (limit - time_of c.start) * c.numerator) (at n) (taken c.fraction ((limit - time_of c.start) * c.numerator) a some) in
      subst (λ (x : ℕ). x < limit) (sym (past n)) (added (time_of c.start) limit ((n * c.denominator * 2 ^ 64 + c.fraction) / c.numerator) ((div-lt_iff_lt-mul hh).1 less))
    where
      taken : {x : ℕ} (f y : ℕ) → x ≤ y - 1 - f → 0 < x → x + f < y
      taken f y p q = omega arith

      added : (s b q : ℕ) → q < b - s → s + q < b
      added s b q f = omega arith

  late : (n : ℕ) → last < n → limit ≤ edge_of c (c.ordinal + n)
  late n lt =
      let a : (limit - time_of c.start) * c.numerator - 1 - c.fraction < n * (c.denominator * 2 ^ 64) = (div-lt_iff_lt-mul (mul-pos hd (pow_pos 64))).0 lt in
      let much : (limit - time_of c.start) * c.numerator ≤ n * c.denominator * 2 ^ 64 + c.fraction = subst (λ (x : ℕ). (limit - time_of c.start) * c.numerator ≤ x + c.fraction) (at n) (reached c.fraction ((limit - time_of c.start) * c.numerator) a) in
      subst (λ (x : ℕ). limit ≤ x) (sym (past n)) (added (time_of c.start) limit ((n * c.denominator * 2 ^ 64 + c.fraction) / c.numerator) ((le-div_iff_mul-le hh).1 much))
    where
      reached : {y : ℕ} (f x : ℕ) → x - 1 - f < y → x ≤ y + f
      reached f x p = omega arith

      added : (s b q : ℕ) → b - s ≤ q → b ≤ s + q
      added s b q f = omega arith

  -- the count's closed form
  pub edges_before_is : edges_before c limit ≡ c.ordinal + min (((limit - time_of c.start) * c.numerator - 1 - c.fraction) / (c.denominator * 2 ^ 64)) (2 ^ 64 - 1 - c.ordinal)
  unfolding edges_before
  edges_before_is = ap (λ (x : ℕ). c.ordinal + x) (count_prefix (λ n. ltb (edge_of c (c.ordinal + n)) limit) last (λ n pos le. lt-ltb (edge_of c (c.ordinal + n)) limit (early n pos le)) (λ n lt. le-ltb (edge_of c (c.ordinal + n)) limit (late n lt)) (2 ^ 64 - 1 - c.ordinal))

  pub none_before : limit ≤ time_of c.start → edges_before c limit ≡ c.ordinal
  none_before le =
      let z : limit - time_of c.start ≡ 0 = omega arith in
      edges_before_is ∙ ap (λ (x : ℕ). c.ordinal + min ((x * c.numerator - 1 - c.fraction) / (c.denominator * 2 ^ 64)) (2 ^ 64 - 1 - c.ordinal)) z ∙ simp (zero-mul, zero-sub, zero-div, zero-min, add-zero)

  -- the counted edges after the start are those before the limit
  pub counted : (n : ℕ) → c.ordinal < n → n ≤ edges_before c limit → edge_of c n < limit
  counted n pos le =
      let e : c.ordinal + (n - c.ordinal) ≡ n = omega arith in
      let few : n - c.ordinal ≤ last = (let is : edges_before c limit ≡ c.ordinal + min last (2 ^ 64 - 1 - c.ordinal) = edges_before_is in within n c.ordinal last (2 ^ 64 - 1 - c.ordinal) (edges_before c limit) is le) in
      subst (λ (x : ℕ). edge_of c x < limit) e (early (n - c.ordinal) (omega arith) few)
    where
      within : (n o m k x : ℕ) → x ≡ o + min m k → n ≤ x → n - o ≤ m
      within n o m k x e h = omega arith

  pub uncounted : (n : ℕ) → edges_before c limit < n → n ≤ 2 ^ 64 - 1 → limit ≤ edge_of c n
  uncounted n lt le =
      let is : edges_before c limit ≡ c.ordinal + min last (2 ^ 64 - 1 - c.ordinal) = edges_before_is in
      let e : c.ordinal + (n - c.ordinal) ≡ n = from n c.ordinal (min last (2 ^ 64 - 1 - c.ordinal)) (edges_before c limit) is lt in
      subst (λ (x : ℕ). limit ≤ edge_of c x) e (late (n - c.ordinal) (over n c.ordinal last (2 ^ 64 - 1) (edges_before c limit) is lt le))
    where
      from : (n o m x : ℕ) → x ≡ o + m → x < n → o + (n - o) ≡ n
      from n o m x e h = omega arith

      over : (n o m k x : ℕ) → x ≡ o + min m (k - o) → x < n → n ≤ k → m < n - o
      over n o m k x e f g = omega arith

-- the ordinal is counted, and a count is at most a word where the ordinal is
pub edges_before_ge : (c : Clock) (limit : ℕ) → c.ordinal ≤ edges_before c limit
unfolding edges_before
edges_before_ge c limit = le-add_right c.ordinal (count_to (λ n. ltb (edge_of c (c.ordinal + n)) limit) (2 ^ 64 - 1 - c.ordinal))

pub edges_before_le : (c : Clock) (limit : ℕ) → c.ordinal ≤ 2 ^ 64 - 1 → edges_before c limit ≤ 2 ^ 64 - 1
unfolding edges_before
edges_before_le c limit word =
    let le : count_to (λ n. ltb (edge_of c (c.ordinal + n)) limit) (2 ^ 64 - 1 - c.ordinal) ≤ 2 ^ 64 - 1 - c.ordinal = count_le (λ n. ltb (edge_of c (c.ordinal + n)) limit) (2 ^ 64 - 1 - c.ordinal) in
    capped c.ordinal (count_to (λ n. ltb (edge_of c (c.ordinal + n)) limit) (2 ^ 64 - 1 - c.ordinal)) (2 ^ 64 - 1) word le
  where
    capped : (o x w : ℕ) → o ≤ w → x ≤ w - o → o + x ≤ w
    capped o x w f g = omega arith

-- an edge counts from one unit after it on, and not before
pub edge_reached : (c : Clock) (n : ℕ) → 0 < c.numerator → 0 < c.denominator → n ≤ 2 ^ 64 - 1 → n ≤ edges_before c (edge_of c n + 1)
edge_reached c n hh hd le = ⊎_elim (λ lt. absurd (never (uncounted c (edge_of c n + 1) hh hd n lt le))) (λ h. h) (lt_or_le (edges_before c (edge_of c n + 1)) n)
  where
    never : {x : ℕ} → x + 1 ≤ x → ⊥
    never h = omega arith

pub edge_excluded : (c : Clock) (n : ℕ) → 0 < c.numerator → 0 < c.denominator → c.ordinal < n → edges_before c (edge_of c n) < n
edge_excluded c n hh hd pos = lt_of_not-le (λ le. let early : edge_of c n < edge_of c n = counted c (edge_of c n) hh hd n pos le in omega (arith, early))

-- a later limit has no fewer edges before it
pub edges_before_mono : (c : Clock) {a b : ℕ} → 0 < c.numerator → 0 < c.denominator → a ≤ b → edges_before c a ≤ edges_before c b
edges_before_mono c {a} {b} hh hd le =
    subst (λ (x : ℕ). x ≤ edges_before c b) (sym (edges_before_is c a hh hd))
    (subst (λ (x : ℕ). c.ordinal + min (last c a hh hd) (2 ^ 64 - 1 - c.ordinal) ≤ x) (sym (edges_before_is c b hh hd))
    (capped c.ordinal (2 ^ 64 - 1 - c.ordinal) (div_mono (c.denominator * 2 ^ 64) (less c.fraction (mul-le-mul_right c.numerator (apart (time_of c.start) le))))))
  where
    apart : (s : ℕ) {a b : ℕ} → a ≤ b → a - s ≤ b - s
    apart s f = omega arith

    less : (f : ℕ) {x y : ℕ} → x ≤ y → x - 1 - f ≤ y - 1 - f
    less f h = omega arith

    capped : (o k : ℕ) {x y : ℕ} → x ≤ y → o + min x k ≤ o + min y k
    capped o k f = omega arith

-- no edge is earlier than the one before it
pub edge_mono : (c : Clock) {m n : ℕ} → m ≤ n → edge_of c m ≤ edge_of c n
unfolding edge_of
edge_mono c {m} {n} le = add-le-add (le_refl (time_of c.start)) (div_mono c.numerator (add-le-add (mul-le-mul_right (2 ^ 64) (mul-le-mul_right c.denominator (apart le))) (le_refl c.fraction)))
  where
    apart : m ≤ n → m - c.ordinal ≤ n - c.ordinal
    apart h = omega arith

-- the edge so many after the ordinal
pub edge_start : (c : Clock) (n : ℕ) → edge_of c (c.ordinal + n) ≡ start_after n c
unfolding edge_of
edge_start c n = ap (λ (x : ℕ). start_after x c) (same c.ordinal n)
  where
    same : (o n : ℕ) → o + n - o ≡ n
    same o n = omega arith
