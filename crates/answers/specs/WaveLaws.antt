-- Laws: nanoseconds as the code counts them, and the lines of signals one after the other.
-- Assumes nothing.
use Rattle.std.specs.Prelude.{◌≡◌, refl, Bool, true, false, cond, List, [], ◌∷◌, ◌++◌, ℕ, suc, ◌+◌, ◌-◌, ◌*◌, ◌/◌, ◌%◌, ◌^◌, ◌≤◌, ◌<◌, min, ltb, length, take, get_or, Err, Ok, Result}
use Rattle.std.proofs.Common.{sym, ap, ◌∙◌, arith, take-suc, length-take-le, take_all, ltb-true}
use Rattle.time.specs.declared.Time.{Time}
use Rattle.time.specs.Time.{time_of, time_from, since_of}
use Rattle.answers.specs.Wave.{nanoseconds_in, changes_from}
use Rattle.refusals.specs.declared.Refusal.{Refusal}
use Rattle.refusals.specs.declared.Refusal.TheVariants.{Reversed}

-- ## Nanoseconds

whole : (s f : ℕ) → (s * 2 ^ 64 + f) * 1000000000 / 2 ^ 64 ≡ s * 1000000000 + f * 1000000000 / 2 ^ 64
whole s f = omega arith

halves : (f : ℕ) → (f / 4294967296 * 1000000000 + f % 4294967296 * 1000000000 / 4294967296) / 4294967296 ≡ f * 1000000000 / 2 ^ 64
halves f = omega arith

small : (f : ℕ) → f < 2 ^ 64 → f * 1000000000 / 2 ^ 64 < 1000000000
small f h = omega arith

below : (s x : ℕ) → s < 18446744073 → x < 1000000000 → s * 1000000000 + x ≡ min 18446744073000000000 (s * 1000000000 + x)
below s x h k = omega arith

above : (s x : ℕ) → 18446744073 ≤ s → 18446744073000000000 ≡ min 18446744073000000000 (s * 1000000000 + x)
above s x h = omega arith

pub nanoseconds_are : (s f : ℕ) → s < 18446744073 → f < 2 ^ 64
    → s * 1000000000 + (f / 4294967296 * 1000000000 + f % 4294967296 * 1000000000 / 4294967296) / 4294967296 ≡ nanoseconds_in (s * 2 ^ 64 + f)
unfolding nanoseconds_in
nanoseconds_are s f h k =
    ap (λ (x : ℕ). s * 1000000000 + x) (halves f) ∙ below s (f * 1000000000 / 2 ^ 64) h (small f k) ∙ ap (min 18446744073000000000) (sym (whole s f))

pub nanoseconds_most : (s f : ℕ) → 18446744073 ≤ s → 18446744073000000000 ≡ nanoseconds_in (s * 2 ^ 64 + f)
unfolding nanoseconds_in
nanoseconds_most s f h = above s (f * 1000000000 / 2 ^ 64) h ∙ ap (min 18446744073000000000) (sym (whole s f))

-- nanoseconds of a duration that may be refused
abbrev pub in_moment : Result Time Refusal → ℕ
in_moment (Ok t) = nanoseconds_in (time_of t)
in_moment (Err n) = 0

none : (m n : ℕ) → m < n → 0 ≡ nanoseconds_in (m - n)
unfolding nanoseconds_in
none m n h = let e : m - n ≡ 0 = omega arith in ap (λ (d : ℕ). min 18446744073000000000 (d * 1000000000 / 2 ^ 64)) (sym e)

pub since_is : (a b : Time) → in_moment (since_of a b) ≡ nanoseconds_in (time_of a - time_of b)
unfolding since_of
since_is a b = by (ltb (time_of a) (time_of b)) refl
  where
    again : (d : ℕ) → d / 2 ^ 64 * 2 ^ 64 + d % 2 ^ 64 ≡ d
    again d = omega arith

    by : (t : Bool) → ltb (time_of a) (time_of b) ≡ t → in_moment (cond t (Err Reversed) (Ok (time_from (time_of a - time_of b)))) ≡ nanoseconds_in (time_of a - time_of b)
    by true e = none (time_of a) (time_of b) (ltb-true (time_of a) (time_of b) e)
    by false e = ap nanoseconds_in (again (time_of a - time_of b))

-- ## Lines of signals

changes_append : (n : ℕ) (xs ys : List ℕ) → changes_from n (xs ++ ys) ≡ changes_from n xs ++ changes_from (n + length xs) ys
unfolding changes_from
changes_append n [] ys = ap (λ (k : ℕ). changes_from k ys) (none n)
  where
    none : (n : ℕ) → n ≡ n + 0
    none n = omega arith
changes_append n (x ∷ xs) ys = ap (λ (l : List ℕ). x ∷ n ∷ 10 ∷ l) (changes_append (n + 1) xs ys ∙ ap (λ (k : ℕ). changes_from (n + 1) xs ++ changes_from k ys) (next n (length xs)))
  where
    next : (n m : ℕ) → n + 1 + m ≡ n + suc m
    next n m = omega arith

pub changes_none : (n : ℕ) (vs : List ℕ) → [] ≡ changes_from n (take 0 vs)
unfolding changes_from
changes_none n vs = refl

-- one signal more
pub changes_more : (n i : ℕ) (vs : List ℕ) (d : ℕ) → i < length vs → changes_from n (take i vs) ++ (get_or vs i d ∷ (n + i) ∷ 10 ∷ []) ≡ changes_from n (take (i + 1) vs)
unfolding changes_from
changes_more n i vs d h = sym (
    ap (λ (k : ℕ). changes_from n (take k vs)) (one i)
    ∙ ap (changes_from n) (take-suc vs i d h)
    ∙ changes_append n (take i vs) (get_or vs i d ∷ [])
    ∙ ap (λ (k : ℕ). changes_from n (take i vs) ++ (get_or vs i d ∷ (n + k) ∷ 10 ∷ [])) (length-take-le i vs (omega arith)))
  where
    one : (i : ℕ) → i + 1 ≡ suc i
    one i = omega arith

pub changes_all : (n i : ℕ) (vs : List ℕ) → length vs ≤ i → changes_from n (take i vs) ≡ changes_from n vs
changes_all n i vs h = ap (changes_from n) (take_all i vs h)
