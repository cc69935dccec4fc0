-- Laws: the search gives the least run, and there is one answer.
-- Assumes nothing.
use Rattle.std.specs.Prelude.{◌≡◌, Bool, true, false, cond, List, ◌⊎◌, Result, Ok, Err, ltb, eqb, length}
use Rattle.std.proofs.Math.Path.{refl}
use Rattle.std.proofs.Common.{sym, ap, ◌∙◌, subst, inl, ltb-true, ltb-false, eqb-true}
use Rattle.std.proofs.Math.Logic.{inr, ⊎_elim}
use Prim.Native.Nat.{ℕ, zero, suc, ◌+◌, ◌-◌, ◌≤◌, ◌<◌}
use native.Mathlib.Omega.{arith}
use Rattle.std.proofs.lemmas.Bool.{eqb-false}
use Rattle.search.specs.declared.Run.{Run}
use Rattle.search.specs.declared.Unfound.{Unfound}
use Rattle.search.specs.declared.Unfound.TheVariants.{LongTrace, NotDrawn}
use Rattle.search.specs.Shortest.{drawn_by, run_at, earliest_of, least_of, shortest_of, Draws, Least, Never, Answers}

pub less_or : (a b : ℕ) → (a < b) ⊎ (b ≤ a)
less_or a b = by (ltb a b) refl
  where
    by : (t : Bool) → ltb a b ≡ t → (a < b) ⊎ (b ≤ a)
    by true e = inl (ltb-true a b e)
    by false e = inr (ltb-false a b e)

-- ## The search gives the least run

module _ (ls : List (List ℕ)) (number limit : ℕ) (real : 0 < number) (fits : length ls ≤ limit) where
  earliest_answers : (n : ℕ) (otherwise : Result Run Unfound) (first more : ℕ) → 0 < n → 0 < first → first + more ≤ length ls + 2 - n
      → ((f m : ℕ) → Draws ls number f m → n ≤ m) → ((f : ℕ) → Draws ls number f n → first ≤ f)
      → (((f : ℕ) → Draws ls number f n → first + more ≤ f) → Answers ls number limit otherwise)
      → Answers ls number limit (earliest_of ls number n otherwise first more)
  unfolding earliest_of
  earliest_answers n otherwise first zero some begins room short early els = els (λ f d. let e = early f d in omega arith)
  earliest_answers n otherwise first (suc more) some begins room short early els =
      by (eqb (drawn_by (run_at ls first n)) number) refl
      (λ ne. earliest_answers n otherwise (first + 1) more some (omega arith) (omega arith) short (λ f d. later ne f d (early f d)) (λ none. els (λ f d. let e = none f d in omega arith)))
    where
      later : (drawn_by (run_at ls first n) ≡ number → ⊥) → (f : ℕ) → Draws ls number f n → first ≤ f → first + 1 ≤ f
      later ne f d h = ⊎_elim (λ lt. let e : f ≡ first = omega arith in absurd (ne (subst (λ (x : ℕ). drawn_by (run_at ls x n) ≡ number) e d.draws))) (λ ge. ge) (less_or f (first + 1))

      by : (t : Bool) → eqb (drawn_by (run_at ls first n)) number ≡ t
          → ((drawn_by (run_at ls first n) ≡ number → ⊥) → Answers ls number limit (earliest_of ls number n otherwise (first + 1) more))
          → Answers ls number limit (cond t (Ok (record { first = first; length = n })) (earliest_of ls number n otherwise (first + 1) more))
      by true e on = (
        fits,
        record {
          is = record { refuses = real; begins = begins; some = some; within = omega arith; draws = eqb-true _ _ e };
          shortest = short;
          earliest = early;
        },
      )
      by false e on = on (eqb-false _ _ e)

  least_answers : (n more : ℕ) → 0 < n → n + more ≡ length ls + 1 → ((f m : ℕ) → Draws ls number f m → n ≤ m) → Answers ls number limit (least_of ls number n more)
  unfolding least_of
  least_answers n zero some sum short = (fits, λ f m d. let e = short f m d in let w = d.within in omega arith, refl)
  least_answers n (suc more) some sum short =
      earliest_answers n (least_of ls number (n + 1) more) 1 (length ls + 1 - n) some (omega arith) (omega arith) short (λ f d. let b = d.begins in omega arith)
      (λ none. least_answers (n + 1) more (omega arith) (omega arith) (λ f m d. longer none f m d (short f m d)))
    where
      longer : ((f : ℕ) → Draws ls number f n → 1 + (length ls + 1 - n) ≤ f) → (f m : ℕ) → Draws ls number f m → n ≤ m → n + 1 ≤ m
      longer none f m d h = ⊎_elim
          (λ lt. let e : m ≡ n = omega arith in let w = d.within in let far = none f (subst (λ (x : ℕ). Draws ls number f x) e d) in absurd (omega arith))
          (λ ge. ge) (less_or m (n + 1))

-- the definition that a contract cites gives what is asked
pub shortest_answers : (ls : List (List ℕ)) (number limit : ℕ) → Answers ls number limit (shortest_of ls number limit)
unfolding shortest_of
shortest_answers ls number limit = by (ltb limit (length ls)) (eqb number 0) refl refl
  where
    by : (t u : Bool) → ltb limit (length ls) ≡ t → eqb number 0 ≡ u → Answers ls number limit (cond t (Err LongTrace) (cond u (Err NotDrawn) (least_of ls number 1 (length ls))))
    by true u e d = (ltb-true _ _ e, refl)
    by false true e d = (ltb-false _ _ e, λ f m w. let z = eqb-true number 0 d in let p = w.refuses in omega arith, refl)
    by false false e d = least_answers ls number limit (let ne = eqb-false number 0 d in omega arith) (ltb-false _ _ e) 1 (length ls) (omega arith) (omega arith) (λ f m w. w.some)

-- ## One answer

module _ (ls : List (List ℕ)) (number : ℕ) where
  -- the least run is one
  pub least_one : (a b : Run) → Least ls number a.first a.length → Least ls number b.first b.length → a ≡ b
  least_one a b p q = ap (λ (x : ℕ). record { first = a.first; length = x }) same_length ∙ ap (λ (x : ℕ). record { first = x; length = b.length }) same_first
    where
      same_length : a.length ≡ b.length
      same_length = omega (arith, p.shortest b.first b.length q.is, q.shortest a.first a.length p.is)

      same_first : a.first ≡ b.first
      same_first =
          omega (arith, p.earliest b.first (subst (λ (x : ℕ). Draws ls number b.first x) (sym same_length) q.is), q.earliest a.first (subst (λ (x : ℕ). Draws ls number a.first x) same_length p.is))

  -- the answer is one
  pub answer_one : (limit : ℕ) (a b : Result Run Unfound) → Answers ls number limit a → Answers ls number limit b → a ≡ b
  answer_one limit (Ok a) (Ok b) p q = ap (λ (x : Run). Ok x) (least_one a b p.1 q.1)
  answer_one limit (Ok a) (Err LongTrace) p q = absurd (omega (arith, p.0, q.0))
  answer_one limit (Ok a) (Err NotDrawn) p q = absurd (q.1 a.first a.length p.1.is)
  answer_one limit (Err LongTrace) (Ok b) p q = absurd (omega (arith, p.0, q.0))
  answer_one limit (Err NotDrawn) (Ok b) p q = absurd (p.1 b.first b.length q.1.is)
  answer_one limit (Err LongTrace) (Err LongTrace) p q = refl
  answer_one limit (Err LongTrace) (Err NotDrawn) p q = absurd (omega (arith, p.0, q.0))
  answer_one limit (Err NotDrawn) (Err LongTrace) p q = absurd (omega (arith, p.0, q.0))
  answer_one limit (Err NotDrawn) (Err NotDrawn) p q = refl

-- ## What the definition gives

module _ (ls : List (List ℕ)) (number : ℕ) where
  -- what answers is the definition
  pub answer_is : (limit : ℕ) (a : Result Run Unfound) → Answers ls number limit a → a ≡ shortest_of ls number limit
  answer_is limit a p = answer_one ls number limit a (shortest_of ls number limit) p (shortest_answers ls number limit)

  answers : (limit : ℕ) (a : Result Run Unfound) → shortest_of ls number limit ≡ a → Answers ls number limit a
  answers limit a e = subst (λ (x : Result Run Unfound). Answers ls number limit x) e (shortest_answers ls number limit)

  -- 17 exactly where there are more lines than the limit
  pub beyond : (limit : ℕ) → limit < length ls → shortest_of ls number limit ≡ Err LongTrace
  beyond limit h = sym (answer_is limit (Err LongTrace) (h, refl))

  pub beyond_only : (limit : ℕ) → shortest_of ls number limit ≡ Err LongTrace → limit < length ls
  beyond_only limit e = (answers limit (Err LongTrace) e).0

  -- after it, 18 exactly where no run draws the number
  pub never : (limit : ℕ) → length ls ≤ limit → Never ls number → shortest_of ls number limit ≡ Err NotDrawn
  never limit h n = sym (answer_is limit (Err NotDrawn) (h, n, refl))

  pub never_only : (limit : ℕ) → shortest_of ls number limit ≡ Err NotDrawn → (length ls ≤ limit) × Never ls number
  never_only limit e = let w = answers limit (Err NotDrawn) e in (w.0, w.1)

  -- else the least run
  pub least : (limit : ℕ) (run : Run) → length ls ≤ limit → Least ls number run.first run.length → shortest_of ls number limit ≡ Ok run
  least limit run h l = sym (answer_is limit (Ok run) (h, l))

  pub least_only : (limit : ℕ) (run : Run) → shortest_of ls number limit ≡ Ok run → (length ls ≤ limit) × Least ls number run.first run.length
  least_only limit run e = answers limit (Ok run) e

-- a line answered 0 draws none
pub zero_never : (ls : List (List ℕ)) (limit : ℕ) → length ls ≤ limit → shortest_of ls 0 limit ≡ Err NotDrawn
zero_never ls limit h = never ls 0 limit h (λ f m d. let z = d.refuses in omega arith)

-- a run lies within the limit
pub within_limit : (ls : List (List ℕ)) (number limit : ℕ) (found : Result Run Unfound) (run : Run) → Answers ls number limit found → found ≡ Ok run → (run.first ≤ limit) × (run.length ≤ limit)
within_limit ls number limit found run w e = within (subst (λ (x : Result Run Unfound). Answers ls number limit x) e w)
  where
    within : (length ls ≤ limit) × Least ls number run.first run.length → (run.first ≤ limit) × (run.length ≤ limit)
    within a = let d = a.1.is in (omega arith, omega arith)
