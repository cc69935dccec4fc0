-- Laws: a line may be cut to its first 65 bytes, which are enough to make it malformed, and the search finds the same.
-- Assumes nothing.
use Rattle.std.specs.Prelude.{◌≡◌, None, Result, Ok, Err, ltb, eqb, length, take, drop}
use Rattle.std.proofs.Math.Path.{refl, ap}
use Rattle.std.proofs.Common.{sym, ◌∙◌, ⊎_elim, arith, take_all, length-take-le, lt-ltb}
use Rattle.std.proofs.Math.Bool.{cond}
use mathlib.Core.List.{List, [], ◌∷◌}
use Prim.Native.Nat.{ℕ, zero, suc, ◌+◌, ◌-◌, ◌<◌}
use Rattle.answers.specs.declared.Answer.{Answer}
use Rattle.lines.specs.Reading.{timed_of, call_of}
use Rattle.answers.specs.Calls.{parsed_of, answer_of}
use Rattle.answers.specs.Calls.{trace_clocks}
use Rattle.search.specs.declared.Run.{Run}
use Rattle.search.specs.declared.Unfound.{Unfound}
use Rattle.search.specs.declared.Unfound.TheVariants.{LongTrace, NotDrawn}
use Rattle.search.specs.Shortest.{unplayed, last_answer, drawn_by, run_at, earliest_of, least_of, shortest_of}
use Rattle.search.proofs.ShortestLaws.{less_or}
use Rattle.refusals.specs.Refusals.{number_ended}

-- lines, each cut to its first 65 bytes
pub cut : List (List ℕ) → List (List ℕ)
cut [] = []
cut (l ∷ ls) = take 65 l ∷ cut ls

malformed : (l : List ℕ) → 64 < length l → call_of l ≡ None
unfolding call_of timed_of
malformed l h = rw (lt-ltb 64 (length l) h)

cut_call : (l : List ℕ) → call_of (take 65 l) ≡ call_of l
cut_call l = ⊎_elim
    (λ lt. ap call_of (take_all 65 l (omega arith)))
    (λ ge. malformed (take 65 l) (let e : length (take 65 l) ≡ 65 = length-take-le 65 l ge in omega arith) ∙ sym (malformed l (omega arith)))
    (less_or (length l) 65)

cut_answer : (a : Answer) (ls : List (List ℕ)) → last_answer trace_clocks a (cut ls) ≡ last_answer trace_clocks a ls
unfolding last_answer answer_of cut
cut_answer a [] = refl
cut_answer a (l ∷ ls) =
    ap (λ (p : Answer). last_answer trace_clocks p (cut ls)) (ap (parsed_of trace_clocks a.host) (cut_call l))
    ∙ cut_answer (answer_of trace_clocks a.host l) ls

cut_take : (n : ℕ) (ls : List (List ℕ)) → take n (cut ls) ≡ cut (take n ls)
unfolding cut
cut_take zero ls = refl
cut_take (suc n) [] = refl
cut_take (suc n) (l ∷ ls) = ap (λ (x : List (List ℕ)). take 65 l ∷ x) (cut_take n ls)

cut_drop : (n : ℕ) (ls : List (List ℕ)) → drop n (cut ls) ≡ cut (drop n ls)
unfolding cut
cut_drop zero ls = refl
cut_drop (suc n) [] = refl
cut_drop (suc n) (l ∷ ls) = cut_drop n ls

cut_length : (ls : List (List ℕ)) → length (cut ls) ≡ length ls
unfolding cut
cut_length [] = refl
cut_length (l ∷ ls) = ap suc (cut_length ls)

module _ (ls : List (List ℕ)) (number : ℕ) where
  cut_drawn : (first n : ℕ) → drawn_by (run_at (cut ls) first n) ≡ drawn_by (run_at ls first n)
  unfolding drawn_by
  cut_drawn first n =
      ap (λ (x : List (List ℕ)). number_ended (last_answer trace_clocks unplayed (take n x)).answer) (cut_drop (first - 1) ls)
      ∙ ap (λ (x : List (List ℕ)). number_ended (last_answer trace_clocks unplayed x).answer) (cut_take n (drop (first - 1) ls))
      ∙ ap (λ (a : Answer). number_ended a.answer) (cut_answer unplayed (run_at ls first n))

  cut_earliest : (n : ℕ) (otherwise : Result Run Unfound) (first more : ℕ) → earliest_of (cut ls) number n otherwise first more ≡ earliest_of ls number n otherwise first more
  unfolding earliest_of
  cut_earliest n otherwise first zero = refl
  cut_earliest n otherwise first (suc more) =
      ap (λ (d : ℕ). cond (eqb d number) (Ok (record { first = first; length = n })) (earliest_of (cut ls) number n otherwise (first + 1) more)) (cut_drawn first n)
      ∙ ap (cond (eqb (drawn_by (run_at ls first n)) number) (Ok (record { first = first; length = n }))) (cut_earliest n otherwise (first + 1) more)

  cut_least : (n more : ℕ) → least_of (cut ls) number n more ≡ least_of ls number n more
  unfolding least_of
  cut_least n zero = refl
  cut_least n (suc more) =
      cut_earliest n (least_of (cut ls) number (n + 1) more) 1 (length (cut ls) + 1 - n)
      ∙ ap (λ (m : ℕ). earliest_of ls number n (least_of (cut ls) number (n + 1) more) 1 (m + 1 - n)) (cut_length ls)
      ∙ ap (λ (f : Result Run Unfound). earliest_of ls number n f 1 (length ls + 1 - n)) (cut_least (n + 1) more)

  -- the search over cut lines
  pub cut_is_same : (limit : ℕ) → shortest_of (cut ls) number limit ≡ shortest_of ls number limit
  unfolding shortest_of
  cut_is_same limit =
      ap (λ (m : ℕ). cond (ltb limit m) (Err LongTrace) (cond (eqb number 0) (Err NotDrawn) (least_of (cut ls) number 1 m))) (cut_length ls)
      ∙ ap (λ (f : Result Run Unfound). cond (ltb limit (length ls)) (Err LongTrace) (cond (eqb number 0) (Err NotDrawn) f)) (cut_least 1 (length ls))
