-- Laws: the first 780 bytes of a text decide what is read of it (`cut_is_same`): 64 lines of 12 bytes, and a 65th.
-- Assumes nothing.
use Rattle.std.specs.Prelude.{Bool, true, false, cond, List, [], ◌∷◌, ◌≡◌, refl, ℕ, zero, suc, ◌+◌, ◌-◌, ◌*◌, ◌≤◌, ◌<◌, min, leb, eqb, length, take, drop, Result, Ok, Err}
use Rattle.std.proofs.Common.{⊎_elim, sym, ◌∙◌, arith, take_all, take-take, length-take-le, le-leb, ne_eqb}
use Rattle.std.proofs.Math.Path.{ap}
use Rattle.std.proofs.Math.Nat.{sub-zero}
use Rattle.lines.specs.Lines.{lines_in, line_length}
use Rattle.lines.specs.LineLaws.{line_within, line_next}
use Rattle.lines.specs.NumberLaws.{below_or_not}
use Rattle.map.specs.declared.Map.{Map}
use Rattle.map.specs.declared.reading.Refused.{Refused}
use Rattle.map.specs.Reading.{empty_map, wrong_next, with_line, range_of, read_on, read_from, read_of}
use Rattle.map.specs.TextLaws.{line_taken}

full_line : (m : Map) (l : List ℕ) → 64 ≤ m.count → with_line m l ≡ Err (wrong_next m)
unfolding with_line
full_line m l h = simp (le-leb 64 m.count h)

other_line : (m : Map) (l : List ℕ) → (length l ≡ 11 → ⊥) → with_line m l ≡ Err (wrong_next m)
unfolding with_line range_of
other_line m l h = simp (ne_eqb (length l) 11 h) (same (leb 64 m.count))
  where
    same : (t : Bool) → ◌≡◌ {A = Result Map Refused} (cond t (Err (wrong_next m)) (Err (wrong_next m))) (Err (wrong_next m))
    same true = refl
    same false = refl

-- ## The first line

module _ (m : Map) (s : List ℕ) (some : 0 < length s) where
  abbrev line : List ℕ
  line = take (line_length s) s

  abbrev rest : List ℕ
  rest = drop (min (length s) (line_length s + 1)) s

  first_line : lines_in true s ≡ line ∷ lines_in true rest
  first_line =
      let e : line_length s ≡ 0 + line_length s = omega arith in
      line_next true s 0 (line_length s) some e (line_within s 0 (line_length s) some e) refl
      ∙ ap (λ (n : ℕ). take n s ∷ lines_in true rest) (sub-zero (line_length s))

  read_first : read_from m (lines_in true s) ≡ read_on (with_line m line) (λ n. read_from n (lines_in true rest))
  unfolding read_from
  read_first = ap (read_from m) first_line

  line_long : length line ≡ line_length s
  line_long = length-take-le (line_length s) s (line_within s 0 (line_length s) some (let e : line_length s ≡ 0 + line_length s = omega arith in e))

  stops : with_line m line ≡ Err (wrong_next m) → read_from m (lines_in true s) ≡ Err (wrong_next m)
  stops e = read_first ∙ ap (λ (q : Result Map Refused). read_on q (λ n. read_from n (lines_in true rest))) e

  -- a 65th line
  read_full : 64 ≤ m.count → read_from m (lines_in true s) ≡ Err (wrong_next m)
  read_full h = stops (full_line m line h)

  -- a line that is too short or too long
  read_other : (line_length s ≡ 11 → ⊥) → read_from m (lines_in true s) ≡ Err (wrong_next m)
  read_other h = stops (other_line m line (λ e. h (sym line_long ∙ e)))

-- ## A text that is cut

cut_line : (n : ℕ) (s : List ℕ) → line_length (take n s) ≡ min n (line_length s)
unfolding line_length
cut_line zero s = omega arith
cut_line (suc n) [] = omega arith
cut_line (suc n) (x ∷ s) = by (eqb x 10) (cut_line n s)
  where
    by : (t : Bool) → line_length (take n s) ≡ min n (line_length s) → cond t 0 (suc (line_length (take n s))) ≡ min (suc n) (cond t 0 (suc (line_length s)))
    by true e = omega arith
    by false e = omega arith

drop_cut : (i n : ℕ) (s : List ℕ) → drop i (take (i + n) s) ≡ take n (drop i s)
drop_cut zero n s = ap (λ (k : ℕ). take k s) (let e : 0 + n ≡ n = omega arith in e)
drop_cut (suc i) n [] = ap (drop (suc i)) (take_all (suc i + n) [] (omega arith)) ∙ sym (take_all n [] (omega arith))
drop_cut (suc i) n (x ∷ s) = ap (λ (k : ℕ). drop (suc i) (take k (x ∷ s))) (let e : suc i + n ≡ suc (i + n) = omega arith in e) ∙ drop_cut i n s

-- so many bytes are enough for so many lines more
abbrev Enough : ℕ → Type 0
Enough k = (n : ℕ) (m : Map) (s : List ℕ) → 64 ≤ m.count + k → 12 * k + 12 ≤ n → read_from m (lines_in true (take n s)) ≡ read_from m (lines_in true s)

-- what the first line and the rest give
abbrev first_then : Map → List ℕ → List ℕ → Result Map Refused
first_then m l r = read_on (with_line m l) (λ n. read_from n (lines_in true r))

module _ (n : ℕ) (m : Map) (s : List ℕ) (long : n < length s) (room : 12 ≤ n) where
  cut_some : 0 < length (take n s)
  cut_some = let e : length (take n s) ≡ n = length-take-le n s (omega arith) in omega arith

  both_full : 64 ≤ m.count → read_from m (lines_in true (take n s)) ≡ read_from m (lines_in true s)
  both_full h = read_full m (take n s) cut_some h ∙ sym (read_full m s (omega arith) h)

  both_other : 24 ≤ n → (line_length s ≡ 11 → ⊥) → read_from m (lines_in true (take n s)) ≡ read_from m (lines_in true s)
  both_other h other = read_other m (take n s) cut_some (λ e. other (let c : line_length (take n s) ≡ min n (line_length s) = cut_line n s in omega arith)) ∙ sym (read_other m s (omega arith) other)

  module _ (eleven : line_length s ≡ 11) where
    cut_eleven : line_length (take n s) ≡ 11
    cut_eleven = let c : line_length (take n s) ≡ min n (line_length s) = cut_line n s in omega arith

    first_whole : read_from m (lines_in true s) ≡ first_then m (take 11 s) (drop 12 s)
    first_whole =
        read_first m s (omega arith)
        ∙ ap (λ (k : ℕ). first_then m (take k s) (rest m s (omega arith))) eleven
        ∙ ap (λ (k : ℕ). first_then m (take 11 s) (drop k s)) (let e : min (length s) (line_length s + 1) ≡ 12 = omega arith in e)

    first_cut : read_from m (lines_in true (take n s)) ≡ first_then m (take 11 s) (take (n - 12) (drop 12 s))
    first_cut =
        read_first m (take n s) cut_some
        ∙ ap (λ (k : ℕ). first_then m (take k (take n s)) (rest m (take n s) cut_some)) cut_eleven
        ∙ ap (λ (l : List ℕ). first_then m l (rest m (take n s) cut_some)) (take-take 11 n s (omega arith))
        ∙ ap (λ (k : ℕ). first_then m (take 11 s) (drop k (take n s))) (let a = cut_eleven in let b : length (take n s) ≡ n = length-take-le n s (omega arith) in let e : min (length (take n s)) (line_length (take n s) + 1) ≡ 12 = omega arith in e)
        ∙ ap (λ (k : ℕ). first_then m (take 11 s) (drop 12 (take k s))) (let e : n ≡ 12 + (n - 12) = omega arith in e)
        ∙ ap (first_then m (take 11 s)) (drop_cut 12 (n - 12) s)

    both_first : (k : ℕ) → Enough k → 64 ≤ m.count + suc k → 12 * suc k + 12 ≤ n → read_from m (lines_in true (take n s)) ≡ read_from m (lines_in true s)
    both_first k more h g = first_cut ∙ by (with_line m (take 11 s)) refl ∙ sym first_whole
      where
        by : (q : Result Map Refused) → with_line m (take 11 s) ≡ q
            → read_on q (λ x. read_from x (lines_in true (take (n - 12) (drop 12 s)))) ≡ read_on q (λ x. read_from x (lines_in true (drop 12 s)))
        by (Ok x) e =
            let t = line_taken m (take 11 s) x e in
            let c : x.count ≡ m.count + 1 = ap (λ (y : Map). y.count) t.next_is in
            more (n - 12) x (drop 12 s) (omega arith) (omega arith)
        by (Err r) e = refl

-- of a text that is longer
longer : (k : ℕ) → Enough k → (n : ℕ) (m : Map) (s : List ℕ) → n < length s → 64 ≤ m.count + suc k → 12 * suc k + 12 ≤ n → read_from m (lines_in true (take n s)) ≡ read_from m (lines_in true s)
longer k more n m s long h g =
    ⊎_elim
    (λ (l : line_length s < 11). both_other n m s long (omega arith) (omega arith) (λ e. omega arith))
    (λ (l : 11 ≤ line_length s).
    ⊎_elim
    (λ (u : 11 < line_length s). both_other n m s long (omega arith) (omega arith) (λ e. omega arith))
    (λ (u : line_length s ≤ 11). both_first n m s long (omega arith) (omega arith) k more h g)
    (below_or_not 11 (line_length s)))
    (below_or_not (line_length s) 11)

whole : (n : ℕ) (m : Map) (s : List ℕ) → (n < length s → read_from m (lines_in true (take n s)) ≡ read_from m (lines_in true s)) → read_from m (lines_in true (take n s)) ≡ read_from m (lines_in true s)
whole n m s long = ⊎_elim long (λ (short : length s ≤ n). ap (λ (l : List ℕ). read_from m (lines_in true l)) (take_all n s short)) (below_or_not n (length s))

enough : (k : ℕ) → Enough k
enough zero n m s h g = whole n m s (λ long. both_full n m s long (omega arith) (omega arith))
enough (suc k) n m s h g = whole n m s (λ long. longer k (enough k) n m s long h g)

pub cut_is_same : (n : ℕ) (s : List ℕ) → 780 ≤ n → read_of (take n s) ≡ read_of s
unfolding read_of empty_map
cut_is_same n s h = enough 64 n empty_map s (omega arith) (omega arith)
