-- Laws: the place after the seconds of a line is within it. Assumes nothing.
use Rattle.std.specs.Prelude.{◌≡◌, ℕ, ◌+◌, ◌*◌, ◌^◌, ◌≤◌, not, ◌&&◌, eqb, ltb, cond, List, [], ◌∷◌, length, Option, None, Some}
use Rattle.std.proofs.Common.{ap, arith, ⊎_elim}
use Rattle.std.proofs.lemmas.Option.{none-some}
use Rattle.lines.specs.NumberLaws.{chosen, some_is}
use Rattle.lines.specs.Reading.{closed_by, digit_of, scan, seconds_of}

closed_within : (x n i : ℕ) (xs : List ℕ) (v m : ℕ) → closed_by x n i ≡ Some (v, m) → m ≤ i + length (x ∷ xs)
unfolding closed_by
closed_within x n i xs v m e =
    ⊎_elim
    (λ t. let same : i + 1 ≡ m = ap (λ (p : ℕ × ℕ). p.1) (some_is (n, i + 1) (v, m) t.1) in omega arith)
    (λ t. absurd (none-some (v, m) t.1))
    (chosen (eqb x 9 && not (eqb i 0)) (Some (n, i + 1)) None (Some (v, m)) e)

scan_within : (xs : List ℕ) (n i v m : ℕ) → scan n i xs ≡ Some (v, m) → m ≤ i + length xs
unfolding scan
scan_within [] n i v m e = absurd (none-some (v, m) e)
scan_within (x ∷ xs) n i v m e =
    ⊎_elim
    (λ t.
    ⊎_elim
    (λ u. absurd (none-some (v, m) u.1))
    (λ u.
    ⊎_elim
    (λ w. let h : m ≤ i + 1 + length xs = scan_within xs (n * 10 + digit_of x) (i + 1) v m w.1 in omega arith)
    (λ w. absurd (none-some (v, m) w.1))
    (chosen (ltb (n * 10 + digit_of x) (2 ^ 64)) (scan (n * 10 + digit_of x) (i + 1) xs) None (Some (v, m)) u.1))
    (chosen (eqb n 0 && not (eqb i 0)) None (cond (ltb (n * 10 + digit_of x) (2 ^ 64)) (scan (n * 10 + digit_of x) (i + 1) xs) None) (Some (v, m)) t.1))
    (λ t. closed_within x n i xs v m t.1)
    (chosen (ltb (digit_of x) 10) (cond (eqb n 0 && not (eqb i 0)) None (cond (ltb (n * 10 + digit_of x) (2 ^ 64)) (scan (n * 10 + digit_of x) (i + 1) xs) None)) (closed_by x n i) (Some (v, m)) e)

pub seconds_within : (l : List ℕ) (v m : ℕ) → seconds_of l ≡ Some (v, m) → m ≤ length l
unfolding seconds_of
seconds_within l v m e = let h : m ≤ 0 + length l = scan_within l 0 0 v m e in omega arith
