-- Where a script has its next line, and the lines after it.
-- Assumes nothing.
use Rattle.std.specs.Prelude.{None, Some}
use Prim.Native.Nat.{ℕ, zero, suc, ◌+◌, ◌-◌, ◌≤◌, ◌<◌, min}
use mathlib.Core.Bool.{true}
use mathlib.Core.List.{List, [], ◌∷◌}
use mathlib.Core.Logic.{⊎_elim}
use mathlib.Core.Path.{◌≡◌, refl, sym, ap, ◌∙◌}
use native.Mathlib.Omega.{arith}
use lib.ListN.{length, take, drop}
use Rattle.lines.specs.Lines.{lines_in, line_length}
use Rattle.lines.specs.LineLaws.{line_within, line_next, lines_end, take_next}
use Rattle.lines.specs.NumberLaws.{below_or_not}
use Rattle.script.specs.Script.{line_of, next_of}
use Rattle.bench.specs.Cursor.{next_at, left}

none_of : (n : ℕ) → ◌≡◌ {A = List (List ℕ)} (take n []) []
none_of zero = refl
none_of (suc n) = refl

-- past the end, and after 1,000,000 lines
left_end : (s : List ℕ) (at n : ℕ) → length s ≤ at → left s at n ≡ []
left_end s at n h = ap (take (1000000 - n)) (lines_end true s at h) ∙ none_of (1000000 - n)

left_over : (s : List ℕ) (at n : ℕ) → 1000000 ≤ n → left s at n ≡ []
left_over s at n h = ap (λ (k : ℕ). take k (lines_in true (drop at s))) (none n h)
  where
    none : (n : ℕ) → 1000000 ≤ n → 1000000 - n ≡ 0
    none n h = omega arith

pub next_end : (s : List ℕ) (at n : ℕ) → length s ≤ at → next_at s at n ≡ None
unfolding next_at
next_end s at n h = ap next_of (left_end s at n h)

pub next_over : (s : List ℕ) (at n : ℕ) → 1000000 ≤ n → next_at s at n ≡ None
unfolding next_at
next_over s at n h = ap next_of (left_over s at n h)

-- the line at a place, and the lines after it
abbrev end : List ℕ → ℕ → ℕ
end s at = at + line_length (drop at s)

left_line : (s : List ℕ) (at n : ℕ) → at < length s → n < 1000000
    → left s at n ≡ take (end s at - at) (drop at s) ∷ left s (min (length s) (end s at + 1)) (n + 1)
left_line s at n h m =
    ap (take (1000000 - n)) (line_next true s at (end s at) h refl (line_within s at (end s at) h refl) refl)
    ∙ take_next n (take (end s at - at) (drop at s)) (lines_in true (drop (min (length s) (end s at + 1)) s)) m

pub next_line : (s : List ℕ) (at n e : ℕ) → at < length s → n < 1000000 → e ≡ end s at → next_at s at n ≡ Some (line_of (take (e - at) (drop at s)))
unfolding next_at
next_line s at n e h m f = ap next_of (left_line s at n h m) ∙ ap (λ (x : ℕ). Some (line_of (take (x - at) (drop at s)))) (sym f)

-- a line answered
pub left_after : (s : List ℕ) (at n : ℕ) → drop 1 (left s at n) ≡ left s (min (length s) (end s at + 1)) (n + 1)
left_after s at n =
    ⊎_elim
    (λ a. ⊎_elim (λ b. ap (drop 1) (left_line s at n a b)) (λ b. ap (drop 1) (left_over s at n b) ∙ sym (left_over s (min (length s) (end s at + 1)) (n + 1) (omega arith))) (below_or_not n 1000000))
    (λ a. ap (drop 1) (left_end s at n a) ∙ sym (left_end s (min (length s) (end s at + 1)) (n + 1) (omega arith)))
    (below_or_not at (length s))
