-- A part of a slice that runs to its end, read or put back.
-- Assumes nothing.
use mathlib.Core.Path.{◌≡◌, ap, ◌∙◌}
use mathlib.Core.List.{List, ◌++◌, append-nil}
use Prim.Native.Nat.{ℕ, ◌-◌, ◌≤◌}
use native.Mathlib.Nat.{le_of_eq}
use lib.ListN.{length, take, drop, length-drop, drop_of_length-le}
use lib.Seq.{take_all}
use borrow.Rule.Slice.PartMut.{put_mid, mid_of}

tail_long : (a : ℕ) (xs : List ℕ) → length (drop a xs) ≤ length xs - a
tail_long a xs = le_of_eq (length-drop a xs)

pub tail_mid : (a : ℕ) (xs : List ℕ) → mid_of a (length xs - a) xs ≡ drop a xs
tail_mid a xs = take_all (length xs - a) (drop a xs) (tail_long a xs)

pub tail_put : (a : ℕ) (xs ys : List ℕ) → put_mid a (length xs - a) xs ys ≡ take a xs ++ ys
tail_put a xs ys = ap (λ (l : List ℕ). take a xs ++ l) (ap (λ (l : List ℕ). ys ++ l) (drop_of_length-le (drop a xs) (tail_long a xs)) ∙ append-nil ys)

pub part_long : (a : ℕ) (xs : List ℕ) → length (mid_of a (length xs - a) xs) ≡ length xs - a
part_long a xs = ap length (tail_mid a xs) ∙ length-drop a xs
