-- Laws of words that are written and read. Assumes nothing.
use Prim.Native.Nat.{◌+◌, ◌≤◌, ℕ, suc, zero}
use Rattle.clock_calls.specs.Sets.{words_at}
use Rattle.std.proofs.lemmas.List.{length-take, length-drop, drop_more}
use Rattle.std.proofs.lemmas.List.Edits.{paste_all, sets-eq}
use Rattle.std.proofs.lemmas.Slice.{put_mid-paste}
use borrow.Rule.Slice.PartMut.{put_mid, mid_of}
use lib.ListN.{length, get_or, take, drop}
use lib.Seq.{sets}
use mathlib.Core.List.{List, ◌∷◌, ◌++◌, append_assoc}
use mathlib.Core.Path.{◌≡◌, refl, sym, ap, ◌∙◌}
use native.Mathlib.Omega.{arith}

-- nine words that are copied to a place among 82
pub sets_from_copy : (xs ys words : List ℕ) (at k : ℕ) → k ≡ 9 → at ≤ 73 → length xs ≡ 82 → length ys ≡ length (mid_of at k xs) → ys ≡ words → put_mid at k xs ys ≡ sets xs at words
sets_from_copy xs ys words at k nine fits all part e =
    let a = length-drop at xs in
    let b = length-take k (drop at xs) in
    let n : length words ≡ 9 = rw e at part ∙ omega arith in
    let left = put_mid-paste at k xs ys words 9 e (sym nine) (sym n) ∙ paste_all xs at words 9 (sym n) in
    let right = sets-eq words xs at (omega arith) ∙ append_assoc (take at xs) words (drop (at + length words) xs) in
    left ∙ sym (right ∙ ap (λ m. take at xs ++ (words ++ drop (at + m) xs)) n)

-- so many words, from a place on
pub words_from_part : (n : ℕ) (w : List ℕ) (at : ℕ) → at + n ≤ length w → take n (drop at w) ≡ words_at n w at
words_from_part zero w at h = refl
words_from_part (suc n) w at h =
    ap (take (suc n)) (drop_more w at 0 (omega arith)) ∙ ap (λ l. get_or w at 0 ∷ l) (words_from_part n w (at + 1) (omega arith))
