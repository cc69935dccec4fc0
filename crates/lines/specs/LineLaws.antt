-- Laws: the lines of a list of bytes, one at a time.
-- Assumes nothing.
use Rattle.std.proofs.Math.Path.{◌≡◌, refl, ap}
use Rattle.std.proofs.Common.{sym, ◌∙◌, subst, inl, inr, ⊎_elim, length-drop, drop_of_length-le, take_all, drop-drop}
use Rattle.std.specs.Prelude.{Bool, ◌||◌, ◌⊎◌, eqb, length}
use Rattle.std.proofs.Math.Bool.{true, false, cond, not}
use mathlib.Core.List.{List, [], ◌∷◌, ◌++◌, append_assoc, append-nil}
use Prim.Native.Nat.{ℕ, suc, ◌+◌, ◌-◌, ◌≤◌, ◌<◌, min}
use native.Mathlib.Omega.{arith}
use Rattle.std.proofs.Math.Dec.{ltb}
use Rattle.std.proofs.Math.ListN.{take, drop}
use borrow.Author.Tests.{le-ltb, ltb-true, ltb-false}
use Rattle.lines.specs.Lines.{unclosed, lines_from, lines_in, line_length}

line_long : (l : List ℕ) → line_length l ≤ length l
unfolding line_length
line_long [] = omega arith
line_long (x ∷ xs) = by (eqb x 10) (line_long xs)
  where
    by : (t : Bool) → line_length xs ≤ length xs → cond t 0 (suc (line_length xs)) ≤ suc (length xs)
    by true h = omega arith
    by false h = omega arith

-- a line that starts within ends within
pub line_within : (s : List ℕ) (at end : ℕ) → at < length s → end ≡ at + line_length (drop at s) → end ≤ length s
line_within s at end h e = omega (arith, line_long (drop at s), length-drop at s)

-- a line that a newline closes
pub from_next : (ended : Bool) (begun l : List ℕ) → line_length l < length l
    → lines_from ended begun l ≡ (begun ++ take (line_length l) l) ∷ lines_from ended [] (drop (suc (line_length l)) l)
unfolding lines_from line_length
from_next ended begun [] h = absurd (omega arith)
from_next ended begun (x ∷ xs) h = by (eqb x 10) (from_next ended (begun ++ (x ∷ [])) xs) h
  where
    by : (t : Bool) → (line_length xs < length xs → lines_from ended (begun ++ (x ∷ [])) xs ≡ ((begun ++ (x ∷ [])) ++ take (line_length xs) xs) ∷ lines_from ended [] (drop (suc (line_length xs)) xs))
        → cond t 0 (suc (line_length xs)) < suc (length xs)
        → cond t (begun ∷ lines_from ended [] xs) (lines_from ended (begun ++ (x ∷ [])) xs)
        ≡ (begun ++ take (cond t 0 (suc (line_length xs))) (x ∷ xs)) ∷ lines_from ended [] (drop (suc (cond t 0 (suc (line_length xs)))) (x ∷ xs))
    by true more h = ap (λ (b : List ℕ). b ∷ lines_from ended [] xs) (sym (append-nil begun))
    by false more h =
        more (omega arith)
        ∙ ap (λ (b : List ℕ). b ∷ lines_from ended [] (drop (suc (line_length xs)) xs)) (append_assoc begun (x ∷ []) (take (line_length xs) xs))

-- one that none closes
pub from_last : (ended : Bool) (begun l : List ℕ) → line_length l ≡ length l → lines_from ended begun l ≡ unclosed ended (begun ++ l)
unfolding lines_from line_length
from_last ended begun [] h = ap (unclosed ended) (sym (append-nil begun))
from_last ended begun (x ∷ xs) h = by (eqb x 10) (from_last ended (begun ++ (x ∷ [])) xs) h
  where
    by : (t : Bool) → (line_length xs ≡ length xs → lines_from ended (begun ++ (x ∷ [])) xs ≡ unclosed ended ((begun ++ (x ∷ [])) ++ xs))
        → cond t 0 (suc (line_length xs)) ≡ suc (length xs)
        → cond t (begun ∷ lines_from ended [] xs) (lines_from ended (begun ++ (x ∷ [])) xs) ≡ unclosed ended (begun ++ x ∷ xs)
    by true more h = absurd (omega arith)
    by false more h = more (omega arith) ∙ ap (unclosed ended) (append_assoc begun (x ∷ []) xs)

unclosed_none : (l : List ℕ) → unclosed false l ≡ []
unclosed_none [] = refl
unclosed_none (x ∷ xs) = refl

unclosed_one : (l : List ℕ) → 0 < length l → unclosed true l ≡ l ∷ []
unclosed_one [] h = absurd (omega arith)
unclosed_one (x ∷ xs) h = refl

-- the line that starts at a place and ends at another
module _ (ended : Bool) (s : List ℕ) (at end : ℕ) (some : at < length s) (end_is : end ≡ at + line_length (drop at s)) (end-le : end ≤ length s) where
  abbrev rest : List ℕ
  rest = drop at s

  rest_long : length rest ≡ length s - at
  rest_long = length-drop at s

  ends_at : end - at ≡ line_length rest
  ends_at = omega arith

  closed : end < length s → lines_in ended rest ≡ take (end - at) rest ∷ lines_in ended (drop (min (length s) (end + 1)) s)
  unfolding lines_in
  closed h =
      from_next ended [] rest (omega (arith, rest_long))
      ∙ ap (λ (n : ℕ). take n rest ∷ lines_from ended [] (drop (suc (line_length rest)) rest)) (sym ends_at)
      ∙ ap (λ (l : List ℕ). take (end - at) rest ∷ lines_from ended [] l) (drop-drop (suc (line_length rest)) at s ∙ ap (λ (n : ℕ). drop n s) on)
    where
      on : at + suc (line_length rest) ≡ min (length s) (end + 1)
      on = omega arith

  last : length s ≤ end → lines_in ended rest ≡ unclosed ended rest
  unfolding lines_in
  last h = from_last ended [] rest (omega (arith, rest_long))

  last_line : length s ≤ end → (t : Bool) → t ≡ true → unclosed t rest ≡ take (end - at) rest ∷ lines_in t (drop (min (length s) (end + 1)) s)
  unfolding lines_in lines_from
  last_line h true e =
      unclosed_one rest (omega (arith, rest_long))
      ∙ ap (λ (l : List ℕ). l ∷ []) (sym (take_all (end - at) rest (omega (arith, rest_long))))
      ∙ ap (λ (l : List ℕ). take (end - at) rest ∷ lines_from true [] l) (sym (drop_of_length-le s {i = min (length s) (end + 1)} (omega arith)))
  last_line h false e = absurd (let z : ◌≡◌ {A = Bool} false true = e in omega (arith, bool z))
    where
      bool : false ≡ true → ◌≡◌ {A = ℕ} 0 1
      bool z = ap (λ (b : Bool). cond b 1 0) z

  pub line_next : not (ended || ltb end (length s)) ≡ false → lines_in ended rest ≡ take (end - at) rest ∷ lines_in ended (drop (min (length s) (end + 1)) s)
  line_next w = ⊎_elim closed (λ h. last h ∙ last_line h ended (must ended (subst (λ (t : Bool). not (ended || t) ≡ false) (le-ltb end (length s) h) w))) (split (ltb end (length s)) refl)
    where
      split : (t : Bool) → ltb end (length s) ≡ t → (end < length s) ⊎ (length s ≤ end)
      split true e = inl (ltb-true end (length s) e)
      split false e = inr (ltb-false end (length s) e)

      must : (t : Bool) → not (t || false) ≡ false → t ≡ true
      must true e = refl
      must false e = sym e

  pub line_none : not (ended || ltb end (length s)) ≡ true → lines_in ended rest ≡ []
  unfolding lines_in
  line_none w = by ended (ltb end (length s)) refl w
    where
      by : (t u : Bool) → ltb end (length s) ≡ u → not (t || u) ≡ true → lines_in t rest ≡ []
      by true u e w = absurd (omega (arith, ap {B = ℕ} (λ (b : Bool). cond b 1 0) w))
      by false true e w = absurd (omega (arith, ap {B = ℕ} (λ (b : Bool). cond b 1 0) w))
      by false false e w = from_last false [] rest (omega (arith, rest_long, ltb-false end (length s) e)) ∙ unclosed_none rest

pub lines_end : (ended : Bool) (s : List ℕ) (at : ℕ) → length s ≤ at → lines_in ended (drop at s) ≡ []
unfolding lines_in lines_from
lines_end ended s at h = ap (lines_from ended []) (drop_of_length-le s h)

-- the first of the lines that are left of 1,000,000
pub take_next : (n : ℕ) (l : List ℕ) (ls : List (List ℕ)) → n < 1000000 → take (1000000 - n) (l ∷ ls) ≡ l ∷ take (1000000 - (n + 1)) ls
take_next n l ls h = ap (λ (k : ℕ). take k (l ∷ ls)) (back n h)
  where
    back : (n : ℕ) → n < 1000000 → 1000000 - n ≡ suc (1000000 - (n + 1))
    back n h = omega arith
