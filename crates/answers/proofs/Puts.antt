-- Laws of `Put`, and of the digits' definitions.
-- Assumes nothing.
use mathlib.Core.Path.{◌≡◌, refl, sym, ap, ◌∙◌, subst}
use mathlib.Core.Bool.{Bool, cond}
use mathlib.Core.List.{List, [], ◌∷◌, ◌++◌, append_assoc}
use Prim.Native.Nat.{ℕ, suc, ◌+◌, ◌-◌, ◌/◌, ◌%◌, ◌≤◌, ◌<◌}
use native.Mathlib.Nat.{add-zero}
use native.Mathlib.Numerals.{add-one}
use native.Mathlib.Omega.{arith}
use lib.ListN.{length, take, drop, set, length-append, length-drop, take-append-drop}
use lib.Seq.{set_split, length-take-le, take_at, drop_at, drop-drop}
use borrow.Author.Tests.{lt-ltb, le-ltb}
use Rattle.lines.specs.Numbers.{glyph, decimal_in, hex_in}
use Rattle.answers.specs.Puts.{Put}
use Rattle.answers.specs.Answers.{room_for}

pub put_none : (l : List ℕ) (at : ℕ) → Put l l at at []
put_none l at = record { next = sym (add-zero at); is = sym (take-append-drop at l) }

pub put_one : (l : List ℕ) (at b : ℕ) → at < length l → Put l (set l at b) at (at + 1) (b ∷ [])
put_one l at b h = record { next = refl; is = set_split l at b h ∙ ap (λ (k : ℕ). take at l ++ b ∷ drop k l) (sym (add-one at)) }

-- bytes put after others
pub put_then : {a b c : List ℕ} {at m r : ℕ} {xs ys : List ℕ} → at ≤ length a → Put a b at m xs → Put b c m r ys → Put a c at r (xs ++ ys)
put_then {a} {b} {c} {at} {m} {r} {xs} {ys} h p q = record {
  next = let e : length (xs ++ ys) ≡ length xs + length ys = length-append xs ys in omega (arith, p.next, q.next);
  is =
      q.is
      ∙ ap (λ (l : List ℕ). l ++ (ys ++ drop r b)) front
      ∙ ap (λ (l : List ℕ). (take at a ++ xs) ++ (ys ++ l)) rest
      ∙ append_assoc (take at a) xs (ys ++ drop r a)
      ∙ ap (λ (l : List ℕ). take at a ++ l) (sym (append_assoc xs ys (drop r a)));
}
  where
    head : b ≡ (take at a ++ xs) ++ drop m a
    head = p.is ∙ sym (append_assoc (take at a) xs (drop m a))

    long : length (take at a ++ xs) ≡ m
    long = let e : length (take at a ++ xs) ≡ length (take at a) + length xs = length-append (take at a) xs in let f : length (take at a) ≡ at = length-take-le at a h in omega (arith, p.next)

    front : take m b ≡ take at a ++ xs
    front = ap (take m) head ∙ take_at (take at a ++ xs) (drop m a) m long

    rest : drop r b ≡ drop r a
    rest =
        ap (λ (k : ℕ). drop k b) q.next
        ∙ sym (drop-drop (length ys) m b)
        ∙ ap (drop (length ys)) (ap (drop m) head ∙ drop_at (take at a ++ xs) (drop m a) m long)
        ∙ drop-drop (length ys) m a
        ∙ ap (λ (k : ℕ). drop k a) (sym q.next)

-- what is put lies within the buffer
pub put_within : {a b : List ℕ} {r : ℕ} {xs : List ℕ} → Put a b 0 r xs → length b ≡ length a → r ≤ length a
put_within {a} {b} {r} {xs} p e =
    let f : length b ≡ length xs + length (drop r a) = ap length p.is ∙ length-append xs (drop r a) in
    let n = p.next in
    let d : length (drop r a) ≡ length a - r = length-drop r a in
    omega arith

pub put_as : {a b : List ℕ} {at r : ℕ} {xs ys : List ℕ} → xs ≡ ys → Put a b at r xs → Put a b at r ys
put_as {a} {b} {at} {r} e p = subst (λ (l : List ℕ). Put a b at r l) e p

-- where 80 bytes are free, the text itself
pub with_room_lem : (free : ℕ) (text : List ℕ) → 80 ≤ free → room_for free text ≡ text
with_room_lem free text h = ap (λ (b : Bool). cond b [] text) (le-ltb free 80 h)

-- a number of one or more
back : (k : ℕ) → 0 < k → k ≡ suc (k - 1)
back k h = omega arith

pub decimal_none : (k n : ℕ) → k ≡ 0 → [] ≡ decimal_in k n
unfolding decimal_in
decimal_none k n e = sym (ap (λ (j : ℕ). decimal_in j n) e)

pub decimal_last : (k n : ℕ) → 0 < k → n < 10 → (glyph n ∷ []) ≡ decimal_in k n
unfolding decimal_in
decimal_last k n h l = sym (ap (λ (j : ℕ). decimal_in j n) (back k h) ∙ rw (lt-ltb n 10 l))

pub decimal_more : (k n : ℕ) → 0 < k → 10 ≤ n → decimal_in (k - 1) (n / 10) ++ (glyph (n % 10) ∷ []) ≡ decimal_in k n
unfolding decimal_in
decimal_more k n h l = sym (ap (λ (j : ℕ). decimal_in j n) (back k h) ∙ rw (le-ltb n 10 l))

-- where one digit is wanted, the last
pub decimal_end : (k n : ℕ) → k ≡ 1 → 10 ≤ n → (glyph (n % 10) ∷ []) ≡ decimal_in k n
decimal_end k n e l = ap (λ (ds : List ℕ). ds ++ (glyph (n % 10) ∷ [])) (decimal_none (k - 1) (n / 10) (omega arith)) ∙ decimal_more k n (omega arith) l

-- two digits
pub decimal_two : (k n : ℕ) → 1 < k → 10 ≤ n → n / 10 < 10 → (glyph (n / 10) ∷ glyph (n % 10) ∷ []) ≡ decimal_in k n
decimal_two k n h l m = ap (λ (ds : List ℕ). ds ++ (glyph (n % 10) ∷ [])) (decimal_last (k - 1) (n / 10) (omega arith) m) ∙ decimal_more k n (omega arith) l

-- two after those of a hundredth
pub decimal_on : (k n : ℕ) → 1 < k → 10 ≤ n → 10 ≤ n / 10
    → decimal_in (k - 2) (n / 10 / 10) ++ (glyph (n / 10 % 10) ∷ glyph (n % 10) ∷ []) ≡ decimal_in k n
decimal_on k n h l m =
    sym (append_assoc (decimal_in (k - 2) (n / 10 / 10)) (glyph (n / 10 % 10) ∷ []) (glyph (n % 10) ∷ []))
    ∙ ap (λ (j : ℕ). (decimal_in j (n / 10 / 10) ++ (glyph (n / 10 % 10) ∷ [])) ++ (glyph (n % 10) ∷ [])) (less k)
    ∙ ap (λ (ds : List ℕ). ds ++ (glyph (n % 10) ∷ [])) (decimal_more (k - 1) (n / 10) (omega arith) m)
    ∙ decimal_more k n (omega arith) l
  where
    less : (k : ℕ) → k - 2 ≡ k - 1 - 1
    less k = omega arith

pub hex_none : (k n : ℕ) → k ≡ 0 → [] ≡ hex_in k n
unfolding hex_in
hex_none k n e = sym (ap (λ (j : ℕ). hex_in j n) e)

pub hex_more : (k n : ℕ) → 0 < k → hex_in (k - 1) (n / 16) ++ (glyph (n % 16) ∷ []) ≡ hex_in k n
unfolding hex_in
hex_more k n h = sym (ap (λ (j : ℕ). hex_in j n) (back k h))

-- the two digits of a byte
pub hex_two : (n : ℕ) → n < 256 → (glyph (n / 16) ∷ glyph (n % 16) ∷ []) ≡ hex_in 2 n
unfolding hex_in
hex_two n h = ap (λ (d : ℕ). glyph d ∷ glyph (n % 16) ∷ []) (small n h)
  where
    small : (n : ℕ) → n < 256 → n / 16 ≡ n / 16 % 16
    small n h = omega arith
