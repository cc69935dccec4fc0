-- One step of reading seconds, a fraction and the end of a line, at a place of a list.
-- Assumes nothing.
use mathlib.Core.Path.{◌≡◌, refl, sym, ap, ◌∙◌, subst}
use mathlib.Core.Bool.{Bool, true, false, cond, not, ◌&&◌, ◌||◌}
use mathlib.Core.List.{List, [], ◌∷◌}
use Prim.Native.Nat.{ℕ, zero, suc, ◌+◌, ◌-◌, ◌*◌, ◌%◌, ◌^◌, ◌≤◌, ◌<◌, min}
use native.Mathlib.Nat.{pow-suc, pow-le-pow_right}
use native.Mathlib.Numerals.{add-one}
use native.Mathlib.Omega.{arith}
use lib.Dec.{ltb, eqb}
use lib.ListN.{length, drop, get_or, drop_of_length-le}
use lib.Seq.{drop-cons, drop-drop}
use borrow.Author.Tests.{ltb-true, ltb-false, lt-ltb, le-ltb, eq-eqb, ne_eqb, eqb-true, eqb-false}
use Rattle.std.specs.Prelude.{None, Some}
use Rattle.std.proofs.lemmas.Option.{none-some}
use Rattle.lines.specs.NumberLaws.{some_is}
use Rattle.lines.specs.Lines.{line_length}
use Rattle.lines.specs.Reading.{digit_of, digit_in, closed_by, scan, hex_from}

pub no_digit : (radix b : ℕ) → radix ≤ 16 → digit_in radix b ≡ None → radix ≤ digit_of b
unfolding digit_in
no_digit radix b h e = by (ltb (digit_of b) (min radix 16)) refl e
  where
    by : (t : Bool) → ltb (digit_of b) (min radix 16) ≡ t → cond t (Some (digit_of b)) None ≡ None → radix ≤ digit_of b
    by true t e = absurd (none-some (digit_of b) (sym e))
    by false t e = omega (arith, h, ltb-false (digit_of b) (min radix 16) t)

pub some_digit : (radix b d : ℕ) → digit_in radix b ≡ Some d → (digit_of b ≡ d) × (digit_of b < radix)
unfolding digit_in
some_digit radix b d e = by (ltb (digit_of b) (min radix 16)) refl e
  where
    by : (t : Bool) → ltb (digit_of b) (min radix 16) ≡ t → cond t (Some (digit_of b)) None ≡ Some d → (digit_of b ≡ d) × (digit_of b < radix)
    by true t e = (some_is (digit_of b) d e, omega (arith, ltb-true (digit_of b) (min radix 16) t))
    by false t e = absurd (none-some d e)

module _ (l : List ℕ) (i : ℕ) (within : i < length l) where
  abbrev pub byte : ℕ
  byte = get_or l i 0

  pub here : drop i l ≡ byte ∷ drop (i + 1) l
  here = drop-cons l i 0 within ∙ ap (λ (k : ℕ). byte ∷ drop k l) (sym (add-one i))

  module _ (n : ℕ) where
    pub scan_closed : 10 ≤ digit_of byte → scan n i (drop i l) ≡ closed_by byte n i
    unfolding scan
    scan_closed d = ap (scan n i) here ∙ simp (le-ltb (digit_of byte) 10 d)

    pub scan_needless : digit_of byte < 10 → (eqb n 0 && not (eqb i 0)) ≡ true → scan n i (drop i l) ≡ None
    unfolding scan
    scan_needless d z = ap (scan n i) here ∙ simp (lt-ltb (digit_of byte) 10 d, z)

    pub scan_large : digit_of byte < 10 → (eqb n 0 && not (eqb i 0)) ≡ false → 2 ^ 64 ≤ n * 10 + digit_of byte → scan n i (drop i l) ≡ None
    unfolding scan
    scan_large d z h = ap (scan n i) here ∙ simp (lt-ltb (digit_of byte) 10 d, z, le-ltb (n * 10 + digit_of byte) (2 ^ 64) h)

    pub scan_on : digit_of byte < 10 → (eqb n 0 && not (eqb i 0)) ≡ false → n * 10 + digit_of byte < 2 ^ 64
        → scan n i (drop i l) ≡ scan (n * 10 + digit_of byte) (i + 1) (drop (i + 1) l)
    unfolding scan
    scan_on d z h = ap (scan n i) here ∙ simp (lt-ltb (digit_of byte) 10 d, z, lt-ltb (n * 10 + digit_of byte) (2 ^ 64) h)

    hex_on : i < 16 → digit_of byte < 16 → hex_from (16 - i) n (drop i l) ≡ hex_from (16 - (i + 1)) (n * 16 + digit_of byte) (drop (i + 1) l)
    unfolding hex_from
    hex_on few d = ap (hex_from (16 - i) n) here ∙ ap (λ (k : ℕ). hex_from k n (byte ∷ drop (i + 1) l)) (fewer i few) ∙ simp (lt-ltb (digit_of byte) 16 d)
      where
        fewer : (i : ℕ) → i < 16 → 16 - i ≡ suc (16 - (i + 1))
        fewer i h = omega arith

    hex_bad : i < 16 → 16 ≤ digit_of byte → hex_from (16 - i) n (drop i l) ≡ None
    unfolding hex_from
    hex_bad few d = ap (hex_from (16 - i) n) here ∙ ap (λ (k : ℕ). hex_from k n (byte ∷ drop (i + 1) l)) (fewer i few) ∙ simp (le-ltb (digit_of byte) 16 d)
      where
        fewer : (i : ℕ) → i < 16 → 16 - i ≡ suc (16 - (i + 1))
        fewer i h = omega arith

    -- a digit more, or what is no digit, of a fraction that was read so far
    pub hex_step : i < 16 → (fine : Bool) (d : ℕ) → d ≡ digit_of byte
        → cond fine (hex_from (16 - i) n (drop i l)) None ≡ cond (fine && ltb d 16) (hex_from (16 - (i + 1)) (n * 16 + d % 16) (drop (i + 1) l)) None
    hex_step few false d e = refl
    hex_step few true d e = split (ltb d 16) refl
      where
        small : (d : ℕ) → d < 16 → d ≡ d % 16
        small d h = omega arith

        split : (t : Bool) → ltb d 16 ≡ t → hex_from (16 - i) n (drop i l) ≡ cond t (hex_from (16 - (i + 1)) (n * 16 + d % 16) (drop (i + 1) l)) None
        split true h =
            hex_on few (subst (λ (x : ℕ). x < 16) e (ltb-true d 16 h))
            ∙ ap (λ (x : ℕ). hex_from (16 - (i + 1)) (n * 16 + x) (drop (i + 1) l)) (sym e ∙ small d (ltb-true d 16 h))
        split false h = hex_bad few (subst (λ (x : ℕ). 16 ≤ x) e (ltb-false d 16 h))

  pub end_here : byte ≡ 10 → line_length (drop i l) ≡ 0
  unfolding line_length
  end_here e = ap line_length here ∙ simp (eq-eqb byte 10 e)

  pub end_on : (byte ≡ 10 → ⊥) → line_length (drop i l) ≡ 1 + line_length (drop (i + 1) l)
  unfolding line_length
  end_on ne = ap line_length here ∙ simp (ne_eqb byte 10 ne) (one (line_length (drop (i + 1) l)))
    where
      one : (n : ℕ) → suc n ≡ 1 + n
      one n = omega arith

-- a line that is at least as long as some bytes goes on after them
pub line_on : (l : List ℕ) (i : ℕ) → i ≤ line_length l → line_length l ≡ i + line_length (drop i l)
unfolding line_length
line_on l zero h = omega arith
line_on [] (suc i) h = absurd (omega arith)
line_on (x ∷ xs) (suc i) h = by (eqb x 10) (line_on xs i) h
  where
    by : (t : Bool) → (i ≤ line_length xs → line_length xs ≡ i + line_length (drop i xs)) → suc i ≤ cond t 0 (suc (line_length xs))
        → cond t 0 (suc (line_length xs)) ≡ suc i + line_length (drop i xs)
    by true more h = absurd (omega arith)
    by false more h = omega (arith, more (omega arith))

-- whether a line ends within i bytes and one more
pub ends_by : (l : List ℕ) (at i : ℕ) → at + i < length l
    → (ltb (line_length (drop at l)) i || eqb (get_or l (at + i) 0) 10) ≡ ltb (line_length (drop at l)) (i + 1)
ends_by l at i h = by (ltb (line_length (drop at l)) i) (eqb (get_or l (at + i) 0) 10) refl refl
  where
    more : i ≤ line_length (drop at l) → line_length (drop at l) ≡ i + line_length (drop (at + i) l)
    more few = line_on (drop at l) i few ∙ ap (λ (k : List ℕ). i + line_length k) (drop-drop i at l)

    by : (t u : Bool) → ltb (line_length (drop at l)) i ≡ t → eqb (get_or l (at + i) 0) 10 ≡ u → (t || u) ≡ ltb (line_length (drop at l)) (i + 1)
    by true u e f = sym (lt-ltb (line_length (drop at l)) (i + 1) (omega (arith, ltb-true (line_length (drop at l)) i e)))
    by false true e f =
        sym (lt-ltb (line_length (drop at l)) (i + 1)
        (omega (arith, more (ltb-false (line_length (drop at l)) i e), end_here l (at + i) h (eqb-true (get_or l (at + i) 0) 10 f))))
    by false false e f =
        sym (le-ltb (line_length (drop at l)) (i + 1)
        (omega (arith, more (ltb-false (line_length (drop at l)) i e), end_on l (at + i) h (eqb-false (get_or l (at + i) 0) 10 f))))

pub scan_none : (l : List ℕ) (n i : ℕ) → length l ≤ i → scan n i (drop i l) ≡ None
unfolding scan
scan_none l n i h = ap (scan n i) (drop_of_length-le l h)

pub hex_end : (l : List ℕ) (n i : ℕ) → 16 ≤ i → hex_from (16 - i) n (drop i l) ≡ Some n
unfolding hex_from
hex_end l n i h = ap (λ (k : ℕ). hex_from k n (drop i l)) (none i h)
  where
    none : (i : ℕ) → 16 ≤ i → 16 - i ≡ 0
    none i h = omega arith

pub end_last : (l : List ℕ) (i : ℕ) → length l ≤ i → line_length (drop i l) ≡ 0
unfolding line_length
end_last l i h = ap line_length (drop_of_length-le l h)

-- a digit more keeps below the next power
pub power_on : (n d i : ℕ) → n < 16 ^ i → d < 16 → n * 16 + d < 16 ^ (i + 1)
power_on n d i h k = let e : 16 ^ (i + 1) ≡ 16 ^ i * 16 = ap (λ (j : ℕ). 16 ^ j) (add-one i) ∙ pow-suc 16 i in omega arith

pub power_fits : (n i : ℕ) → n < 16 ^ i → i ≤ 16 → n < 2 ^ 64
power_fits n i h k = let e : 16 ^ i ≤ 16 ^ 16 = pow-le-pow_right {n = 16} (omega arith) k in omega arith
