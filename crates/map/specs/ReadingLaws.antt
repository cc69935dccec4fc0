-- Laws: exactly the lines that `Format` spells are read, each as its range (`read_is_spelled`, `spelled_is_read`).
-- Assumes nothing.
use Rattle.std.specs.Prelude.{Bool, true, false, cond, not, ◌&&◌, List, [], ◌∷◌, ◌++◌, ◌≡◌, refl, ℕ, zero, suc, ◌+◌, ◌*◌, ◌/◌, ◌%◌, ◌<◌, leb, ltb, length, drop, get_or, Option, None, Some, option_map, option_and_then}
use Rattle.std.proofs.Math.Logic.{⊎_elim}
use Rattle.std.proofs.Common.{sym, ap, ◌∙◌, arith, drop_of_length-le, drop-cons, lt-ltb, ltb-true, eqb-true, eq-eqb, ne_eqb}
use Rattle.std.proofs.Math.Path.{subst}
use Rattle.std.proofs.Math.Dec.{eqb}
use Rattle.std.proofs.lemmas.Bool.{not-false}
use Rattle.lines.specs.Numbers.{glyph, hex_in}
use Rattle.lines.specs.Reading.{digit_of, digit_in, hex_from}
use Rattle.lines.specs.NumberLaws.{chosen, both, digit_glyph, glyph_digit}
use Rattle.std.proofs.lemmas.Option.{none-some, same_Some, cond_some}
use Rattle.map.specs.declared.Range.{Range}
use Rattle.map.specs.Map.{addresses, range_sound, unit_sound}
use Rattle.lines.specs.Format.{dash}
use Rattle.map.specs.Format.{unit_glyph, spell_range, InRange}
use Rattle.map.specs.Reading.{address_of, address_at, unit_of, if_sound, range_of}

-- ## Addresses

one_digit : (k n x : ℕ) (xs : List ℕ) (v : ℕ) → hex_from (suc k) n (x ∷ xs) ≡ Some v → (digit_of x < 16) × (hex_from k (n * 16 + digit_of x) xs ≡ Some v)
unfolding hex_from
one_digit k n x xs v e =
    ⊎_elim (λ t. (ltb-true (digit_of x) 16 t.0, t.1)) (λ t. absurd (none-some v t.1)) (chosen (ltb (digit_of x) 16) (hex_from k (n * 16 + digit_of x) xs) None (Some v) e)

pub no_hex : (b : ℕ) → digit_in 16 b ≡ None → ltb (digit_of b) 16 ≡ false
unfolding digit_in
no_hex b e = by (ltb (digit_of b) 16) e
  where
    by : (t : Bool) → cond t (Some (digit_of b)) None ≡ None → t ≡ false
    by true e = absurd (none-some (digit_of b) (sym e))
    by false e = refl

pub some_hex : (b d : ℕ) → digit_in 16 b ≡ Some d → (ltb (digit_of b) 16 ≡ true) × (digit_of b ≡ d)
unfolding digit_in
some_hex b d e = cond_some (ltb (digit_of b) 16) (digit_of b) d e

no_digit : (n : ℕ) (xs : List ℕ) (v : ℕ) → hex_from 0 n xs ≡ Some v → n ≡ v
unfolding hex_from
no_digit n xs v e = cc

-- four digits, the highest first
four : (v : ℕ) → hex_in 4 v ≡ glyph (v / 16 / 16 / 16 % 16) ∷ glyph (v / 16 / 16 % 16) ∷ glyph (v / 16 % 16) ∷ glyph (v % 16) ∷ []
unfolding hex_in
four v = refl

abbrev number : ℕ → ℕ → ℕ → ℕ → ℕ
number p q r s = (((0 * 16 + p) * 16 + q) * 16 + r) * 16 + s

digits : (p q r s v : ℕ) → p < 16 → q < 16 → r < 16 → s < 16 → number p q r s ≡ v
    → (v < addresses) × (v / 16 / 16 / 16 % 16 ≡ p) × (v / 16 / 16 % 16 ≡ q) × (v / 16 % 16 ≡ r) × (v % 16 ≡ s)
digits p q r s v hp hq hr hs e = (omega arith, omega arith, omega arith, omega arith, omega arith)

spelt_four : (a b c d p q r s : ℕ) → p ≡ a → q ≡ b → r ≡ c → s ≡ d → a ∷ b ∷ c ∷ d ∷ [] ≡ p ∷ q ∷ r ∷ s ∷ []
spelt_four a b c d p q r s e f g h = cc

pub address_told : (a b c d v : ℕ) → address_of a b c d ≡ Some v → (v < addresses) × (a ∷ b ∷ c ∷ d ∷ [] ≡ hex_in 4 v)
unfolding address_of
address_told a b c d v e =
    let p = one_digit 3 0 a (b ∷ c ∷ d ∷ []) v e in
    let q = one_digit 2 _ b (c ∷ d ∷ []) v p.1 in
    let r = one_digit 1 _ c (d ∷ []) v q.1 in
    let s = one_digit 0 _ d [] v r.1 in
    let g = digits (digit_of a) (digit_of b) (digit_of c) (digit_of d) v p.0 q.0 r.0 s.0 (no_digit _ [] v s.1) in (
      g.0,
      spelt_four a b c d _ _ _ _
          (ap glyph g.1 ∙ glyph_digit a p.0) (ap glyph g.2 ∙ glyph_digit b q.0) (ap glyph g.3 ∙ glyph_digit c r.0) (ap glyph g.4 ∙ glyph_digit d s.0)
          ∙ sym (four v),
    )

together : (v : ℕ) → v < addresses → number (v / 16 / 16 / 16 % 16) (v / 16 / 16 % 16) (v / 16 % 16) (v % 16) ≡ v
together v h = omega arith

pub address_text : (v : ℕ) → v < addresses → address_of (glyph (v / 16 / 16 / 16 % 16)) (glyph (v / 16 / 16 % 16)) (glyph (v / 16 % 16)) (glyph (v % 16)) ≡ Some v
unfolding address_of hex_from
address_text v h =
    let p : v / 16 / 16 / 16 % 16 < 16 = omega arith in
    let q : v / 16 / 16 % 16 < 16 = omega arith in
    let r : v / 16 % 16 < 16 = omega arith in
    let s : v % 16 < 16 = omega arith in
    simp (digit_glyph _ p, digit_glyph _ q, digit_glyph _ r, digit_glyph _ s, lt-ltb _ 16 p, lt-ltb _ 16 q, lt-ltb _ 16 r, lt-ltb _ 16 s) (ap Some (together v h))

-- ## Units

unit_told : (b : ℕ) (u : Option ℕ) → unit_of b ≡ Some u → (unit_glyph u ≡ b) × (unit_sound u ≡ true)
unfolding unit_of digit_in
unit_told b u h = by (eqb b dash) refl (ltb (digit_of b) 4) refl h
  where
    by : (t : Bool) → eqb b dash ≡ t → (s : Bool) → ltb (digit_of b) 4 ≡ s
        → cond t (Some None) (option_map Some (cond s (Some (digit_of b)) None)) ≡ Some u → (unit_glyph u ≡ b) × (unit_sound u ≡ true)
    by true e s f h = subst (λ (x : Option ℕ). (unit_glyph x ≡ b) × (unit_sound x ≡ true)) (same_Some None u h) (sym (eqb-true b dash e), refl)
    by false e true f h = subst (λ (x : Option ℕ). (unit_glyph x ≡ b) × (unit_sound x ≡ true)) (same_Some (Some (digit_of b)) u h) (glyph_digit b (let k = ltb-true (digit_of b) 4 f in omega arith), f)
    by false e false f h = absurd (none-some u h)

low : (n : ℕ) → n < 4 → glyph n ≡ 48 + n
unfolding glyph
low n h = simp (lt-ltb n 10 (omega arith))

unit_text_lem : (u : Option ℕ) → unit_sound u ≡ true → unit_of (unit_glyph u) ≡ Some u
unfolding unit_of digit_in
unit_text_lem None h = refl
unit_text_lem (Some n) h =
    let k = ltb-true n 4 h in
    simp (ne_eqb (glyph n) dash (no_dash n k), digit_glyph n (omega arith), lt-ltb n 4 k)
  where
    no_dash : (n : ℕ) → n < 4 → glyph n ≡ dash → ⊥
    no_dash n h e = let k = low n h in omega arith

-- ## Lines

-- so many places of a list, from one on
places : ℕ → ℕ → List ℕ → List ℕ
places i zero l = []
places i (suc n) l = get_or l i 0 ∷ places (suc i) n l

spread : (l : List ℕ) (n i : ℕ) → length l ≡ i + n → drop i l ≡ places i n l
unfolding places
spread l zero i h = drop_of_length-le l {i = i} (omega arith)
spread l (suc n) i h = drop-cons l i 0 (omega arith) ∙ ap (λ (x : List ℕ). get_or l i 0 ∷ x) (spread l n (suc i) (omega arith))

value_some : {A B : Type 0} (o : Option A) (f : A → Option B) (r : B) → option_and_then f o ≡ Some r → (x : A) × (o ≡ Some x) × (f x ≡ Some r)
value_some None f r e = absurd (none-some r e)
value_some (Some x) f r e = (x, refl, e)

abbrev Spells : List ℕ → Range → Type 0
Spells l r = (l ≡ spell_range r) × InRange r

module _ (l : List ℕ) where
  abbrev at : ℕ → ℕ
  at i = get_or l i 0

  eleven : length l ≡ 11 → l ≡ at 0 ∷ at 1 ∷ at 2 ∷ at 3 ∷ at 4 ∷ at 5 ∷ at 6 ∷ at 7 ∷ at 8 ∷ at 9 ∷ at 10 ∷ []
  unfolding places
  eleven h = spread l 11 0 h

  joined : (f t u : ℕ) → at 0 ∷ at 1 ∷ at 2 ∷ at 3 ∷ [] ≡ hex_in 4 f → at 5 ∷ at 6 ∷ at 7 ∷ at 8 ∷ [] ≡ hex_in 4 t → at 4 ≡ 9 → at 9 ≡ 9 → u ≡ at 10
      → at 0 ∷ at 1 ∷ at 2 ∷ at 3 ∷ at 4 ∷ at 5 ∷ at 6 ∷ at 7 ∷ at 8 ∷ at 9 ∷ at 10 ∷ [] ≡ hex_in 4 f ++ 9 ∷ (hex_in 4 t ++ 9 ∷ u ∷ [])
  joined f t u e g p q w =
      ap (λ (x : ℕ). at 0 ∷ at 1 ∷ at 2 ∷ at 3 ∷ x ∷ at 5 ∷ at 6 ∷ at 7 ∷ at 8 ∷ at 9 ∷ at 10 ∷ []) p
      ∙ ap (λ (x : ℕ). at 0 ∷ at 1 ∷ at 2 ∷ at 3 ∷ 9 ∷ at 5 ∷ at 6 ∷ at 7 ∷ at 8 ∷ x ∷ at 10 ∷ []) q
      ∙ ap (λ (x : ℕ). at 0 ∷ at 1 ∷ at 2 ∷ at 3 ∷ 9 ∷ at 5 ∷ at 6 ∷ at 7 ∷ at 8 ∷ 9 ∷ x ∷ []) (sym w)
      ∙ ap (λ (x : List ℕ). at 0 ∷ at 1 ∷ at 2 ∷ at 3 ∷ 9 ∷ (x ++ 9 ∷ u ∷ [])) g
      ∙ ap (λ (x : List ℕ). x ++ 9 ∷ (hex_in 4 t ++ 9 ∷ u ∷ [])) e

  sound_told : (f t : ℕ) (u : Option ℕ) (r : Range) → length l ≡ 11 → at 4 ≡ 9 → at 9 ≡ 9 → address_at l 0 ≡ Some f → address_at l 5 ≡ Some t → unit_of (at 10) ≡ Some u
      → if_sound (record { first = f; last = t; unit = u }) ≡ Some r → Spells l r
  sound_told f t u r long p q e g w h =
      ⊎_elim
      (λ k.
      let a = address_told (at 0) (at 1) (at 2) (at 3) f e in
      let b = address_told (at 5) (at 6) (at 7) (at 8) t g in
      subst (Spells l) (same_Some (record { first = f; last = t; unit = u }) r k.1) (
        eleven long ∙ joined f t (unit_glyph u) a.1 b.1 p q (unit_told (at 10) u w).0,
        record { first = a.0; last = b.0; sound = k.0 },
      ))
      (λ k. absurd (none-some r k.1))
      (chosen (range_sound (record { first = f; last = t; unit = u })) (Some (record { first = f; last = t; unit = u })) None (Some r) h)

  abbrev pub made : ℕ → ℕ → Option ℕ → Option Range
  made f t u = if_sound (record { first = f; last = t; unit = u })

  abbrev pub from_unit : ℕ → ℕ → Option Range
  from_unit f t = option_and_then (made f t) (unit_of (at 10))

  abbrev pub from_last : ℕ → Option Range
  from_last f = option_and_then (from_unit f) (address_at l 5)

  pub of_line : length l ≡ 11 → (eqb (at 4) 9 && eqb (at 9) 9) ≡ true → range_of l ≡ option_and_then from_last (address_at l 0)
  unfolding range_of
  of_line h t = simp (eq-eqb (length l) 11 h, t)

  pub read_is_spelled : (r : Range) → range_of l ≡ Some r → Spells l r
  unfolding range_of
  read_is_spelled r e =
      ⊎_elim
      (λ k. absurd (none-some r k.1))
      (λ k.
      ⊎_elim
      (λ m. absurd (none-some r m.1))
      (λ m.
      let tabs = both (eqb (at 4) 9) (eqb (at 9) 9) (not-false (eqb (at 4) 9 && eqb (at 9) 9) m.0) in
      let f = value_some (address_at l 0) from_last r m.1 in
      let t = value_some (address_at l 5) (from_unit f.0) r f.2 in
      let u = value_some (unit_of (at 10)) (made f.0 t.0) r t.2 in
      sound_told f.0 t.0 u.0 r (eqb-true (length l) 11 (not-false (eqb (length l) 11) k.0)) (eqb-true (at 4) 9 tabs.0) (eqb-true (at 9) 9 tabs.1) f.1 t.1 u.1 u.2)
      (chosen (not (eqb (at 4) 9 && eqb (at 9) 9)) None (option_and_then from_last (address_at l 0)) (Some r) k.1))
      (chosen (not (eqb (length l) 11)) None _ (Some r) e)

sound_unit : (r : Range) → range_sound r ≡ true → unit_sound r.unit ≡ true
unfolding range_sound
sound_unit r e = (both (leb r.first r.last) (unit_sound r.unit) e).1

pub spelled_is_read : (r : Range) → InRange r → range_of (spell_range r) ≡ Some r
unfolding range_of hex_in
spelled_is_read r h =
    let u : unit_of (unit_glyph r.unit) ≡ Some r.unit = unit_text_lem r.unit (sound_unit r h.sound) in
    simp (address_text r.first h.first, address_text r.last h.last, u) (ap (λ (t : Bool). cond t (Some r) None) h.sound)
