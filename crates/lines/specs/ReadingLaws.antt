-- Laws: the reading definition accepts exactly the lines that `Format` spells, each as its call (`spelled_is_read`, `read_is_spelled`).
-- Assumes nothing.
use Rattle.std.specs.Prelude.{◌≡◌, refl, Bool, true, false, cond, not, ◌&&◌, List, [], ◌∷◌, ◌++◌, ℕ, zero, suc, ◌+◌, ◌*◌, ◌/◌, ◌%◌, ◌^◌, ◌≤◌, ◌<◌, ltb, eqb, length, drop, get_or, Option, None, Some, option_map, option_and_then}
use Rattle.std.proofs.Common.{sym, ap, ◌∙◌, subst, append_assoc, ⊎_elim, pow-suc, div-one, arith, length-append, length-drop, drop_at, drop-cons, drop-drop, lt-ltb, le-ltb, eq-eqb, ne_eqb, ltb-true, ltb-false, eqb-true}
use Rattle.std.proofs.Math.Nat.{pow-succ', div-div-eq-div-mul, div-eq_of_lt}
use Rattle.std.proofs.Math.Seq.{drop-append-add}
use Rattle.std.proofs.lemmas.List.{get_or_at}
use Rattle.std.proofs.lemmas.Option.{none-some, option_and_then_some}
use Rattle.time.specs.declared.Time.{Time}
use Rattle.lines.specs.declared.Verb.{Verb}
use Rattle.lines.specs.declared.Verb.TheVariants.{Read, Write, Pins, Gate, Visit, Deadline}
use Rattle.lines.specs.declared.Call.{Call}
use Rattle.lines.specs.Numbers.{glyph, decimal_in, hex_in}
use Rattle.lines.specs.Format.{bit_glyph, spell_verb, time_text, spell, VerbInRange, TimeInRange, InRange}
use Rattle.lines.specs.Reading.{digit_of, hex_from, fraction_of, bare_of, single_of, pair_of, written_of, five_of, six_of, verb_of, seconds_of, fraction_at, timed_of, call_of}
use Rattle.lines.specs.NumberLaws.{some_is, chosen, both, below_or_not, digit_glyph, glyph_digit, seconds_told, seconds_text, decimal_length, hex_length}

-- ## Fractions

-- the highest digit first
hex_cons : (k v : ℕ) → hex_in (suc k) v ≡ glyph (v / 16 ^ k % 16) ∷ hex_in k v
unfolding hex_in
hex_cons zero v = ap (λ (n : ℕ). glyph (n % 16) ∷ []) (sym (div-one v))
hex_cons (suc k) v =
    ap (λ (l : List ℕ). l ++ (glyph (v % 16) ∷ [])) (hex_cons k (v / 16))
    ∙ ap (λ (n : ℕ). glyph (n % 16) ∷ (hex_in k (v / 16) ++ (glyph (v % 16) ∷ []))) (div-div-eq-div-mul v 16 (16 ^ k) ∙ ap (λ (n : ℕ). v / n) (sym (pow-succ' 16 k)))

above : (k v : ℕ) → v / 16 ^ suc k ≡ v / 16 ^ k / 16
above k v = ap (λ (n : ℕ). v / n) (pow-suc 16 k) ∙ sym (div-div-eq-div-mul v (16 ^ k) 16)

-- one digit before others
hex_first : (k n x : ℕ) (xs : List ℕ) (v : ℕ) → digit_of x < 16 → ((xs ≡ hex_in k v ++ drop k xs) × (v / 16 ^ k ≡ n * 16 + digit_of x))
    → (x ∷ xs ≡ hex_in (suc k) v ++ drop k xs) × (v / 16 ^ suc k ≡ n)
hex_first k n x xs v d r = (
  sym (
      ap (λ (l : List ℕ). l ++ drop k xs) (hex_cons k v)
      ∙ ap (λ (y : ℕ). y ∷ (hex_in k v ++ drop k xs)) (ap (λ (q : ℕ). glyph (q % 16)) r.1 ∙ ap glyph (digit_is n (digit_of x) d) ∙ glyph_digit x d)
      ∙ ap (λ (l : List ℕ). x ∷ l) (sym r.0)),
  above k v ∙ ap (λ (q : ℕ). q / 16) r.1 ∙ rest_is n (digit_of x) d,
)
  where
    digit_is : (n d : ℕ) → d < 16 → (n * 16 + d) % 16 ≡ d
    digit_is n d h = omega arith

    rest_is : (n d : ℕ) → d < 16 → (n * 16 + d) / 16 ≡ n
    rest_is n d h = omega arith

joined : (q n : ℕ) → q / 16 ≡ n → q ≡ n * 16 + q % 16
joined q n h = omega arith

hex_told : (k n : ℕ) (xs : List ℕ) (v : ℕ) → hex_from k n xs ≡ Some v → (xs ≡ hex_in k v ++ drop k xs) × (v / 16 ^ k ≡ n)
unfolding hex_from hex_in
hex_told zero n xs v e = (refl, div-one v ∙ sym (some_is n v e))
hex_told (suc k) n [] v e = absurd (none-some v e)
hex_told (suc k) n (x ∷ xs) v e =
    ⊎_elim
    (λ t. hex_first k n x xs v (ltb-true (digit_of x) 16 t.0) (hex_told k (n * 16 + digit_of x) xs v t.1))
    (λ t. absurd (none-some v t.1))
    (chosen (ltb (digit_of x) 16) (hex_from k (n * 16 + digit_of x) xs) None (Some v) e)

hex_text : (k n v : ℕ) (ys : List ℕ) → v / 16 ^ k ≡ n → hex_from k n (hex_in k v ++ ys) ≡ Some v
unfolding hex_from
hex_text zero n v ys e = ap Some (sym e ∙ div-one v)
hex_text (suc k) n v ys e =
    let d : v / 16 ^ k % 16 < 16 = omega arith in
    let up : v / 16 ^ k / 16 ≡ n = sym (above k v) ∙ e in
    ap (λ (l : List ℕ). hex_from (suc k) n (l ++ ys)) (hex_cons k v)
    ∙ simp (digit_glyph (v / 16 ^ k % 16) d, lt-ltb (v / 16 ^ k % 16) 16 d)
    (hex_text k (n * 16 + v / 16 ^ k % 16) v ys (joined (v / 16 ^ k) n up))

-- ## Verbs

hex_two : (b : ℕ) → hex_in 2 b ≡ glyph (b / 16 % 16) ∷ glyph (b % 16) ∷ []
unfolding hex_in
hex_two b = refl

bit_glyph_lem : (x : ℕ) → digit_of x < 2 → bit_glyph (eqb (digit_of x) 1) ≡ x
unfolding glyph
bit_glyph_lem x h =
    ⊎_elim
    (λ l. ap bit_glyph (ne_eqb (digit_of x) 1 (λ e. omega arith)) ∙ sym (ap glyph (zero_is (digit_of x) l)) ∙ glyph_digit x (omega arith))
    (λ l. ap bit_glyph (eq-eqb (digit_of x) 1 (omega arith)) ∙ sym (ap glyph (one_is (digit_of x) l h)) ∙ glyph_digit x (omega arith))
    (below_or_not (digit_of x) 1)
  where
    zero_is : (d : ℕ) → d < 1 → d ≡ 0
    zero_is d l = omega arith

    one_is : (d : ℕ) → 1 ≤ d → d < 2 → d ≡ 1
    one_is d l h = omega arith

all_three : (a b c : Bool) → (a && b && c) ≡ true → (a ≡ true) × (b ≡ true) × (c ≡ true)
all_three true true true e = (refl, refl, refl)
all_three true true false e = (refl, refl, e)
all_three true false c e = (refl, e, absurd (omega (arith, ap {B = ℕ} (λ (t : Bool). cond t 1 0) e)))
all_three false b c e = (e, absurd (omega (arith, ap {B = ℕ} (λ (t : Bool). cond t 1 0) e)), absurd (omega (arith, ap {B = ℕ} (λ (t : Bool). cond t 1 0) e)))

-- a list spells a verb in range
abbrev pub Spells : List ℕ → Verb → Type 0
Spells l w = (l ≡ spell_verb w) × VerbInRange w

-- the verb that a list was read as
as_read : (l : List ℕ) (u w : Verb) → Some u ≡ Some w → Spells l u → Spells l w
as_read l u w e s = subst (Spells l) (some_is u w e) s

bare_told : (a : ℕ) (w : Verb) → bare_of a ≡ Some w → Spells (a ∷ []) w
unfolding bare_of
bare_told a w e =
    ⊎_elim
    (λ t. as_read (a ∷ []) Visit w t.1 (ap (λ (x : ℕ). x ∷ []) (eqb-true a 118 t.0), omega arith))
    (λ t.
    ⊎_elim (λ u. as_read (a ∷ []) Deadline w u.1 (ap (λ (x : ℕ). x ∷ []) (eqb-true a 100 u.0), omega arith)) (λ u. absurd (none-some w u.1))
    (chosen (eqb a 100) (Some Deadline) None (Some w) t.1))
    (chosen (eqb a 118) (Some Visit) (cond (eqb a 100) (Some Deadline) None) (Some w) e)

-- three bytes that spell a verb with one operand
spelt_three : (a b c v g : ℕ) → a ≡ v → b ≡ 9 → g ≡ c → a ∷ b ∷ c ∷ [] ≡ v ∷ 9 ∷ g ∷ []
spelt_three a b c v g p q r = cc

single_told : (a b c : ℕ) (w : Verb) → single_of a b c ≡ Some w → Spells (a ∷ b ∷ c ∷ []) w
unfolding single_of
single_told a b c w e =
    ⊎_elim
    (λ t.
    let s = all_three (eqb a 114) (eqb b 9) (ltb (digit_of c) 8) t.0 in
    let d : digit_of c < 8 = ltb-true (digit_of c) 8 s.2 in
    as_read (a ∷ b ∷ c ∷ []) (Read (digit_of c)) w t.1 (spelt_three a b c 114 (glyph (digit_of c)) (eqb-true a 114 s.0) (eqb-true b 9 s.1) (glyph_digit c (omega arith)), d))
    (λ t.
    ⊎_elim
    (λ u.
    let s = all_three (eqb a 103) (eqb b 9) (ltb (digit_of c) 2) u.0 in
    as_read (a ∷ b ∷ c ∷ []) (Gate (eqb (digit_of c) 1)) w u.1
    (spelt_three a b c 103 (bit_glyph (eqb (digit_of c) 1)) (eqb-true a 103 s.0) (eqb-true b 9 s.1) (bit_glyph_lem c (ltb-true (digit_of c) 2 s.2)), omega arith))
    (λ u. absurd (none-some w u.1))
    (chosen (eqb a 103 && eqb b 9 && ltb (digit_of c) 2) (Some (Gate (eqb (digit_of c) 1))) None (Some w) t.1))
    (chosen (eqb a 114 && eqb b 9 && ltb (digit_of c) 8) (Some (Read (digit_of c))) (cond (eqb a 103 && eqb b 9 && ltb (digit_of c) 2) (Some (Gate (eqb (digit_of c) 1))) None) (Some w) e)

five_told : (a b c d f : ℕ) (w : Verb) → five_of (a ∷ b ∷ c ∷ d ∷ f ∷ []) ≡ Some w → Spells (a ∷ b ∷ c ∷ d ∷ f ∷ []) w
unfolding five_of pair_of
five_told a b c d f w e =
    ⊎_elim
    (λ t.
    let s = all_three (eqb a 112) (eqb b 9) (eqb d 9) t.0 in
    ⊎_elim
    (λ u.
    let r = both (ltb (digit_of c) 2) (ltb (digit_of f) 2) u.0 in
    as_read (a ∷ b ∷ c ∷ d ∷ f ∷ []) (Pins (eqb (digit_of c) 1) (eqb (digit_of f) 1)) w u.1 (
      spelt a b c d f (bit_glyph (eqb (digit_of c) 1)) (bit_glyph (eqb (digit_of f) 1)) (eqb-true a 112 s.0) (eqb-true b 9 s.1) (eqb-true d 9 s.2)
          (bit_glyph_lem c (ltb-true (digit_of c) 2 r.0)) (bit_glyph_lem f (ltb-true (digit_of f) 2 r.1)),
      omega arith,
    ))
    (λ u. absurd (none-some w u.1))
    (chosen (ltb (digit_of c) 2 && ltb (digit_of f) 2) (Some (Pins (eqb (digit_of c) 1) (eqb (digit_of f) 1))) None (Some w) t.1))
    (λ t. absurd (none-some w t.1))
    (chosen (eqb a 112 && eqb b 9 && eqb d 9) (pair_of c f) None (Some w) e)
  where
    spelt : (a b c d f g h : ℕ) → a ≡ 112 → b ≡ 9 → d ≡ 9 → g ≡ c → h ≡ f → a ∷ b ∷ c ∷ d ∷ f ∷ [] ≡ 112 ∷ 9 ∷ g ∷ 9 ∷ h ∷ []
    spelt a b c d f g h p q r s t = cc

written_told : (c f g : ℕ) (w : Verb) → written_of c f g ≡ Some w → Spells (119 ∷ 9 ∷ c ∷ 9 ∷ f ∷ g ∷ []) w
unfolding written_of
written_told c f g w e =
    ⊎_elim
    (λ t.
    ⊎_elim
    (λ u.
    ⊎_elim
    (λ v. found (ltb-true (digit_of c) 8 t.0) (ltb-true (digit_of f) 16 u.0) (ltb-true (digit_of g) 16 v.0) v.1)
    (λ v. absurd (none-some w v.1))
    (chosen (ltb (digit_of g) 16) (Some (Write (digit_of c) (digit_of f * 16 + digit_of g))) None (Some w) u.1))
    (λ u. absurd (none-some w u.1))
    (chosen (ltb (digit_of f) 16) (cond (ltb (digit_of g) 16) (Some (Write (digit_of c) (digit_of f * 16 + digit_of g))) None) None (Some w) t.1))
    (λ t. absurd (none-some w t.1))
    (chosen (ltb (digit_of c) 8) (cond (ltb (digit_of f) 16) (cond (ltb (digit_of g) 16) (Some (Write (digit_of c) (digit_of f * 16 + digit_of g))) None) None) None (Some w) e)
  where
    high : (h l : ℕ) → h < 16 → l < 16 → (h * 16 + l) / 16 % 16 ≡ h
    high h l p q = omega arith

    low : (h l : ℕ) → h < 16 → l < 16 → (h * 16 + l) % 16 ≡ l
    low h l p q = omega arith

    found : digit_of c < 8 → digit_of f < 16 → digit_of g < 16 → Some (Write (digit_of c) (digit_of f * 16 + digit_of g)) ≡ Some w → Spells (119 ∷ 9 ∷ c ∷ 9 ∷ f ∷ g ∷ []) w
    found p q r e = as_read (119 ∷ 9 ∷ c ∷ 9 ∷ f ∷ g ∷ []) (Write (digit_of c) (digit_of f * 16 + digit_of g)) w e (
      ap (λ (y : ℕ). 119 ∷ 9 ∷ y ∷ 9 ∷ f ∷ g ∷ []) (sym (glyph_digit c (omega arith)))
          ∙ ap (λ (l : List ℕ). 119 ∷ 9 ∷ glyph (digit_of c) ∷ 9 ∷ l) (sym (
          hex_two (digit_of f * 16 + digit_of g)
          ∙ ap (λ (y : ℕ). glyph y ∷ glyph ((digit_of f * 16 + digit_of g) % 16) ∷ []) (high (digit_of f) (digit_of g) q r)
          ∙ ap (λ (y : ℕ). glyph (digit_of f) ∷ glyph y ∷ []) (low (digit_of f) (digit_of g) q r)
          ∙ ap (λ (y : ℕ). y ∷ glyph (digit_of g) ∷ []) (glyph_digit f q)
          ∙ ap (λ (y : ℕ). f ∷ y ∷ []) (glyph_digit g r))),
      (p, omega arith),
    )

six_told : (a b c d f g : ℕ) (w : Verb) → six_of (a ∷ b ∷ c ∷ d ∷ f ∷ g ∷ []) ≡ Some w → Spells (a ∷ b ∷ c ∷ d ∷ f ∷ g ∷ []) w
unfolding six_of
six_told a b c d f g w e =
    ⊎_elim
    (λ t.
    let s = all_three (eqb a 119) (eqb b 9) (eqb d 9) t.0 in
    subst (λ (l : List ℕ). Spells l w) (sym (spelt a b d (eqb-true a 119 s.0) (eqb-true b 9 s.1) (eqb-true d 9 s.2))) (written_told c f g w t.1))
    (λ t. absurd (none-some w t.1))
    (chosen (eqb a 119 && eqb b 9 && eqb d 9) (written_of c f g) None (Some w) e)
  where
    spelt : (a b d : ℕ) → a ≡ 119 → b ≡ 9 → d ≡ 9 → a ∷ b ∷ c ∷ d ∷ f ∷ g ∷ [] ≡ 119 ∷ 9 ∷ c ∷ 9 ∷ f ∷ g ∷ []
    spelt a b d p q r = cc

too_long : (v : List ℕ) → 7 ≤ length v → verb_of v ≡ None
unfolding verb_of
too_long v h =
    simp (ne_eqb (length v) 6 (λ z. omega arith), ne_eqb (length v) 1 (λ z. omega arith), ne_eqb (length v) 3 (λ z. omega arith), ne_eqb (length v) 5 (λ z. omega arith))

pub verb_told : (l : List ℕ) (w : Verb) → verb_of l ≡ Some w → Spells l w
unfolding verb_of
verb_told [] w e = absurd (none-some w e)
verb_told (a ∷ []) w e = bare_told a w e
verb_told (a ∷ b ∷ []) w e = absurd (none-some w e)
verb_told (a ∷ b ∷ c ∷ []) w e = single_told a b c w e
verb_told (a ∷ b ∷ c ∷ d ∷ []) w e = absurd (none-some w e)
verb_told (a ∷ b ∷ c ∷ d ∷ f ∷ []) w e = five_told a b c d f w e
verb_told (a ∷ b ∷ c ∷ d ∷ f ∷ g ∷ []) w e = six_told a b c d f g w e
verb_told (a ∷ b ∷ c ∷ d ∷ f ∷ g ∷ h ∷ l) w e = absurd (none-some w (sym (too_long (a ∷ b ∷ c ∷ d ∷ f ∷ g ∷ h ∷ l) (omega arith)) ∙ e))

read_text : (a : ℕ) → a < 8 → verb_of (spell_verb (Read a)) ≡ Some (Read a)
unfolding verb_of single_of
read_text a h = simp (digit_glyph a (omega arith), lt-ltb a 8 h)

write_text : (a b : ℕ) → a < 8 → b < 256 → verb_of (spell_verb (Write a b)) ≡ Some (Write a b)
unfolding verb_of six_of written_of
write_text a b h l =
    let p : b / 16 % 16 < 16 = omega arith in
    let q : b % 16 < 16 = omega arith in
    let e : b / 16 % 16 * 16 + b % 16 ≡ b = omega arith in
    ap (λ (x : List ℕ). verb_of (119 ∷ 9 ∷ glyph a ∷ 9 ∷ x)) (hex_two b)
    ∙ simp (digit_glyph a (omega arith), digit_glyph (b / 16 % 16) p, digit_glyph (b % 16) q, lt-ltb a 8 h, lt-ltb (b / 16 % 16) 16 p, lt-ltb (b % 16) 16 q, e)

pub verb_text : (w : Verb) → VerbInRange w → verb_of (spell_verb w) ≡ Some w
unfolding verb_of bare_of single_of five_of pair_of six_of written_of digit_of
verb_text (Read a) h = read_text a h
verb_text (Write a b) h = write_text a b h.0 h.1
verb_text (Pins true true) h = refl
verb_text (Pins true false) h = refl
verb_text (Pins false true) h = refl
verb_text (Pins false false) h = refl
verb_text (Gate true) h = refl
verb_text (Gate false) h = refl
verb_text Visit h = refl
verb_text Deadline h = refl

pub verb_length : (w : Verb) → length (spell_verb w) ≤ 6
verb_length (Read a) = omega arith
verb_length (Write a b) = omega (arith, hex_length 2 b)
verb_length (Pins scl sda) = omega arith
verb_length (Gate g) = omega arith
verb_length Visit = omega arith
verb_length Deadline = omega arith

-- ## Times

pub map_some : {A B : Type 0} (f : A → B) (o : Option A) (y : B) → option_map f o ≡ Some y → (x : A) × (o ≡ Some x) × (f x ≡ y)
map_some f None y e = absurd (none-some y e)
map_some f (Some x) y e = (x, refl, some_is (f x) y e)

-- what a time after its seconds says
abbrev Fractioned : ℕ → ℕ → List ℕ → Time → ℕ → Type 0
Fractioned n p l t m = (n ≡ t.seconds) × (m ≡ p + 17) × (l ≡ hex_in 16 t.fraction ++ 9 ∷ drop 17 l) × (t.fraction < 2 ^ 64) × (17 ≤ length l)

fraction_told : (n p : ℕ) (l : List ℕ) (t : Time) (m : ℕ) → fraction_at n p l ≡ Some (t, m) → Fractioned n p l t m
unfolding fraction_at fraction_of
fraction_told n p l t m e =
    ⊎_elim
    (λ a. absurd (none-some (t, m) a.1))
    (λ a.
    ⊎_elim
    (λ b. absurd (none-some (t, m) b.1))
    (λ b.
    let f = map_some whole (hex_from 16 0 l) (t, m) b.1 in
    found f.0 (ltb-false (length l) 17 a.0) (eqb-true (get_or l 16 0) 9 (affirmed (eqb (get_or l 16 0) 9) b.0)) (hex_told 16 0 l f.0 f.1) f.2)
    (chosen (not (eqb (get_or l 16 0) 9)) None (option_map whole (hex_from 16 0 l)) (Some (t, m)) a.1))
    (chosen (ltb (length l) 17) None (cond (not (eqb (get_or l 16 0) 9)) None (option_map whole (hex_from 16 0 l))) (Some (t, m)) e)
  where
    whole : ℕ → Time × ℕ
    whole f = (record { seconds = n; fraction = f }, p + 17)

    affirmed : (b : Bool) → not b ≡ false → b ≡ true
    affirmed true h = refl
    affirmed false h = sym h

    found : (f : ℕ) → 17 ≤ length l → get_or l 16 0 ≡ 9 → ((l ≡ hex_in 16 f ++ drop 16 l) × (f / 16 ^ 16 ≡ 0)) → whole f ≡ (t, m) → Fractioned n p l t m
    found f long nine hex e =
        let same : record { seconds = n; fraction = f } ≡ t = ap (λ (x : Time × ℕ). x.0) e in
        let place : p + 17 ≡ m = ap (λ (x : Time × ℕ). x.1) e in
        subst (λ (x : Time). Fractioned n p l x m) same (
          refl,
          sym place,
          hex.0 ∙ ap (λ (x : List ℕ). hex_in 16 f ++ x) (drop-cons l 16 0 (omega arith) ∙ ap (λ (y : ℕ). y ∷ drop 17 l) nine),
          omega (arith, hex.1),
          long,
        )

fraction_text : (n p f : ℕ) (ys : List ℕ) → f < 2 ^ 64 → fraction_at n p (hex_in 16 f ++ 9 ∷ ys) ≡ Some (record { seconds = n; fraction = f }, p + 17)
unfolding fraction_at fraction_of
fraction_text n p f ys r =
    let h : length (hex_in 16 f) ≡ 16 = hex_length 16 f in
    let long : length (hex_in 16 f ++ 9 ∷ ys) ≡ length (hex_in 16 f) + suc (length ys) = length-append (hex_in 16 f) (9 ∷ ys) in
    let sure : f / 16 ^ 16 ≡ 0 = div-eq_of_lt r in
    simp (le-ltb (length (hex_in 16 f ++ 9 ∷ ys)) 17 (omega arith), get_or_at (hex_in 16 f) 9 ys 0 16 h, hex_text 16 0 f (9 ∷ ys) sure)

-- the bytes of a time, and those after them
time_then : (t : Time) (ys : List ℕ) → time_text t ++ ys ≡ decimal_in 20 t.seconds ++ 9 ∷ (hex_in 16 t.fraction ++ 9 ∷ ys)
time_then t ys = simp append_assoc

-- a time has at most 38 bytes
pub time_length : (t : Time) → length (time_text t) ≤ 38
time_length t =
    let d = decimal_in 20 t.seconds in
    let f = hex_in 16 t.fraction in
    omega (arith, length-append d (9 ∷ (f ++ 9 ∷ [])), length-append f (9 ∷ []), decimal_length 20 t.seconds, hex_length 16 t.fraction)

-- a line that a time was read of starts with its bytes
pub record Told (l : List ℕ) (t : Time) (m : ℕ) : Type 0 where
  pub text : l ≡ time_text t ++ drop m l
  pub range : TimeInRange t
  pub within : m ≤ length l
  pub short : length l ≤ 64

pub timed_told : (l : List ℕ) (t : Time) (m : ℕ) → timed_of l ≡ Some (t, m) → Told l t m
unfolding timed_of
timed_told l t m e =
    ⊎_elim
    (λ a. absurd (none-some (t, m) a.1))
    (λ a.
    option_and_then_some (λ p. fraction_at p.0 p.1 (drop p.1 l)) (seconds_of l) (t, m) a.1 (λ p seconds fraction.
    let told = seconds_told l p.0 p.1 seconds in
    let rest = fraction_told p.0 p.1 (drop p.1 l) t m fraction in
    record {
      text = told.1
          ∙ ap (λ (n : ℕ). decimal_in 20 n ++ 9 ∷ drop p.1 l) rest.0
          ∙ ap (λ (x : List ℕ). decimal_in 20 t.seconds ++ 9 ∷ x) (rest.2 ∙ ap (λ (x : List ℕ). hex_in 16 t.fraction ++ 9 ∷ x) (further p.1 rest.1))
          ∙ sym (time_then t (drop m l));
      range = record { seconds = subst (λ (n : ℕ). n < 2 ^ 64) rest.0 told.0; fraction = rest.3 };
      within = omega (arith, rest.1, rest.4, length-drop p.1 l);
      short = ltb-false 64 (length l) a.0;
    }))
    (chosen (ltb 64 (length l)) None (option_and_then (λ p. fraction_at p.0 p.1 (drop p.1 l)) (seconds_of l)) (Some (t, m)) e)
  where
    further : (k : ℕ) → m ≡ k + 17 → drop 17 (drop k l) ≡ drop m l
    further k e = drop-drop 17 k l ∙ ap (λ (n : ℕ). drop n l) (sym e)

-- the bytes of a time are read as that time, and their end is its place
pub timed_text : (t : Time) → TimeInRange t → (ys : List ℕ) → length (time_text t ++ ys) ≤ 64 → timed_of (time_text t ++ ys) ≡ Some (t, length (time_text t))
unfolding timed_of
timed_text t r ys short =
    let d = decimal_in 20 t.seconds in
    let f = hex_in 16 t.fraction in
    let rest : List ℕ = f ++ 9 ∷ ys in
    let h : length f ≡ 16 = hex_length 16 t.fraction in
    let one : length (time_text t) ≡ length d + suc (length (f ++ 9 ∷ [])) = length-append d (9 ∷ (f ++ 9 ∷ [])) in
    let two : length (f ++ 9 ∷ []) ≡ length f + 1 = length-append f (9 ∷ []) in
    simp (le-ltb 64 (length (time_text t ++ ys)) short)
    (ap (λ (l : List ℕ). option_and_then (λ p. fraction_at p.0 p.1 (drop p.1 l)) (seconds_of l)) (time_then t ys)
    ∙ simp (seconds_text t.seconds rest r.seconds, drop-append-add d (9 ∷ rest) 1)
    (fraction_text t.seconds (length d + 1) t.fraction ys r.fraction ∙ ap (λ (p : ℕ). Some (t, p)) (sum (length d) (length (f ++ 9 ∷ [])) (length (time_text t)) one (two ∙ ap (λ (n : ℕ). n + 1) h))))
  where
    sum : (d f n : ℕ) → n ≡ d + suc f → f ≡ 16 + 1 → d + 1 + 17 ≡ n
    sum d f n e g = omega arith

-- ## Lines

-- what a line is read as spells it
pub read_is_spelled : (l : List ℕ) (c : Call) → call_of l ≡ Some c → (l ≡ spell c) × InRange c
unfolding call_of
read_is_spelled l c e =
    option_and_then_some (λ p. option_map (whole p.0) (verb_of (drop p.1 l))) (timed_of l) c e (λ p timed called.
    let w = map_some (whole p.0) (verb_of (drop p.1 l)) c called in
    let told = timed_told l p.0 p.1 timed in
    let spelt = verb_told (drop p.1 l) w.0 w.1 in
    subst (λ (x : Call). (l ≡ spell x) × InRange x) w.2
    (told.text ∙ ap (λ (x : List ℕ). time_text p.0 ++ x) spelt.0, record { time = told.range; verb = spelt.1 }))
  where
    whole : Time → Verb → Call
    whole t v = record { time = t; verb = v }

-- a call that is spelled is read, and as that call
pub spelled_is_read : (c : Call) → InRange c → call_of (spell c) ≡ Some c
unfolding call_of
spelled_is_read c r =
    let x = time_text c.time in
    let v = spell_verb c.verb in
    let short : length (x ++ v) ≤ 64 = omega (arith, length-append x v, time_length c.time, verb_length c.verb) in
    simp (timed_text c.time r.time v short) (ap (λ (l : List ℕ). option_map (λ w. record { time = c.time; verb = w }) (verb_of l)) (drop_at x v (length x) refl) ∙ simp (verb_text c.verb r.verb))
