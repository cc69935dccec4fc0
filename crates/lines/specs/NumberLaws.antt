-- Laws: reading a number gives back what writing it spells, and the other way round.
-- Assumes nothing.
use Rattle.std.specs.Prelude.{◌≡◌, refl, Bool, true, false, cond, not, ◌&&◌, List, [], ◌∷◌, ◌++◌, ◌⊎◌, ℕ, zero, suc, ◌+◌, ◌-◌, ◌*◌, ◌/◌, ◌%◌, ◌^◌, ◌≤◌, ◌<◌, ltb, eqb, length, drop, Option, None, Some}
use Rattle.std.proofs.Common.{sym, ap, ◌∙◌, subst, append_assoc, inl, inr, ⊎_elim, pow-suc, add-one, arith, length-append, lt-ltb, le-ltb, ne_eqb, ltb-true, ltb-false, eqb-true}
use Rattle.std.proofs.Math.Nat.{sub-zero}
use Rattle.std.proofs.lemmas.Bool.{eqb-false}
use Rattle.std.proofs.lemmas.Option.{none-some}
use Rattle.lines.specs.Numbers.{glyph, decimal_in, hex_in}
use Rattle.lines.specs.Reading.{digit_of, closed_by, scan, seconds_of}

-- ## Choices

-- which way a choice went
pub chosen : {A : Type 0} (t : Bool) (a b x : A) → cond t a b ≡ x → ((t ≡ true) × (a ≡ x)) ⊎ ((t ≡ false) × (b ≡ x))
chosen true a b x e = inl (refl, e)
chosen false a b x e = inr (refl, e)

pub both : (a b : Bool) → (a && b) ≡ true → (a ≡ true) × (b ≡ true)
both true true e = (refl, refl)
both true false e = (refl, e)
both false b e = (e, absurd (omega (arith, ap {B = ℕ} (λ (t : Bool). cond t 1 0) e)))

pub below_or_not : (a b : ℕ) → (a < b) ⊎ (b ≤ a)
below_or_not a b = told (ltb a b) refl
  where
    told : (t : Bool) → ltb a b ≡ t → (a < b) ⊎ (b ≤ a)
    told true e = inl (ltb-true a b e)
    told false e = inr (ltb-false a b e)

-- ## Options

pub some_is : {A : Type 0} (x y : A) → Some x ≡ Some y → x ≡ y
some_is x y e = cc

-- ## Digits

at_low : (x : ℕ) → x < 48 → digit_of x ≡ 16
unfolding digit_of
at_low x a = rw (lt-ltb x 48 a)

at_number : (x : ℕ) → 48 ≤ x → x < 58 → digit_of x ≡ x - 48
unfolding digit_of
at_number x a b = simp (le-ltb x 48 a, lt-ltb x 58 b)

at_middle : (x : ℕ) → 48 ≤ x → 58 ≤ x → x < 97 → digit_of x ≡ 16
unfolding digit_of
at_middle x a b c = simp (le-ltb x 48 a, le-ltb x 58 b, lt-ltb x 97 c)

at_letter : (x : ℕ) → 48 ≤ x → 58 ≤ x → 97 ≤ x → x < 103 → digit_of x ≡ x - 87
unfolding digit_of
at_letter x a b c d = simp (le-ltb x 48 a, le-ltb x 58 b, le-ltb x 97 c, lt-ltb x 103 d)

at_high : (x : ℕ) → 48 ≤ x → 58 ≤ x → 97 ≤ x → 103 ≤ x → digit_of x ≡ 16
unfolding digit_of
at_high x a b c d = simp (le-ltb x 48 a, le-ltb x 58 b, le-ltb x 97 c, le-ltb x 103 d)

small : (d : ℕ) → d < 10 → glyph d ≡ 48 + d
unfolding glyph
small d h = rw (lt-ltb d 10 h)

large : (d : ℕ) → 10 ≤ d → glyph d ≡ 87 + d
unfolding glyph
large d h = rw (le-ltb d 10 h)

pub digit_glyph : (d : ℕ) → d < 16 → digit_of (glyph d) ≡ d
digit_glyph d h =
    ⊎_elim
    (λ l. ap digit_of (small d l) ∙ at_number (48 + d) (omega arith) (omega arith) ∙ omega arith)
    (λ l. ap digit_of (large d l) ∙ at_letter (87 + d) (omega arith) (omega arith) (omega arith) (omega arith) ∙ omega arith)
    (below_or_not d 10)

pub glyph_digit : (x : ℕ) → digit_of x < 16 → glyph (digit_of x) ≡ x
glyph_digit x h =
    ⊎_elim (λ a. absurd (low a h))
    (λ a. ⊎_elim (λ b. number a b) (λ b. ⊎_elim (λ c. absurd (middle a b c h)) (λ c. ⊎_elim (λ d. letter a b c d) (λ d. absurd (high a b c d h)) (below_or_not x 103)) (below_or_not x 97)) (below_or_not x 58))
    (below_or_not x 48)
  where
    low : x < 48 → digit_of x < 16 → ⊥
    low a h = let e : digit_of x ≡ 16 = at_low x a in omega arith

    number : 48 ≤ x → x < 58 → glyph (digit_of x) ≡ x
    number a b = ap glyph (at_number x a b) ∙ small (x - 48) (omega arith) ∙ omega arith

    middle : 48 ≤ x → 58 ≤ x → x < 97 → digit_of x < 16 → ⊥
    middle a b c h = let e : digit_of x ≡ 16 = at_middle x a b c in omega arith

    letter : 48 ≤ x → 58 ≤ x → 97 ≤ x → x < 103 → glyph (digit_of x) ≡ x
    letter a b c d = ap glyph (at_letter x a b c d) ∙ large (x - 87) (omega arith) ∙ omega arith

    high : 48 ≤ x → 58 ≤ x → 97 ≤ x → 103 ≤ x → digit_of x < 16 → ⊥
    high a b c d h = let e : digit_of x ≡ 16 = at_high x a b c d in omega arith

-- ## Seconds

-- the text of the digits read so far
abbrev begun : ℕ → ℕ → List ℕ
begun n i = cond (eqb i 0) [] (decimal_in 20 n)

-- one digit more of a number above 0
decimal_fuel : (k n : ℕ) → 0 < n → n < 10 ^ k → decimal_in k n ≡ decimal_in (suc k) n
unfolding decimal_in
decimal_fuel zero n h l = absurd (omega arith)
decimal_fuel (suc k) n h l =
    ⊎_elim
    (λ b. simp (lt-ltb n 10 b))
    (λ b.
    let p : 10 ^ suc k ≡ 10 ^ k * 10 = pow-suc 10 k in
    simp (le-ltb n 10 b) (ap (λ (d : List ℕ). d ++ (glyph (n % 10) ∷ [])) (decimal_fuel k (n / 10) (omega arith) (omega arith))))
    (below_or_not n 10)

step : (k n : ℕ) → 10 ≤ n → decimal_in (suc k) n ≡ decimal_in k (n / 10) ++ (glyph (n % 10) ∷ [])
unfolding decimal_in
step k n h = rw (le-ltb n 10 h)

one : (k n : ℕ) → n < 10 → decimal_in (suc k) n ≡ glyph n ∷ []
unfolding decimal_in
one k n h = rw (lt-ltb n 10 h)

decimal_on : (n d : ℕ) → 0 < n → d < 10 → n * 10 + d < 2 ^ 64 → decimal_in 20 n ++ (glyph d ∷ []) ≡ decimal_in 20 (n * 10 + d)
decimal_on n d h k l =
    ap (λ (x : List ℕ). x ++ (glyph d ∷ [])) (sym (decimal_fuel 19 n h (omega arith))) ∙ sym (
    step 19 (n * 10 + d) (omega arith)
    ∙ ap (λ (q : ℕ). decimal_in 19 q ++ (glyph ((n * 10 + d) % 10) ∷ [])) (quotient n d k)
    ∙ ap (λ (r : ℕ). decimal_in 19 n ++ (glyph r ∷ [])) (remainder n d k))
  where
    quotient : (n d : ℕ) → d < 10 → (n * 10 + d) / 10 ≡ n
    quotient n d k = omega arith

    remainder : (n d : ℕ) → d < 10 → (n * 10 + d) % 10 ≡ d
    remainder n d k = omega arith

decimal_some : (k n : ℕ) → 0 < length (decimal_in (suc k) n)
decimal_some k n =
    ⊎_elim
    (λ b. let e : length (decimal_in (suc k) n) ≡ 1 = ap length (one k n b) in omega arith)
    (λ b. let e : length (decimal_in (suc k) n) ≡ length (decimal_in k (n / 10)) + 1 = ap length (step k n b) ∙ length-append (decimal_in k (n / 10)) (glyph (n % 10) ∷ []) in omega arith)
    (below_or_not n 10)

-- what scanning the rest of a line tells: the place after the tab, and the text up to it
record Told (n i : ℕ) (xs : List ℕ) (v m : ℕ) : Type 0 where
  further : i < m
  fits : v < 2 ^ 64
  text : begun n i ++ xs ≡ decimal_in 20 v ++ 9 ∷ drop (m - i) xs

nonzero : (b : Bool) → not b ≡ true → b ≡ false
nonzero true h = sym h
nonzero false h = refl

place_one : (i m : ℕ) → i + 1 ≡ m → 1 ≡ m - i
place_one i m h = omega arith

only : (n d : ℕ) → n ≡ 0 → n * 10 + d ≡ d
only n d h = omega arith

positive : (n : ℕ) → (eqb n 0 && true) ≡ false → 0 < n
positive n h = split (eqb n 0) refl h
  where
    split : (c : Bool) → eqb n 0 ≡ c → (c && true) ≡ false → 0 < n
    split true e h = absurd (omega (arith, ap {B = ℕ} (λ (t : Bool). cond t 1 0) h))
    split false e h = let ne : n ≡ 0 → ⊥ = eqb-false n 0 e in omega arith

next_place : (i m : ℕ) → i + 1 < m → suc (m - (i + 1)) ≡ m - i
next_place i m h = omega arith

-- the text with one digit more
grown : (x n i : ℕ) → (i ≡ 0 → n ≡ 0) → digit_of x < 10 → (eqb n 0 && not (eqb i 0)) ≡ false → n * 10 + digit_of x < 2 ^ 64
    → begun n i ++ (x ∷ []) ≡ decimal_in 20 (n * 10 + digit_of x)
grown x n i start d z l = by (eqb i 0) refl
  where
    by : (b : Bool) → eqb i 0 ≡ b → cond b [] (decimal_in 20 n) ++ (x ∷ []) ≡ decimal_in 20 (n * 10 + digit_of x)
    by true b =
        let n0 : n ≡ 0 = start (eqb-true i 0 b) in
        sym (one 19 (n * 10 + digit_of x) (omega arith) ∙ ap (λ (y : ℕ). glyph y ∷ []) (only n (digit_of x) n0) ∙ ap (λ (y : ℕ). y ∷ []) (glyph_digit x (omega arith)))
    by false b =
        ap (λ (y : ℕ). decimal_in 20 n ++ (y ∷ [])) (sym (glyph_digit x (omega arith)))
        ∙ decimal_on n (digit_of x) (positive n (subst (λ (c : Bool). (eqb n 0 && not c) ≡ false) b z)) d l

later : (n i : ℕ) → begun n (i + 1) ≡ decimal_in 20 n
later n i = rw (ne_eqb (i + 1) 0 (λ h. omega arith))

-- one digit more is told of
told_more : (x n i : ℕ) (xs : List ℕ) (v m : ℕ) → (i ≡ 0 → n ≡ 0) → digit_of x < 10 → (eqb n 0 && not (eqb i 0)) ≡ false → n * 10 + digit_of x < 2 ^ 64
    → Told (n * 10 + digit_of x) (i + 1) xs v m → Told n i (x ∷ xs) v m
told_more x n i xs v m start d z l r = record {
  further = let f = r.further in omega arith;
  fits = r.fits;
  text =
      sym (append_assoc (begun n i) (x ∷ []) xs)
      ∙ ap (λ (p : List ℕ). p ++ xs) (grown x n i start d z l)
      ∙ ap (λ (p : List ℕ). p ++ xs) (sym (later (n * 10 + digit_of x) i))
      ∙ r.text
      ∙ ap (λ (k : ℕ). decimal_in 20 v ++ 9 ∷ drop k (x ∷ xs)) (next_place i m r.further);
}

closed_told : (x n i : ℕ) (xs : List ℕ) (v m : ℕ) → n < 2 ^ 64 → closed_by x n i ≡ Some (v, m) → Told n i (x ∷ xs) v m
unfolding closed_by
closed_told x n i xs v m small e = ⊎_elim (λ t. found (both (eqb x 9) (not (eqb i 0)) t.0) t.1) (λ t. absurd (none-some (v, m) t.1)) (chosen (eqb x 9 && not (eqb i 0)) (Some (n, i + 1)) None (Some (v, m)) e)
  where
    found : ((eqb x 9 ≡ true) × (not (eqb i 0) ≡ true)) → ◌≡◌ {A = Option (ℕ × ℕ)} (Some (n, i + 1)) (Some (v, m)) → Told n i (x ∷ xs) v m
    found t e =
        let same = some_is (n, i + 1) (v, m) e in
        let vn : n ≡ v = ap (λ (p : ℕ × ℕ). p.0) same in
        let mi : i + 1 ≡ m = ap (λ (p : ℕ × ℕ). p.1) same in
        let x9 : x ≡ 9 = eqb-true x 9 t.0 in
        record {
          further = omega arith;
          fits = omega arith;
          text =
              ap (λ (b : Bool). cond b [] (decimal_in 20 n) ++ x ∷ xs) (nonzero (eqb i 0) t.1)
              ∙ ap (λ (y : ℕ). decimal_in 20 n ++ y ∷ xs) x9
              ∙ ap (λ (y : ℕ). decimal_in 20 y ++ 9 ∷ xs) vn
              ∙ ap (λ (k : ℕ). decimal_in 20 v ++ 9 ∷ drop k (x ∷ xs)) (place_one i m mi);
        }

scan_told : (xs : List ℕ) (n i v m : ℕ) → n < 2 ^ 64 → (i ≡ 0 → n ≡ 0) → scan n i xs ≡ Some (v, m) → Told n i xs v m
unfolding scan
scan_told [] n i v m small start e = absurd (none-some (v, m) e)
scan_told (x ∷ xs) n i v m small start e =
    ⊎_elim
    (λ t.
    ⊎_elim
    (λ u. absurd (none-some (v, m) u.1))
    (λ u.
    ⊎_elim
    (λ w. told_more x n i xs v m start (ltb-true (digit_of x) 10 t.0) u.0 (ltb-true (n * 10 + digit_of x) (2 ^ 64) w.0) (scan_told xs (n * 10 + digit_of x) (i + 1) v m (ltb-true (n * 10 + digit_of x) (2 ^ 64) w.0) (λ z. absurd (omega arith)) w.1))
    (λ w. absurd (none-some (v, m) w.1))
    (chosen (ltb (n * 10 + digit_of x) (2 ^ 64)) (scan (n * 10 + digit_of x) (i + 1) xs) None (Some (v, m)) u.1))
    (chosen (eqb n 0 && not (eqb i 0)) None (cond (ltb (n * 10 + digit_of x) (2 ^ 64)) (scan (n * 10 + digit_of x) (i + 1) xs) None) (Some (v, m)) t.1))
    (λ t. closed_told x n i xs v m small t.1)
    (chosen (ltb (digit_of x) 10) (cond (eqb n 0 && not (eqb i 0)) None (cond (ltb (n * 10 + digit_of x) (2 ^ 64)) (scan (n * 10 + digit_of x) (i + 1) xs) None)) (closed_by x n i) (Some (v, m)) e)

-- what is read as seconds is their text and a tab
pub seconds_told : (l : List ℕ) (v m : ℕ) → seconds_of l ≡ Some (v, m) → (v < 2 ^ 64) × (l ≡ decimal_in 20 v ++ 9 ∷ drop m l)
unfolding seconds_of
seconds_told l v m e = let t = scan_told l 0 0 v m (omega arith) (λ z. refl) e in (t.fits, t.text ∙ ap (λ (k : ℕ). decimal_in 20 v ++ 9 ∷ drop k l) (sub-zero m))

-- and their text and a tab are read as them
text_none : (n : ℕ) (ys : List ℕ) → 0 ≡ n → scan 0 0 (decimal_in 0 n ++ ys) ≡ scan n (length (decimal_in 0 n)) ys
unfolding decimal_in
text_none n ys e = ap (λ (j : ℕ). scan j 0 ys) e

text_first : (n : ℕ) (ys : List ℕ) → n < 10 → n < 2 ^ 64 → scan 0 0 (glyph n ∷ ys) ≡ scan n 1 ys
unfolding scan
text_first n ys b l = let e : 0 * 10 + n ≡ n = omega arith in simp (digit_glyph n (omega arith), lt-ltb n 10 b, e, lt-ltb n (2 ^ 64) l)

text_last : (k n : ℕ) (ys : List ℕ) → 10 ≤ n → n < 2 ^ 64
    → scan (n / 10) (length (decimal_in k (n / 10))) (glyph (n % 10) ∷ ys) ≡ scan n (length (decimal_in k (n / 10) ++ (glyph (n % 10) ∷ []))) ys
unfolding scan
text_last k n ys b l =
    let e : n / 10 * 10 + n % 10 ≡ n = omega arith in
    simp (digit_glyph (n % 10) (omega arith), lt-ltb (n % 10) 10 (omega arith), ne_eqb (n / 10) 0 (λ z. omega arith), e, lt-ltb n (2 ^ 64) l, length-append)

scan_text : (k n : ℕ) (ys : List ℕ) → n < 10 ^ k → n < 2 ^ 64 → scan 0 0 (decimal_in k n ++ ys) ≡ scan n (length (decimal_in k n)) ys
scan_text zero n ys h l = text_none n ys (omega arith)
scan_text (suc k) n ys h l =
    ⊎_elim
    (λ b. ap (λ (d : List ℕ). scan 0 0 (d ++ ys)) (one k n b) ∙ text_first n ys b l ∙ ap (λ (d : List ℕ). scan n (length d) ys) (sym (one k n b)))
    (λ b.
    let p : 10 ^ suc k ≡ 10 ^ k * 10 = pow-suc 10 k in
    ap (λ (d : List ℕ). scan 0 0 (d ++ ys)) (step k n b)
    ∙ ap (scan 0 0) (append_assoc (decimal_in k (n / 10)) (glyph (n % 10) ∷ []) ys)
    ∙ scan_text k (n / 10) (glyph (n % 10) ∷ ys) (omega arith) (omega arith)
    ∙ text_last k n ys b l
    ∙ ap (λ (d : List ℕ). scan n (length d) ys) (sym (step k n b)))
    (below_or_not n 10)

pub seconds_text : (n : ℕ) (ys : List ℕ) → n < 2 ^ 64 → seconds_of (decimal_in 20 n ++ 9 ∷ ys) ≡ Some (n, length (decimal_in 20 n) + 1)
unfolding seconds_of scan closed_by digit_of
seconds_text n ys h =
    let s : 0 < length (decimal_in 20 n) = decimal_some 19 n in
    scan_text 20 n (9 ∷ ys) (omega arith) h ∙ simp (ne_eqb (length (decimal_in 20 n)) 0 (λ e. omega arith))

-- ## How long numbers are

pub decimal_length : (k n : ℕ) → length (decimal_in k n) ≤ k
unfolding decimal_in
decimal_length zero n = omega arith
decimal_length (suc k) n =
    ⊎_elim
    (λ l. rw (lt-ltb n 10 l) (omega arith))
    (λ l.
    rw (le-ltb n 10 l)
    (let e : length (decimal_in k (n / 10) ++ (glyph (n % 10) ∷ [])) ≡ length (decimal_in k (n / 10)) + 1 = length-append (decimal_in k (n / 10)) (glyph (n % 10) ∷ []) in
    let f : length (decimal_in k (n / 10)) ≤ k = decimal_length k (n / 10) in
    omega arith))
    (below_or_not n 10)

pub hex_length : (k n : ℕ) → length (hex_in k n) ≡ k
unfolding hex_in
hex_length zero n = refl
hex_length (suc k) n = length-append (hex_in k (n / 16)) (glyph (n % 16) ∷ []) ∙ ap (λ (j : ℕ). j + 1) (hex_length k (n / 16)) ∙ add-one k
