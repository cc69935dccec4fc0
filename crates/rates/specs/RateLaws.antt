-- Laws: the rate set of document 01 isn't refused, and how `each` goes on. Assumes nothing.
use Rattle.std.specs.Prelude.{ℕ, zero, suc, ◌+◌, ◌-◌, ◌<◌, ◌≤◌, Bool, true, false, ◌&&◌, List, [], ◌∷◌, ◌++◌, ◌≡◌, refl, eqb, get_or, length, take}
use Rattle.std.specs.List.{list_all}
use Rattle.std.proofs.Common.{◌∙◌, sym, ap, ap₂, eq-eqb, eqb-true, ne_eqb, arith}
use Rattle.std.proofs.lemmas.Bool.{eqb-false}
use Rattle.std.proofs.lemmas.List.{take_all}
use Rattle.std.proofs.lemmas.List.Folds.{list_all_more}
use Rattle.std.proofs.Math.Numerals.{unary_clauses}
use Rattle.time.specs.Truths.{and_left, and_right}
use Rattle.rates.specs.Rates.{are_four, each, is_default, lengths_hold, monitor_below, monitor_halves, period_of, rate, rates_hold, word_of}
use Rattle.rates.specs.declared.Rates.{Rates}

-- the lengths at four places in a row
abbrev four : List ℕ → ℕ → List ℕ
four ls i = get_or ls i 0 ∷ get_or ls (1 + i) 0 ∷ get_or ls (2 + i) 0 ∷ get_or ls (3 + i) 0 ∷ []

-- a set by its lengths one by one
abbrev spread : Rates → Rates
spread r = record {
  half_clocks = four r.half_clocks 0 ++ four r.half_clocks 4;
  monitors = four r.monitors 0;
  setups = get_or r.setups 0 0 ∷ get_or r.setups 1 0 ∷ [];
}

abbrev made : List ℕ → List ℕ → List ℕ → Rates
made clocks monitors setups = record { half_clocks = clocks; monitors = monitors; setups = setups }

-- nothing else is looked at
by_lengths : (r : Rates) → rates_hold r ≡ rates_hold (spread r)
unfolding rates_hold lengths_hold monitor_below monitor_halves period_of rate
by_lengths r = refl

-- four lengths, one by one
fours : (ls : List ℕ) (i a b c d : ℕ) → are_four ls i a b c d ≡ true → four ls i ≡ (a ∷ b ∷ c ∷ d ∷ [])
fours ls i a b c d h =
    let t0 = eqb (get_or ls i 0) a in
    let t1 = eqb (get_or ls (1 + i) 0) b in
    let t2 = eqb (get_or ls (2 + i) 0) c in
    let t3 = eqb (get_or ls (3 + i) 0) d in
    let h3 = and_left (t0 && t1 && t2) t3 h in
    let h2 = and_left (t0 && t1) t2 h3 in
    rw (
      eqb-true (get_or ls i 0) a (and_left t0 t1 h2),
      eqb-true (get_or ls (1 + i) 0) b (and_right t0 t1 h2),
      eqb-true (get_or ls (2 + i) 0) c (and_right (t0 && t1) t2 h3),
      eqb-true (get_or ls (3 + i) 0) d (and_right (t0 && t1 && t2) t3 h),
    )

-- the set of document 01 isn't refused
pub default_holds : (r : Rates) → is_default r ≡ true → rates_hold r ≡ true
unfolding is_default rates_hold lengths_hold monitor_below monitor_halves period_of rate
default_holds r h =
    let t0 = are_four r.half_clocks 0 28 40 48 64 in
    let t1 = are_four r.half_clocks 4 80 100 112 128 in
    let t2 = are_four r.monitors 0 15 39 35 83 in
    let t3 = eqb (get_or r.setups 0 0) 10 in
    let t4 = eqb (get_or r.setups 1 0) 20 in
    let h4 = and_left (t0 && t1 && t2 && t3) t4 h in
    let h3 = and_left (t0 && t1 && t2) t3 h4 in
    let h2 = and_left (t0 && t1) t2 h3 in
    let clocks = ap₂ (λ (xs ys : List ℕ). xs ++ ys) (fours r.half_clocks 0 28 40 48 64 (and_left t0 t1 h2))
    (fours r.half_clocks 4 80 100 112 128 (and_right t0 t1 h2)) in
    let monitors = fours r.monitors 0 15 39 35 83 (and_right (t0 && t1) t2 h3) in
    let setups = ap₂ (λ (x y : ℕ). x ∷ y ∷ []) (eqb-true (get_or r.setups 0 0) 10 (and_right (t0 && t1 && t2) t3 h4))
    (eqb-true (get_or r.setups 1 0) 20 (and_right (t0 && t1 && t2 && t3) t4 h)) in
    by_lengths r ∙ ap rates_hold (ap₂ (λ (f : List ℕ → Rates) (x : List ℕ). f x) (ap₂ made clocks monitors) setups)

-- of a number that isn't 0: of those below it but the last, and of the last
pub each_on : (p : ℕ → Bool) (n : ℕ) → (n ≡ 0 → ⊥) → each p n ≡ (each p (n - 1) && p (n - 1))
each_on p zero h = absurd (h refl)
each_on p (suc n) h = simp unary_clauses refl

-- of the first n of a list, one by one
pub each_of : (p : ℕ → Bool) (xs : List ℕ) (n : ℕ) → n ≤ length xs → each (λ i. p (get_or xs i 0)) n ≡ list_all p (take n xs)
each_of p xs zero h = refl
each_of p xs (suc n) h =
    let less : n < length xs = omega (arith, h) in
    let one : suc n ≡ n + 1 = omega arith in
    ap (λ (b : Bool). b && p (get_or xs n 0)) (each_of p xs n (omega (arith, h))) ∙ sym (list_all_more p xs n 0 less) ∙ ap (λ (k : ℕ). list_all p (take k xs)) (sym one)

pub each_all : (p : ℕ → Bool) (xs : List ℕ) (n : ℕ) → length xs ≡ n → list_all p xs ≡ each (λ i. p (get_or xs i 0)) n
each_all p xs n e = sym (each_of p xs n (omega (arith, e)) ∙ ap (list_all p) (take_all n xs (omega (arith, e))))

-- words of four lengths are equal where the lengths are
pub same_words : (a b c d e f g h : ℕ) → a < 0x10000 → b < 0x10000 → c < 0x10000 → d < 0x10000 → e < 0x10000 → f < 0x10000 → g < 0x10000 → h < 0x10000
    → eqb (word_of a b c d) (word_of e f g h) ≡ (eqb a e && eqb b f && eqb c g && eqb d h)
same_words a b c d e f g h la lb lc ld le lf lg lh = go (eqb a e) refl (eqb b f) refl (eqb c g) refl (eqb d h) refl
  where
    apart : (word_of a b c d ≡ word_of e f g h → ⊥) → eqb (word_of a b c d) (word_of e f g h) ≡ false
    apart = ne_eqb (word_of a b c d) (word_of e f g h)

    parts : word_of a b c d ≡ word_of e f g h → (a ≡ e) × ((b ≡ f) × ((c ≡ g) × (d ≡ h)))
    parts q = (omega (arith, q, la, lb, lc, ld, le, lf, lg, lh), (omega (arith, q, la, lb, lc, ld, le, lf, lg, lh), (omega (arith, q, la, lb, lc, ld, le, lf, lg, lh), omega (arith, q, la, lb, lc, ld, le, lf, lg, lh))))

    go : (p : Bool) → eqb a e ≡ p → (q : Bool) → eqb b f ≡ q → (r : Bool) → eqb c g ≡ r → (t : Bool) → eqb d h ≡ t
        → eqb (word_of a b c d) (word_of e f g h) ≡ (p && q && r && t)
    go false ep q eq r er t et = apart (λ x. eqb-false a e ep (parts x).0)
    go true ep false eq r er t et = apart (λ x. eqb-false b f eq (parts x).1.0)
    go true ep true eq false er t et = apart (λ x. eqb-false c g er (parts x).1.1.0)
    go true ep true eq true er false et = apart (λ x. eqb-false d h et (parts x).1.1.1)
    go true ep true eq true er true et =
        eq-eqb (word_of a b c d) (word_of e f g h) (rw (eqb-true a e ep, eqb-true b f eq, eqb-true c g er, eqb-true d h et))
