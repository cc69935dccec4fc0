-- Laws: the moment that a bench goes to is one that a unit names, and that is then due, or the next script line (`moment_due`).
-- Assumes nothing.
use Prim.Native.Nat.{ℕ, ◌+◌, ◌≤◌, ◌<◌}
use Rattle.std.proofs.Math.Bool.{Bool, true, false, cond}
use Rattle.std.specs.Prelude.{not, ◌&&◌, ◌||◌, ◌⊎◌, leb, Option, Err, None, Ok, Result, Some}
use Rattle.std.proofs.Common.{true≢false, sym, ap, ◌∙◌, subst, arith, ltb-true, ltb-false, leb-true, leb-false, le-ltb, le-leb, eq-eqb}
use Rattle.std.proofs.Math.Logic.{inl, inr, ⊎_elim}
use Rattle.std.proofs.Math.Path.{◌≡◌, refl}
use Rattle.std.proofs.Math.Dec.{ltb}
use Rattle.std.proofs.lemmas.Bool.{lt-leb}
use Rattle.clocks.specs.declared.Clocks.{Clocks}
use Rattle.time.specs.declared.Time.{Time}
use Rattle.time.specs.Time.{earlier, same_time, time_of}
use Rattle.time.specs.Truths.{and_right}
use Rattle.waits.specs.Ends.{sooner}
use Rattle.iic.specs.declared.Iic.{Iic}
use Rattle.iic.specs.Calls.{deadline_of}
use Rattle.lines.specs.Lines.{may_follow}
use Rattle.bench.specs.declared.Bench.{Bench}
use Rattle.bench.specs.declared.Doing.TheVariants.{Visits}
use Rattle.bench.specs.Measure.{due_from, unit_due}
use Rattle.bench.specs.Steps.{goes, unmarked}
use Rattle.units.specs.Units.{is_named, is_present, names_by, names_of}
use Rattle.bench.specs.Moments.{moment_of, named_by, mark_of, state_at}
use Rattle.refusals.specs.declared.Refusal.{Refusal}

-- ## Units that are due, from a number on

none_true : {A : Type 0} (b : Bool) → b ≡ true → b ≡ false → A
none_true b e f = absurd (true≢false (sym e ∙ f))

pub no : (b : Bool) → (b && false) ≡ false
no true = refl
no false = refl

pub none_from : (f : ℕ → Bool) (u : ℕ) → ((v : ℕ) → u ≤ v → f v ≡ false) → due_from f u ≡ false
none_from f u h = simp (one 0, one 1, one 2, one 3)
  where
    one : (v : ℕ) → (leb u v && f v) ≡ false
    one v = by (leb u v) refl
      where
        by : (t : Bool) → leb u v ≡ t → (t && f v) ≡ false
        by true e = h v (leb-true u v e)
        by false e = refl

-- one that isn't due is passed over
pub next_from : (f : ℕ → Bool) (u : ℕ) → f u ≡ false → due_from f (u + 1) ≡ due_from f u
next_from f u h = simp (one 0, one 1, one 2, one 3)
  where
    other : (v : ℕ) → (v ≡ u → ⊥) → leb (u + 1) v ≡ leb u v
    other v n = by (leb u v) refl
      where
        by : (t : Bool) → leb u v ≡ t → leb (u + 1) v ≡ t
        by true e = le-leb (u + 1) v (let g : u ≤ v = leb-true u v e in more g)
          where
            more : u ≤ v → u + 1 ≤ v
            more g = ⊎_elim (λ l. omega arith) (λ l. absurd (n (omega arith))) (split (ltb u v) refl)
              where
                split : (t : Bool) → ltb u v ≡ t → (u < v) ⊎ (v ≤ u)
                split true e = inl (ltb-true u v e)
                split false e = inr (ltb-false u v e)
        by false e = lt-leb (u + 1) v (let g : v < u = leb-false u v e in omega arith)

    one : (v : ℕ) → (leb (u + 1) v && f v) ≡ (leb u v && f v)
    one v = by (f v) refl
      where
        by : (t : Bool) → f v ≡ t → (leb (u + 1) v && t) ≡ (leb u v && t)
        by true e = ap (λ (t : Bool). t && true) (other v (λ g. none_true (f u) (ap f (sym g) ∙ e) h))
        by false e = no (leb (u + 1) v) ∙ sym (no (leb u v))

some_from : (f : ℕ → Bool) → (f 0 ≡ true) ⊎ ((f 1 ≡ true) ⊎ ((f 2 ≡ true) ⊎ (f 3 ≡ true))) → due_from f 0 ≡ true
some_from f h = go (f 0) (f 1) (f 2) (f 3) h
  where
    go : (a b c d : Bool) → (a ≡ true) ⊎ ((b ≡ true) ⊎ ((c ≡ true) ⊎ (d ≡ true))) → (a || b || c || d) ≡ true
    go true b c d h = refl
    go false true c d h = refl
    go false false true d h = refl
    go false false false true h = refl
    go false false false false (inl e) = e
    go false false false false (inr (inl e)) = e
    go false false false false (inr (inr (inl e))) = e
    go false false false false (inr (inr (inr e))) = e

-- ## The moment that is chosen is named

sooner_some : (a b : Result (Option Time) Refusal) (t : Time) → sooner a b ≡ Ok (Some t) → (a ≡ Ok (Some t)) ⊎ (b ≡ Ok (Some t))
unfolding sooner
sooner_some (Ok None) b t e = inr e
sooner_some (Ok (Some x)) (Ok None) t e = inl e
sooner_some (Ok (Some x)) (Ok (Some y)) t e = go (earlier y x) e
  where
    Named : Time → Type 0
    Named u = ◌≡◌ {A = Result (Option Time) Refusal} (Ok (Some u)) (Ok (Some t))

    go : (c : Bool) → ◌≡◌ {A = Result (Option Time) Refusal} (cond c (Ok (Some y)) (Ok (Some x))) (Ok (Some t)) → Named x ⊎ Named y
    go true f = inr f
    go false f = inl f
sooner_some (Ok (Some x)) (Err n) t e = absurd (let z : ◌≡◌ {A = ℕ} 0 1 = cc in omega arith)
sooner_some (Err n) b t e = absurd (let z : ◌≡◌ {A = ℕ} 0 1 = cc in omega arith)

pub same_self : (t : Time) → same_time t t ≡ true
unfolding same_time
same_self t = eq-eqb (time_of t) (time_of t) refl

not_earlier : (t : Time) → earlier t t ≡ false
unfolding earlier
not_earlier t = le-ltb (time_of t) (time_of t) (omega arith)

-- the unit's deadline, and that it may be visited
names_told : (p : Option Time) (balked : Bool) (d : Result (Option Time) Refusal) (t : Time) → names_by p balked d ≡ Ok (Some t)
    → (d ≡ Ok (Some t)) × ((may_follow p t && not (balked && is_present p t)) ≡ true)
names_told p balked (Ok None) t e = absurd (let z : ◌≡◌ {A = ℕ} 0 1 = cc in omega arith)
names_told p balked (Err n) t e = absurd (let z : ◌≡◌ {A = ℕ} 0 1 = cc in omega arith)
names_told p balked (Ok (Some x)) t e = go (may_follow p x && not (balked && is_present p x)) refl e
  where
    same : ◌≡◌ {A = Result (Option Time) Refusal} (Ok (Some x)) (Ok (Some t)) → x ≡ t
    same f = cc

    go : (c : Bool) → (may_follow p x && not (balked && is_present p x)) ≡ c → ◌≡◌ {A = Result (Option Time) Refusal} (cond c (Ok (Some x)) (Ok None)) (Ok (Some t)) → ◌≡◌ {A = Result (Option Time) Refusal} (Ok (Some x)) (Ok (Some t)) × ((may_follow p t && not (balked && is_present p t)) ≡ true)
    go true g f = (f, subst (λ (y : Time). (may_follow p y && not (balked && is_present p y)) ≡ true) (same f) g)
    go false g f = absurd (let z : ◌≡◌ {A = ℕ} 0 1 = cc in omega arith)

-- a unit whose visit wasn't refused is named in the moment of its deadline
is_named_lem : (k : Clocks) (t : Time) (m : Bool) (s : Iic) → deadline_of s k ≡ Ok (Some t) → m ≡ false → is_named k t m s ≡ true
unfolding is_named names_of
is_named_lem k t m s e f = simp (e, f, not_earlier t, same_self t)

-- after going to the moment that a unit names, it is due
kept_unit : (k : Clocks) (p : Option Time) (t : Time) (m : Bool) (s : Iic) → names_of k p m s ≡ Ok (Some t)
    → (is_present p t ≡ true → is_named k t m s ≡ true) × (is_named k t false s ≡ true)
unfolding names_of
kept_unit k p t m s e =
    let told = names_told p m (deadline_of s k) t e in
    (λ now. is_named_lem k t m s told.0 (unbalked m (is_present p t) now (and_right (may_follow p t) _ told.1)), is_named_lem k t false s told.0 refl)
  where
    unbalked : (b c : Bool) → c ≡ true → not (b && c) ≡ true → b ≡ false
    unbalked true true f g = sym g
    unbalked true false f g = sym f
    unbalked false c f g = refl

module _ (k : Clocks) (count : ℕ) where
  -- what goes_to leaves, the moment the same or another one
  abbrev pub left : Option Time → Time → Bench → Bool → Bench
  left p t b true = (goes (Visits t 0) b).bench
  left p t b false = (goes (Visits t 0) (unmarked b)).bench

  left_due : (p : Option Time) (t : Time) (b : Bench) (u : ℕ) → (mark_of (unmarked b).place u ≡ false) → named_by k count p b u ≡ Ok (Some t)
      → (c : Bool) → is_present p t ≡ c → unit_due k count t (left p t b c) u ≡ true
  unfolding named_by unmarked
  left_due p t b u same e c f = go (ltb u count) refl e c f
    where
      go : (l : Bool) → ltb u count ≡ l → cond l (names_of k p (mark_of b.place u) (state_at b u)) (Ok None) ≡ Ok (Some t) → (c : Bool) → is_present p t ≡ c → unit_due k count t (left p t b c) u ≡ true
      go false g e c f = absurd (let z : ◌≡◌ {A = ℕ} 0 1 = cc in omega arith)
      go true g e true f = simp (g, (kept_unit k p t (mark_of b.place u) (state_at b u) e).0 f)
      go true g e false f = simp (g) (ap (λ (x : Bool). is_named k t x (state_at b u)) same ∙ (kept_unit k p t (mark_of b.place u) (state_at b u) e).1)

  -- a unit or the line names the moment
  pub moment_due : (p : Option Time) (t : Time) (line : Result (Option Time) Refusal) (b : Bench) (c : Bool) → is_present p t ≡ c → moment_of k count p line b ≡ Ok (Some t)
      → (due_from (unit_due k count t (left p t b c)) 0 ≡ true) ⊎ (line ≡ Ok (Some t))
  unfolding moment_of unmarked
  moment_due p t line b c f e =
      ⊎_elim (λ h. inl (some_from due (inl (left_due p t b 0 refl h c f))))
      (λ r0. ⊎_elim (λ h. inl (some_from due (inr (inl (left_due p t b 1 refl h c f)))))
      (λ r1. ⊎_elim (λ h. inl (some_from due (inr (inr (inl (left_due p t b 2 refl h c f))))))
      (λ r2. ⊎_elim (λ h. inl (some_from due (inr (inr (inr (left_due p t b 3 refl h c f)))))) (λ h. inr h)
      (sooner_some (named_by k count p b 3) line t r2))
      (sooner_some (named_by k count p b 2) (sooner (named_by k count p b 3) line) t r1))
      (sooner_some (named_by k count p b 1) (sooner (named_by k count p b 2) (sooner (named_by k count p b 3) line)) t r0))
      (sooner_some (named_by k count p b 0) (sooner (named_by k count p b 1) (sooner (named_by k count p b 2) (sooner (named_by k count p b 3) line))) t e)
    where
      due : ℕ → Bool
      due = unit_due k count t (left p t b c)
