-- Laws: deadlines that are due, and the earlier of two. Assumes nothing.
use Rattle.std.specs.Prelude.{ℕ, ◌≤◌, ◌<◌, Bool, true, false, ◌≡◌, refl, eqb, ltb, Option, Some, None, Result, Ok, Err}
use Rattle.std.proofs.Common.{sym, subst, arith, eqb-true, eq-eqb, le-ltb, ltb-false, ltb-true}
use Rattle.time.specs.Time.{earlier, same_time, time_of}
use Rattle.time.specs.declared.Time.{Time}
use Rattle.waits.specs.Ends.{due_of, sooner}
use Rattle.waits.specs.Ahead.{Ahead, NotRefused}
use Rattle.waits.specs.AheadLaws.{at_is, never_ahead}
use Rattle.refusals.specs.declared.Refusal.{Refusal}

-- ## Due

pub due_now : (d : Result (Option Time) Refusal) (now : Time) → due_of d now ≡ Ok true → (u : Time) × (d ≡ Ok (Some u)) × (time_of u ≡ time_of now)
unfolding due_of same_time
due_now (Ok None) now e = absurd (let z : ◌≡◌ {A = ℕ} 0 1 = cc in omega arith)
due_now (Ok (Some u)) now e = go (eqb (time_of u) (time_of now)) refl
  where
    differ : ◌≡◌ {A = Result Bool Refusal} (Ok false) (Ok true) → ⊥
    differ f = let z : ◌≡◌ {A = ℕ} 0 1 = cc in omega arith

    go : (b : Bool) → eqb (time_of u) (time_of now) ≡ b → (x : Time) × (◌≡◌ {A = Result (Option Time) Refusal} (Ok (Some u)) (Ok (Some x))) × (time_of x ≡ time_of now)
    go true f = (u, refl, eqb-true (time_of u) (time_of now) f)
    go false f = absurd (differ (rw f at e))
due_now (Err n) now e = absurd (let z : ◌≡◌ {A = ℕ} 0 1 = cc in omega arith)

pub at_due : (d : Result (Option Time) Refusal) (u now : Time) → d ≡ Ok (Some u) → time_of u ≡ time_of now → due_of d now ≡ Ok true
unfolding due_of same_time
at_due d u now f e = rw f (rw (eq-eqb (time_of u) (time_of now) e))

-- ## The earlier of two

at_ahead : (now t : Time) → time_of now ≤ time_of t → Ahead now (Ok (Some t))
at_ahead now t le u e = subst (λ (x : Time). time_of now ≤ time_of x) (at_is e) le

-- it is as far ahead as both
pub sooner_ahead : (now : Time) (d e : Result (Option Time) Refusal) → Ahead now d → Ahead now e → Ahead now (sooner d e)
unfolding sooner
sooner_ahead now (Ok None) e f g = g
sooner_ahead now (Ok (Some t)) (Ok None) f g = f
sooner_ahead now (Ok (Some t)) (Ok (Some u)) f g = go (earlier u t) refl
  where
    go : (b : Bool) → earlier u t ≡ b → Ahead now (sooner (Ok (Some t)) (Ok (Some u)))
    go true e = rw e g
    go false e = rw e f
sooner_ahead now (Ok (Some t)) (Err n) f g = g
sooner_ahead now (Err n) e f g = f

-- where it isn't refused, neither is
pub sooner_unrefused : (d e : Result (Option Time) Refusal) → NotRefused (sooner d e) → NotRefused d × NotRefused e
unfolding sooner
sooner_unrefused (Ok None) e r = (λ n f. let z : ◌≡◌ {A = ℕ} 0 1 = cc in omega arith, r)
sooner_unrefused (Ok (Some t)) (Ok None) r = (r, λ n f. let z : ◌≡◌ {A = ℕ} 0 1 = cc in omega arith)
sooner_unrefused (Ok (Some t)) (Ok (Some u)) r = (λ n f. let z : ◌≡◌ {A = ℕ} 0 1 = cc in omega arith, λ n f. let z : ◌≡◌ {A = ℕ} 0 1 = cc in omega arith)
sooner_unrefused (Ok (Some t)) (Err m) r = absurd (r m refl)
sooner_unrefused (Err m) e r = absurd (r m refl)

-- and both are as far ahead as it is
pub ahead_both : (now : Time) (d e : Result (Option Time) Refusal) → NotRefused (sooner d e) → Ahead now (sooner d e) → Ahead now d × Ahead now e
unfolding sooner earlier
ahead_both now (Ok None) e r f = (never_ahead now, f)
ahead_both now (Ok (Some t)) (Ok None) r f = (f, never_ahead now)
ahead_both now (Ok (Some t)) (Ok (Some u)) r f = go (ltb (time_of u) (time_of t)) refl
  where
    go : (b : Bool) → ltb (time_of u) (time_of t) ≡ b → Ahead now (Ok (Some t)) × Ahead now (Ok (Some u))
    go true e =
        let g : Ahead now (Ok (Some u)) = rw e at f in
        let less : time_of u < time_of t = ltb-true (time_of u) (time_of t) e in
        let le : time_of now ≤ time_of u = g u refl in
        (at_ahead now t (omega arith), g)
    go false e =
        let g : Ahead now (Ok (Some t)) = rw e at f in
        let less : time_of t ≤ time_of u = ltb-false (time_of u) (time_of t) e in
        let le : time_of now ≤ time_of t = g t refl in
        (g, at_ahead now u (omega arith))
ahead_both now (Ok (Some t)) (Err n) r f = absurd (r n refl)
ahead_both now (Err n) e r f = absurd (r n refl)

-- it is due where the first is and the other isn't before now
pub sooner_due : (now : Time) (d e : Result (Option Time) Refusal) → due_of d now ≡ Ok true → NotRefused e → Ahead now e → due_of (sooner d e) now ≡ Ok true
unfolding sooner earlier
sooner_due now d e i r g =
    let at = due_now d now i in
    subst (λ (x : Result (Option Time) Refusal). due_of (sooner x e) now ≡ Ok true) (sym at.1) (go at.0 at.2 e r g)
  where
    go : (t : Time) → time_of t ≡ time_of now → (e : Result (Option Time) Refusal) → NotRefused e → Ahead now e → due_of (sooner (Ok (Some t)) e) now ≡ Ok true
    go t is (Ok None) r g = at_due (Ok (Some t)) t now refl is
    go t is (Ok (Some u)) r g = rw (le-ltb (time_of u) (time_of t) (late is (g u refl))) (at_due (Ok (Some t)) t now refl is)
      where
        late : {a b c : ℕ} → a ≡ b → b ≤ c → a ≤ c
        late p q = omega arith
    go t is (Err n) r g = absurd (r n refl)
