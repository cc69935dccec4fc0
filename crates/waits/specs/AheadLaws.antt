-- Laws: waits on the system clock that were started, paused or made longer, and when they end. Assumes nothing.
use Rattle.std.specs.Prelude.{ℕ, ◌+◌, ◌-◌, ◌*◌, ◌^◌, ◌≤◌, ◌<◌, Bool, not, ◌&&◌, ◌≡◌, eqb, Err, None, Ok, Option, Result, Some}
use Rattle.std.proofs.Math.Bool.{true, false, cond}
use Rattle.std.proofs.Math.Path.{refl, sym, ap, ap₂}
use Rattle.std.proofs.Common.{◌∙◌, subst, arith, ltb-true, ne_eqb}
use Rattle.std.proofs.Math.Dec.{leb, ltb}
use Rattle.time.specs.Time.{time_of}
use Rattle.time.specs.declared.Time.{Time}
use Rattle.clocks.specs.Clocks.{has_zero}
use Rattle.counts.specs.Counts.{fits}
use Rattle.domain.specs.Domain.{domain_half_edge, domain_half_ticks, domain_ticks}
use Rattle.domain.specs.HalfLaws.{edge_later, half_counted, half_later, half_order}
use Rattle.clocks.specs.System.{domain_deadline, system_after, system_deadline, system_started_at}
use Rattle.clocks.specs.SystemLaws.{system_deadline_lem}
use Rattle.clocks.specs.Tap.{same_tap, system_tap}
use Rattle.clocks.specs.Wait.{dated, started_by, wait_deadline, wait_of}
use Rattle.clocks.specs.declared.Clocks.{Clocks}
use Rattle.domain.specs.declared.Domain.{Domain}
use Rattle.clocks.specs.declared.wait.ClockWait.{ClockWait}
use Rattle.clocks.specs.declared.wait.WaitState.TheVariants.{Running}
use Rattle.time.specs.Clock.{after_of, zero_in}
use Rattle.waits.specs.Half.{difference_of, half_after, half_deadline, half_pause, half_wait, made_half}
use Rattle.waits.specs.declared.HalfWait.{HalfWait}
use Rattle.waits.specs.Ahead.{Ahead}
use Rattle.refusals.specs.declared.Refusal.{Refusal}
use Rattle.refusals.specs.declared.Refusal.TheVariants.{ZeroFrequency, Overflow}
use Rattle.refusals.proofs.Laws.{err_not_ok, same_ok}

-- ## Deadlines

pub never_not_at : {t : Time} → ◌≡◌ {A = Result (Option Time) Refusal} (Ok None) (Ok (Some t)) → ⊥
never_not_at e = let z : ◌≡◌ {A = ℕ} 0 1 = cc in omega arith

pub never_ahead : (now : Time) → Ahead now (Ok None)
never_ahead now t e = absurd (never_not_at e)

pub refused_ahead : (now : Time) (r : Refusal) → Ahead now (Err r)
refused_ahead now r t e = absurd (err_not_ok e)

pub at_is : {s t : Time} → ◌≡◌ {A = Result (Option Time) Refusal} (Ok (Some s)) (Ok (Some t)) → s ≡ t
at_is e = cc

-- the time of a deadline that is one
dated_at : (m : Result Time Refusal) (u : Time) → dated m ≡ Ok (Some u) → m ≡ Ok u
unfolding dated
dated_at (Ok t) u e = ap Ok (at_is e)
dated_at (Err r) u e = absurd (err_not_ok e)

-- ## Half waits

-- one that is made of a number has it
pub longer_is : (p : Bool) (n : ℕ) (u : HalfWait) → made_half p (fits n) ≡ Ok u → u ≡ half_wait p n
unfolding fits
longer_is p n u e = go (ltb n (2 ^ 64)) refl
  where
    go : (b : Bool) → ltb n (2 ^ 64) ≡ b → u ≡ half_wait p n
    go true f = sym (same_ok (rw f at e))
    go false f = absurd (err_not_ok (rw f at e))

-- a deadline that there is only while a wait runs and its clock does
while_running : (paused running : Bool) (x : Result (Option Time) Refusal) (u : Time) → cond (not paused && running) x (Ok None) ≡ Ok (Some u)
    → (paused ≡ false) × (running ≡ true) × (x ≡ Ok (Some u))
while_running true r x u e = absurd (never_not_at e)
while_running false false x u e = absurd (never_not_at e)
while_running false true x u e = (refl, refl, e)

module _ (d : Domain) where
  -- what a half wait that has a time tells
  half_end_lem : (w : HalfWait) (u : Time) → half_deadline w d ≡ Ok (Some u) → (w.paused ≡ false) × (d.running ≡ true) × (domain_half_edge d w.count ≡ Ok u)
  unfolding half_deadline
  half_end_lem w u e =
      let parts = while_running w.paused d.running (dated (domain_half_edge d w.count)) u e in
      (parts.0, parts.1, dated_at (domain_half_edge d w.count) u parts.2)

  half_ends : (w : HalfWait) (u : Time) → w.paused ≡ false → d.running ≡ true → domain_half_edge d w.count ≡ Ok u → half_deadline w d ≡ Ok (Some u)
  unfolding half_deadline dated
  half_ends w u f g h =
      ap₂ (λ (p r : Bool). cond (not p && r) (dated (domain_half_edge d w.count)) (Ok None)) f g ∙ ap dated h

  -- of two half waits the one to the lower count ends first, if that isn't below the ordinal's
  pub ends_first : (w v : HalfWait) → w.paused ≡ false → 2 * d.clock.ordinal ≤ w.count → w.count ≤ v.count → (u : Time) → half_deadline v d ≡ Ok (Some u)
      → (t : Time) × (half_deadline w d ≡ Ok (Some t)) × (time_of t ≤ time_of u)
  ends_first w v p from le u e =
      let told = half_end_lem v u e in
      let first = half_order d w.count v.count from le u told.2 in
      (first.0, half_ends w first.0 p told.1 first.1, first.2)

  pub longer_ahead : (now : Time) (w v : HalfWait) → w.paused ≡ v.paused → (w.paused ≡ false → 2 * d.clock.ordinal ≤ w.count) → w.count ≤ v.count
      → Ahead now (half_deadline w d) → Ahead now (half_deadline v d)
  longer_ahead now w v p from le ahead u e =
      let runs : w.paused ≡ false = p ∙ (half_end_lem v u e).0 in
      let first = ends_first w v runs (from runs) le u e in
      later (ahead first.0 first.1) first.2
    where
      later : {a b c : ℕ} → a ≤ b → b ≤ c → a ≤ c
      later f g = omega arith

  -- where a half wait ends, at most two half counts more than its own are counted
  pub counted_at_end : d.clock.numerator < 2 ^ 64 → (now : Time) (t : ℕ) (w : HalfWait) (u : Time)
      → half_deadline w d ≡ Ok (Some u) → time_of u ≡ time_of now → domain_half_ticks d now ≡ Ok t → t ≤ w.count + 2
  counted_at_end word now t w u e is f =
      let told = half_end_lem w u e in
      half_counted d told.1 word now t w.count u told.2 is f

  -- a half wait that was started now has so many more than the present half count
  pub half_started : (now : Time) (n : ℕ) (w : HalfWait) → half_after now n d ≡ Ok w → (t : ℕ) × (domain_half_ticks d now ≡ Ok t) × (w ≡ half_wait false (t + n))
  unfolding half_after
  half_started now n w e = go (domain_half_ticks d now) refl
    where
      go : (c : Result ℕ Refusal) → domain_half_ticks d now ≡ c → (t : ℕ) × (domain_half_ticks d now ≡ Ok t) × (w ≡ half_wait false (t + n))
      go (Err r) f = absurd (err_not_ok (rw f at e))
      go (Ok t) f = told (ltb (t + n) (2 ^ 64)) refl
        where
          told : (b : Bool) → ltb (t + n) (2 ^ 64) ≡ b → (t : ℕ) × (domain_half_ticks d now ≡ Ok t) × (w ≡ half_wait false (t + n))
          told true g = (t, f, sym (same_ok (rw (f, g) at e)))
          told false g = absurd (err_not_ok (rw (f, g) at e))

  -- one to a count above the present one doesn't end before now
  pub above_ahead : (now : Time) (t : ℕ) (w : HalfWait) → domain_half_ticks d now ≡ Ok t → t < w.count → Ahead now (half_deadline w d)
  above_ahead now t w f less u e =
      let told = half_end_lem w u e in
      half_later d told.1 now t w.count f less u told.2

  pub paused_ahead : (now : Time) (w : HalfWait) → w.paused ≡ true → Ahead now (half_deadline w d)
  unfolding half_deadline
  paused_ahead now w p = rw p (never_ahead now)

  -- a running one that was paused has what is left
  pub paused_is : (w u : HalfWait) (now : Time) → w.paused ≡ false → half_pause w now d ≡ Ok u
      → (t : ℕ) × (domain_half_ticks d now ≡ Ok t) × (u ≡ half_wait true (w.count - t))
  unfolding half_pause difference_of
  paused_is w u now p e = go (domain_half_ticks d now) refl
    where
      go : (c : Result ℕ Refusal) → domain_half_ticks d now ≡ c → (t : ℕ) × (domain_half_ticks d now ≡ Ok t) × (u ≡ half_wait true (w.count - t))
      go (Err r) f = absurd (err_not_ok (rw (p, f) at e))
      go (Ok t) f = left (leb t w.count) refl
        where
          left : (b : Bool) → leb t w.count ≡ b → (t : ℕ) × (domain_half_ticks d now ≡ Ok t) × (u ≡ half_wait true (w.count - t))
          left true g = (t, f, sym (same_ok (rw (p, f, g) at e)))
          left false g = absurd (err_not_ok (rw (p, f, g) at e))

  -- ## Waits for edges

  pub wait_started : (now : Time) (n : ℕ) (w : ClockWait) → 0 < n → system_after now n d ≡ Ok w
      → (t : ℕ) × (domain_ticks d now ≡ Ok t) × (w ≡ wait_of (system_tap 1) (Running (t + n)))
  unfolding system_after system_started_at started_by fits
  wait_started now n w pos e = go (zero_in d.clock) refl (domain_ticks d now) refl
    where
      Told : Type 0
      Told = (t : ℕ) × (domain_ticks d now ≡ Ok t) × (w ≡ wait_of (system_tap 1) (Running (t + n)))

      some : eqb n 0 ≡ false
      some = ne_eqb n 0 (λ z. omega arith)

      go : (y : Bool) → zero_in d.clock ≡ y → (c : Result ℕ Refusal) → domain_ticks d now ≡ c → Told
      go true g c f = absurd (err_not_ok (rw g at e))
      go false g (Err r) f = absurd (err_not_ok (rw (g, some, f) at e))
      go false g (Ok t) f = fitting (ltb (t + n) (2 ^ 64)) refl
        where
          fitting : (b : Bool) → ltb (t + n) (2 ^ 64) ≡ b → Told
          fitting false h = absurd (err_not_ok (rw (g, some, f, h) at e))
          fitting true h = ends (domain_deadline d (t + n)) refl
            where
              ends : (x : Result (Option Time) Refusal) → domain_deadline d (t + n) ≡ x → Told
              ends (Ok None) i = (t, f, sym (same_ok (rw (g, some, f, h, i) at e)))
              ends (Ok (Some u)) i = (t, f, sym (same_ok (rw (g, some, f, h, i) at e)))
              ends (Err r) i = absurd (err_not_ok (rw (g, some, f, h, i) at e))

  edge_ahead : (now : Time) (t n : ℕ) → domain_ticks d now ≡ Ok t → t < n → Ahead now (domain_deadline d n)
  unfolding domain_deadline fits dated
  edge_ahead now t n f less u e = go d.running refl (ltb n (2 ^ 64)) refl
    where
      go : (r : Bool) → d.running ≡ r → (b : Bool) → ltb n (2 ^ 64) ≡ b → time_of now ≤ time_of u
      go false g b h = absurd (never_not_at (rw g at e))
      go true g false h = absurd (err_not_ok (rw (g, h) at e))
      go true g true h = edge_later d g now t n f less (ltb-true n (2 ^ 64) h) u (dated_at (after_of d.clock n) u (rw (g, h) at e))

-- a running one to a number above the count
pub running_ahead : (k : Clocks) (now : Time) (t n : ℕ) → domain_ticks k.system now ≡ Ok t → t < n → Ahead now (wait_deadline (wait_of (system_tap 1) (Running n)) k)
unfolding wait_deadline system_deadline same_tap
running_ahead k now t n f less = go (has_zero k) refl
  where
    w : ClockWait
    w = wait_of (system_tap 1) (Running n)

    over : (b : Bool) → zero_in k.system.clock ≡ b → Ahead now (system_deadline w k.system)
    over true e = rw e (refused_ahead now ZeroFrequency)
    over false e = rw e (edge_ahead k.system now t n f less)

    go : (b : Bool) → has_zero k ≡ b → Ahead now (wait_deadline w k)
    go true e = rw e (refused_ahead now ZeroFrequency)
    go false e = subst (Ahead now) (sym (system_deadline_lem k e w refl)) (over (zero_in k.system.clock) refl)

pub started_ahead : (k : Clocks) (now : Time) (n : ℕ) (w : ClockWait) → 0 < n → system_after now n k.system ≡ Ok w → Ahead now (wait_deadline w k)
started_ahead k now n w pos e =
    let told = wait_started k.system now n w pos e in
    subst (λ (x : ClockWait). Ahead now (wait_deadline x k)) (sym told.2) (running_ahead k now told.0 (told.0 + n) told.1 (more told.0 pos))
  where
    more : (t : ℕ) {n : ℕ} → 0 < n → t < t + n
    more t h = omega arith
