-- Laws: over two clock sets that are alike, waits start, pause, resume and end alike, and those that run afterwards are ahead. Assumes nothing.
use Rattle.std.specs.Prelude.{ℕ, ◌+◌, ◌-◌, ◌*◌, ◌≤◌, ◌<◌, ◌^◌, Bool, ◌≡◌, ltb, Err, None, Ok, Option, Result, Some, ⊤}
use Rattle.std.proofs.Math.Bool.{true, false, cond}
use Rattle.std.proofs.Common.{true≢false, arith}
use Rattle.std.proofs.Math.Path.{refl, ap, ap₂}
use borrow.Author.Tests.{eqb-false}
use Rattle.std.proofs.Math.Dec.{eqb}
use Rattle.time.specs.declared.Time.{Time}
use Rattle.time.specs.Time.{earlier}
use Rattle.clocks.specs.Clocks.{tap_ticks}
use Rattle.counts.specs.Counts.{fits}
use Rattle.refusals.specs.Refusals.{and_then}
use Rattle.domain.specs.Domain.{domain_half_ticks}
use Rattle.clocks.specs.System.{system_after}
use Rattle.clocks.specs.SystemLaws.{system_after_lem}
use Rattle.clocks.specs.Tap.{system_tap}
use Rattle.clocks.specs.Wait.{dated, edge_deadline, kept, left_at, left_by, paused_by, paused_unless, resumed_as, resumed_by, started_at, started_by, started_for, wait_after, wait_deadline, wait_of, wait_pause, wait_resume}
use Rattle.waits.specs.Ends.{half_end, new_wait, turn_half, turn_wait, wait_end}
use Rattle.waits.specs.Half.{further, half_after, half_deadline, half_pause, half_resume, half_wait, left_of, made_half}
use Rattle.clocks.specs.declared.Clocks.{Clocks}
use Rattle.clocks.specs.declared.tap.Tap.{Tap}
use Rattle.clocks.specs.declared.wait.ClockWait.{ClockWait}
use Rattle.clocks.specs.declared.wait.WaitState.{WaitState}
use Rattle.clocks.specs.declared.wait.WaitState.TheVariants.{Running, Paused, Ready}
use Rattle.clocks.specs.declared.wait.Waited.{Waited}
use Rattle.waits.specs.declared.HalfWait.{HalfWait}
use Rattle.moves.specs.Statement.{From}
use Rattle.moves.specs.Alike.{AheadHalf, AheadState, AheadWait, Alike, HalfAlike, NewAhead, WaitAlike, WaitedAlike}
use Rattle.refusals.specs.declared.Refusal.{Refusal}
use Rattle.refusals.specs.declared.Refusal.TheVariants.{ZeroDivider, Overflow, Reversed, HalfSum}

-- ## Half waits

-- a made one, paused or with a count that isn't below that of the ordinal
pub made_ahead : (o : ℕ) (p : Bool) (n : ℕ) → (p ≡ false → 2 * o ≤ n) → NewAhead (AheadHalf o) (made_half p (fits n))
unfolding fits
made_ahead o p n h = go (ltb n (2 ^ 64))
  where
    go : (b : Bool) → NewAhead (AheadHalf o) (made_half p (cond b (Ok n) (Err Overflow)))
    go true = h
    go false = tt

further_ahead : (o : ℕ) (c : Result ℕ Refusal) (n : ℕ) → ((m : ℕ) → c ≡ Ok m → 2 * o ≤ m) → NewAhead (AheadHalf o) (made_half false (further c n))
further_ahead o (Ok m) n h = go (ltb (m + n) (2 ^ 64))
  where
    go : (b : Bool) → NewAhead (AheadHalf o) (made_half false (cond b (Ok (m + n)) (Err HalfSum)))
    go true = λ e. let l : 2 * o ≤ m = h m refl in omega arith
    go false = tt
further_ahead o (Err r) n h = tt

paused_ahead : (o : ℕ) (c : Result ℕ Refusal) → NewAhead (AheadHalf o) (made_half true c)
paused_ahead o (Ok n) = λ e. absurd (true≢false e)
paused_ahead o (Err r) = tt

module _ (k k' : Clocks) (s : Time) (o : ℕ) (alike : Alike k k' s o) where
  pub half_after_lem : (now : Time) (n : ℕ) → From s now → HalfAlike o (half_after now n k.system) (half_after now n k'.system)
  unfolding half_after
  half_after_lem now n from = record {
    same = ap (λ (c : Result ℕ Refusal). made_half false (further c n)) (alike.halves now from);
    new_ahead = further_ahead o (domain_half_ticks k.system now) n (λ m e. alike.halves_from now m from e);
  }

  -- by the gate, and whether the wait is paused
  half_turned : (gate p : Bool) (n : ℕ) (now : Time) → From s now → AheadHalf o (Some (half_wait p n)) → HalfAlike o (turn_half gate now k.system (half_wait p n)) (turn_half gate now k'.system (half_wait p n))
  unfolding half_resume half_pause
  half_turned true true n now from h = half_after_lem now n from
  half_turned true false n now from h = record { same = refl; new_ahead = h }
  half_turned false true n now from h = record { same = refl; new_ahead = h }
  half_turned false false n now from h = record {
    same = ap (λ (c : Result ℕ Refusal). made_half true (left_of n c)) (alike.halves now from);
    new_ahead = paused_ahead o (left_of n (domain_half_ticks k.system now));
  }

  pub half_turn : (gate : Bool) (now : Time) (w : HalfWait) → From s now → AheadHalf o (Some w) → HalfAlike o (turn_half gate now k.system w) (turn_half gate now k'.system w)
  half_turn gate now w from h = half_turned gate w.paused w.count now from h

  half_ended : (p : Bool) (n : ℕ) → AheadHalf o (Some (half_wait p n)) → half_deadline (half_wait p n) k.system ≡ half_deadline (half_wait p n) k'.system
  unfolding half_deadline
  half_ended true n h = refl
  half_ended false n h = ap₂ (λ (b : Bool) (m : Result Time Refusal). cond b (dated m) (Ok None)) alike.runs (alike.half_edges n (h refl))

  pub half_ends : (w : Option HalfWait) → AheadHalf o w → half_end w k.system ≡ half_end w k'.system
  unfolding half_end
  half_ends None h = refl
  half_ends (Some w) h = half_ended w.paused w.count h

  -- ## Waits for edges of a tap

  started_at_lem : (t : Tap) (n : ℕ) → edge_deadline t k n ≡ edge_deadline t k' n → WaitAlike k k' (started_at t k n) (started_at t k' n)
  unfolding started_at started_by
  started_at_lem t n e = record { same = ap (started_by (wait_of t (Running n))) e; new_ahead = go (edge_deadline t k n) }
    where
      go : (d : Result (Option Time) Refusal) → NewAhead (AheadWait k k') (started_by (wait_of t (Running n)) d)
      go (Ok None) = e
      go (Ok (Some at)) = e
      go (Err r) = tt

  started_for_lem : (now : Time) (n : ℕ) (t : Tap) → From s now → 0 < n → WaitAlike k k' (started_for now n t k) (started_for now n t k')
  unfolding started_for fits
  started_for_lem now n t from pos = rw (← alike.ticks t now from) (go (tap_ticks k now t) refl)
    where
      sum : (m : ℕ) (b : Bool) → edge_deadline t k (m + n) ≡ edge_deadline t k' (m + n)
          → WaitAlike k k' (and_then (cond b (Ok (m + n)) (Err Overflow)) (started_at t k)) (and_then (cond b (Ok (m + n)) (Err Overflow)) (started_at t k'))
      sum m true e = started_at_lem t (m + n) e
      sum m false e = record { same = refl; new_ahead = tt }

      go : (c : Result ℕ Refusal) → tap_ticks k now t ≡ c
          → WaitAlike k k' (and_then c (λ m. and_then (fits (m + n)) (started_at t k))) (and_then c (λ m. and_then (fits (m + n)) (started_at t k')))
      go (Ok m) e = sum m (ltb (m + n) (2 ^ 64)) (alike.later t now m (m + n) from e (omega arith))
      go (Err r) e = record { same = refl; new_ahead = tt }

  wait_after_lem : (now : Time) (n : ℕ) (t : Tap) → From s now → WaitAlike k k' (wait_after now n t k) (wait_after now n t k')
  unfolding wait_after
  wait_after_lem now n t from = rw (alike.free, alike.free') (go (eqb t.divide 0) (eqb n 0) refl)
    where
      go : (d e : Bool) → eqb n 0 ≡ e
          → WaitAlike k k' (cond d (Err ZeroDivider) (cond e (Ok (wait_of t (Ready now))) (started_for now n t k))) (cond d (Err ZeroDivider) (cond e (Ok (wait_of t (Ready now))) (started_for now n t k')))
      go true e q = record { same = refl; new_ahead = tt }
      go false true q = record { same = refl; new_ahead = tt }
      go false false q = started_for_lem now n t from (let ne : n ≡ 0 → ⊥ = eqb-false n 0 q in omega arith)

  -- on the tap system/1, as the peripheral starts them
  pub system_wait : (now : Time) (n : ℕ) → From s now → WaitAlike k k' (system_after now n k.system) (system_after now n k'.system)
  system_wait now n from = rw (← system_after_lem k alike.free now n, ← system_after_lem k' alike.free' now n) (wait_after_lem now n (system_tap 1) from)

  -- the time of a wait, as its state has it
  wait_ended : (t : Tap) (x : WaitState) → AheadState k k' t x → wait_deadline (wait_of t x) k ≡ wait_deadline (wait_of t x) k'
  unfolding wait_deadline
  wait_ended t (Running n) h = rw (alike.free, alike.free') h
  wait_ended t (Paused n) h = rw (alike.free, alike.free')
  wait_ended t (Ready at) h = rw (alike.free, alike.free')

  pub wait_ends : (w : Option ClockWait) → AheadWait k k' w → wait_end w k ≡ wait_end w k'
  unfolding wait_end
  wait_ends None h = refl
  wait_ends (Some w) h = wait_ended w.tap w.state h

  -- a pause keeps the wait as it is, or leaves one that is paused
  left_by_lem : (t : Tap) (n : ℕ) (c : Result ℕ Refusal) → AheadState k k' t (Running n) → AheadWait k k' (Some (left_by (wait_of t (Running n)) n c).wait)
  unfolding left_at
  left_by_lem t n (Ok m) h = go (ltb n m)
    where
      go : (b : Bool) → AheadWait k k' (Some (cond b (kept (Err Reversed) (wait_of t (Running n))) (kept (Ok tt) (wait_of t (Paused (n - m))))).wait)
      go true = h
      go false = tt
  left_by_lem t n (Err r) h = h

  paused_by_lem : (t : Tap) (x : WaitState) (now : Time) → From s now → AheadState k k' t x → WaitedAlike k k' (paused_by (wait_of t x) now k x) (paused_by (wait_of t x) now k' x)
  unfolding paused_by
  paused_by_lem t (Running n) now from h = record {
    same = ap (left_by (wait_of t (Running n)) n) (alike.ticks t now from);
    ahead = left_by_lem t n (tap_ticks k now t) h;
  }
  paused_by_lem t (Paused n) now from h = record { same = refl; ahead = tt }
  paused_by_lem t (Ready at) now from h = record { same = refl; ahead = tt }

  pause : (w : ClockWait) (now : Time) → From s now → AheadWait k k' (Some w) → WaitedAlike k k' (wait_pause w now k) (wait_pause w now k')
  unfolding wait_pause
  pause w now from h = rw (← wait_ended w.tap w.state h) (go (wait_deadline w k))
    where
      by : WaitedAlike k k' (paused_by w now k w.state) (paused_by w now k' w.state)
      by = paused_by_lem w.tap w.state now from h

      unless : (b : Bool) → WaitedAlike k k' (cond b (kept (Err Reversed) w) (paused_by w now k w.state)) (cond b (kept (Err Reversed) w) (paused_by w now k' w.state))
      unless true = record { same = refl; ahead = h }
      unless false = by

      go : (d : Result (Option Time) Refusal) → WaitedAlike k k' (paused_unless w now k d) (paused_unless w now k' d)
      go (Ok None) = by
      go (Ok (Some at)) = unless (earlier at now)
      go (Err r) = record { same = refl; ahead = h }

  -- a resume keeps the wait as it is, or starts one
  resumed_as_lem : (w : ClockWait) (v v' : Result ClockWait Refusal) → AheadWait k k' (Some w) → WaitAlike k k' v v' → WaitedAlike k k' (resumed_as w v) (resumed_as w v')
  unfolding resumed_as
  resumed_as_lem w v v' h a = record { same = ap (resumed_as w) a.same; ahead = go v a.new_ahead }
    where
      go : (v : Result ClockWait Refusal) → NewAhead (AheadWait k k') v → AheadWait k k' (Some (resumed_as w v).wait)
      go (Ok u) g = g
      go (Err r) g = h

  resumed_by_lem : (t : Tap) (x : WaitState) (now : Time) → From s now → AheadState k k' t x → WaitedAlike k k' (resumed_by (wait_of t x) now k x) (resumed_by (wait_of t x) now k' x)
  resumed_by_lem t (Running n) now from h = record { same = refl; ahead = h }
  resumed_by_lem t (Paused n) now from h = resumed_as_lem (wait_of t (Paused n)) (wait_after now n t k) (wait_after now n t k') tt (wait_after_lem now n t from)
  resumed_by_lem t (Ready at) now from h = record { same = refl; ahead = tt }

  resume : (w : ClockWait) (now : Time) → From s now → AheadWait k k' (Some w) → WaitedAlike k k' (wait_resume w now k) (wait_resume w now k')
  unfolding wait_resume
  resume w now from h = rw (alike.free, alike.free') (resumed_by_lem w.tap w.state now from h)

  new_alike : (x x' : Waited) → WaitedAlike k k' x x' → WaitAlike k k' (new_wait x) (new_wait x')
  new_alike x x' a = record { same = ap (λ (y : Waited). new_wait y) a.same; new_ahead = go x.ended }
    where
      go : (e : Result ⊤ Refusal) → NewAhead (AheadWait k k') (and_then e (λ _. Ok x.wait))
      go (Ok v) = a.ahead
      go (Err r) = tt

  pub wait_turn : (gate : Bool) (now : Time) (w : ClockWait) → From s now → AheadWait k k' (Some w) → WaitAlike k k' (turn_wait gate now k w) (turn_wait gate now k' w)
  wait_turn true now w from h = new_alike _ _ (resume w now from h)
  wait_turn false now w from h = new_alike _ _ (pause w now from h)
