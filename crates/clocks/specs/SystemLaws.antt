-- Laws: in a set without a zero the half counts and the waits on the tap system/1 look at the system domain alone.
use Rattle.std.specs.Prelude.{ℕ, ◌+◌, ◌/◌, Bool, true, false, ◌&&◌, cond, ◌≡◌, refl, eqb, Option, None, Result, Ok, Err}
use Rattle.std.proofs.Math.Path.{ap}
use Rattle.std.proofs.Common.{ap₂, div-one, arith, eqb-true}
use Rattle.std.proofs.Math.Nat.{mul-one}
use Rattle.time.specs.Clock.{after_of, zero_in}
use Rattle.time.specs.Truths.{and_left, and_right, or_left}
use Rattle.refusals.specs.declared.Refusal.{Refusal}
use Rattle.refusals.specs.Refusals.{and_then}
use Rattle.time.specs.declared.Time.{Time}
use Rattle.clocks.specs.Clocks.{available_of, fed_by, has_zero, routed_edge, routed_ticks, source_of, tap_edge, tap_ticks}
use Rattle.counts.specs.Counts.{fits}
use Rattle.domain.specs.Domain.{domain_half_edge, domain_half_ticks, domain_ticks}
use Rattle.clocks.specs.Half.{half_edge, half_ticks}
use Rattle.clocks.specs.System.{domain_deadline, on_system, system_after, system_deadline, system_started_at, system_state_deadline}
use Rattle.clocks.specs.Tap.{route_of, route_s, same_tap, source_number, stage_below, stage_of, system_tap, tap_of}
use Rattle.clocks.specs.Wait.{dated, edge_deadline, started_at, started_by, started_for, state_deadline, wait_after, wait_deadline, wait_of}
use Rattle.clocks.specs.declared.Clocks.{Clocks}
use Rattle.clocks.specs.declared.tap.Route.TheVariants.{Direct}
use Rattle.clocks.specs.declared.tap.Source.{Source}
use Rattle.clocks.specs.declared.tap.Source.TheVariants.{Cpu, OnChip, Oscillator, Subclock, System, Watch}
use Rattle.clocks.specs.declared.tap.Tap.{Tap}
use Rattle.clocks.specs.declared.wait.ClockWait.{ClockWait}
use Rattle.clocks.specs.declared.wait.WaitState.{WaitState}
use Rattle.clocks.specs.declared.wait.WaitState.TheVariants.{Paused, Ready, Running}

source_system : (s : Source) → source_number s ≡ 0 → s ≡ System
source_system System e = refl
source_system Cpu e = absurd (omega (arith, e))
source_system Watch e = absurd (omega (arith, e))
source_system OnChip e = absurd (omega (arith, e))
source_system Oscillator e = absurd (omega (arith, e))
source_system Subclock e = absurd (omega (arith, e))

tap_by_lem : (t : Tap) → t.source ≡ System → t.divide ≡ 1 → t ≡ system_tap 1
tap_by_lem t p q = ap₂ tap_of p q

system_tap_lem : (t : Tap) → same_tap t (system_tap 1) ≡ true → t ≡ system_tap 1
unfolding same_tap
system_tap_lem t h =
    tap_by_lem t (source_system t.source (eqb-true (source_number t.source) 0 (and_left _ _ h)))
    (eqb-true t.divide 1 (and_right (eqb (source_number t.source) 0) _ h))

pub system_free : (k : Clocks) → has_zero k ≡ false → zero_in k.system.clock ≡ false
unfolding has_zero
system_free k h = or_left _ _ (or_left _ _ (or_left _ _ (or_left _ _ (or_left _ _ h))))

-- the tap system/1 is the source itself
direct : route_of (system_tap 1) ≡ Direct
unfolding route_of route_s stage_of stage_below
direct = refl

whole : (c : Result ℕ Refusal) → and_then c (λ n. Ok (n / 1)) ≡ c
whole (Ok n) = ap Ok (div-one n)
whole (Err r) = refl

fed : (b : Bool) (x y : Result (Option Time) Refusal) → cond (b && true) x y ≡ cond b x y
fed true x y = refl
fed false x y = refl

module _ (k : Clocks) (free : has_zero k ≡ false) where
  pub half_ticks_lem : (now : Time) → half_ticks k now ≡ domain_half_ticks k.system now
  unfolding half_ticks
  half_ticks_lem now = rw free

  pub half_edge_lem : (n : ℕ) → half_edge k n ≡ domain_half_edge k.system n
  unfolding half_edge
  half_edge_lem n = rw free

  pub system_ticks : (now : Time) → tap_ticks k now (system_tap 1) ≡ domain_ticks k.system now
  unfolding tap_ticks source_of routed_ticks
  system_ticks now = rw (free, direct) (whole (domain_ticks k.system now))

  system_edge : (n : ℕ) → tap_edge k n (system_tap 1) ≡ and_then (fits n) (after_of k.system.clock)
  unfolding tap_edge source_of routed_edge
  system_edge n = rw (free, direct, mul-one n)

  edge_deadline_lem : (n : ℕ) → edge_deadline (system_tap 1) k n ≡ domain_deadline k.system n
  unfolding edge_deadline domain_deadline available_of fed_by source_of
  edge_deadline_lem n =
      rw (free, system_edge n) (fed k.system.running (dated (and_then (fits n) (after_of k.system.clock))) (Ok None))

  started : (n : ℕ) → started_at (system_tap 1) k n ≡ system_started_at k.system n
  unfolding started_at system_started_at
  started n = ap (started_by (wait_of (system_tap 1) (Running n))) (edge_deadline_lem n)

  started_by_lem : (c : Result ℕ Refusal) → and_then c (started_at (system_tap 1) k) ≡ and_then c (system_started_at k.system)
  started_by_lem (Ok n) = started n
  started_by_lem (Err r) = refl

  counted : (n : ℕ) (c : Result ℕ Refusal)
      → and_then c (λ m. and_then (fits (m + n)) (started_at (system_tap 1) k))
      ≡ and_then c (λ m. and_then (fits (m + n)) (system_started_at k.system))
  counted n (Ok m) = started_by_lem (fits (m + n))
  counted n (Err r) = refl

  -- `ClockWait::after` on the tap system/1
  pub system_after_lem : (now : Time) (n : ℕ) → wait_after now n (system_tap 1) k ≡ system_after now n k.system
  unfolding wait_after started_for system_after
  system_after_lem now n = rw (free, system_free k free, system_ticks now, counted n (domain_ticks k.system now))

  state_deadline_lem : (s : WaitState) → state_deadline (system_tap 1) k s ≡ system_state_deadline k.system s
  state_deadline_lem (Running n) = edge_deadline_lem n
  state_deadline_lem (Paused n) = refl
  state_deadline_lem (Ready at) = refl

  -- `ClockWait::deadline` of a wait on the tap system/1
  pub system_deadline_lem : (w : ClockWait) → on_system w ≡ true → wait_deadline w k ≡ system_deadline w k.system
  unfolding wait_deadline system_deadline
  system_deadline_lem w h = rw (free, system_free k free, system_tap_lem w.tap h) (state_deadline_lem w.state)
