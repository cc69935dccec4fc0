-- Laws: a state with no wait due before the new start is ahead: a wait for an edge below the new ordinal was due before it, or is refused 8. Assumes nothing.
use Rattle.std.specs.Prelude.{ℕ, ◌+◌, ◌-◌, ◌*◌, ◌/◌, ◌%◌, ◌≤◌, ◌<◌, Bool, ◌&&◌, ◌≡◌, eqb, Err, None, Ok, Option, Result, Some}
use Rattle.std.proofs.Math.Bool.{true, false, cond}
use Rattle.std.proofs.Common.{true≢false, sym, ◌∙◌, le_refl}
use Rattle.std.proofs.Math.Logic.{⊎_elim}
use Rattle.std.proofs.Math.Path.{refl, ap, ap₂, subst}
use native.Mathlib.Omega.{arith}
use Rattle.time.specs.declared.Clock.{Clock}
use Rattle.time.specs.declared.Time.{Time}
use Rattle.time.specs.Clock.{after_of, zero_in}
use Rattle.time.proofs.Laws.{lt_or_le, midway_time}
use Rattle.time.specs.Time.{time_of}
use Rattle.clocks.specs.Clocks.{available_of, fed_by, has_zero, routed_edge, source_of, tap_edge}
use Rattle.refusals.specs.Refusals.{and_then}
use Rattle.domain.specs.Domain.{domain_half_edge, odd_edge}
use Rattle.clocks.specs.Moves.{with_system}
use Rattle.clocks.specs.Tap.{route_of, system_tap, tap_of}
use Rattle.clocks.specs.Wait.{dated, edge_deadline}
use Rattle.waits.specs.Half.{half_deadline, half_wait}
use Rattle.moves.specs.Sets.{deadline_same, edge_same, idle_same, other_same}
use Rattle.clocks.specs.declared.Clocks.{Clocks}
use Rattle.clocks.specs.declared.tap.Source.{Source}
use Rattle.clocks.specs.declared.tap.Source.TheVariants.{System, Cpu, Watch, OnChip, Oscillator, Subclock}
use Rattle.clocks.specs.declared.tap.Tap.{Tap}
use Rattle.clocks.specs.declared.wait.WaitState.{WaitState}
use Rattle.clocks.specs.declared.wait.WaitState.TheVariants.{Running, Paused, Ready}
use Rattle.iic.specs.declared.Iic.{Iic}
use Rattle.moves.specs.Statement.{From, NoneBefore, NotBefore, OwnEdge, OwnHalf, OwnState, OwnWait}
use Rattle.moves.specs.Alike.{Ahead, AheadHalf, AheadState, AheadWait, ClocksAlike, Early}
use Rattle.clocks.specs.declared.wait.ClockWait.{ClockWait}
use Rattle.refusals.specs.declared.Refusal.{Refusal}
use Rattle.waits.specs.declared.HalfWait.{HalfWait}
use Rattle.refusals.specs.declared.Refusal.TheVariants.{ZeroFrequency, Reversed}

-- ## They are ahead

-- no edge is both early and not before s
not_early : (s : Time) (x : Result Time Refusal) → Early s x → NotBefore s (dated x) → ⊥
unfolding dated
not_early s (Ok t) a b = omega arith
not_early s (Err r) a b = b a

-- at s or before it, or below the clock's ordinal
abbrev Reached : Time → Result Time Refusal → Type 0
Reached s (Ok t) = From t s
Reached s (Err r) = r ≡ Reversed

early_reached : (s : Time) (x : Result Time Refusal) → Early s x → Reached s x
early_reached s (Ok t) h = omega arith
early_reached s (Err r) h = h

-- between an edge before s and the next one, which is at most s
odd_early : (s a : Time) (x : Result Time Refusal) → time_of a < time_of s → Reached s x → Early s (odd_edge a x)
unfolding odd_edge
odd_early s a (Ok b) h g = subst (λ (x : ℕ). x < time_of s) (sym (midway_time a b)) (mid (time_of a) (time_of b) (time_of s) h g)
  where
    mid : (a b s : ℕ) → a < s → b ≤ s → a + (b - a) / 2 < s
    mid a b s h g = omega arith
odd_early s a (Err r) h g = g

module _ (k : Clocks) (c : Clock) (s : Time) (o : ℕ) (zeros : zero_in k.system.clock ≡ zero_in c) (runs : k.system.running ≡ true) (clocks : ClocksAlike k.system.clock c s o) (sound : has_zero k ≡ false) where
  -- a half edge below that of the ordinal is early
  half_early : (m : ℕ) → m < 2 * o → Early s (domain_half_edge k.system m)
  unfolding domain_half_edge
  half_early m less = go (after_of k.system.clock (m / 2)) (clocks.before (m / 2) (omega arith))
    where
      next : Reached s (after_of k.system.clock (m / 2 + 1))
      next = ⊎_elim
          (λ h. early_reached s (after_of k.system.clock (m / 2 + 1)) (clocks.before (m / 2 + 1) h))
          (λ h. let e : m / 2 + 1 ≡ o = omega arith in subst (Reached s) (sym (ap (after_of k.system.clock) e ∙ clocks.start)) (le_refl (time_of s)))
          (lt_or_le (m / 2 + 1) o)

      odd : (b : Bool) (a : Time) → time_of a < time_of s → Early s (cond b (Ok a) (odd_edge a (after_of k.system.clock (m / 2 + 1))))
      odd true a h = h
      odd false a h = odd_early s a (after_of k.system.clock (m / 2 + 1)) h next

      go : (x : Result Time Refusal) → Early s x → Early s (and_then x (λ a. cond (eqb (m % 2) 0) (Ok a) (odd_edge a (after_of k.system.clock (m / 2 + 1)))))
      go (Ok a) h = odd (eqb (m % 2) 0) a h
      go (Err r) h = h

  available_is : (d : ℕ) (b : Bool) → (k.system.running && fed_by k System d) ≡ b → available_of k (system_tap d) ≡ Ok b
  unfolding available_of source_of
  available_is d b e = ap₂ (λ (z x : Bool). cond z (Err ZeroFrequency) (Ok x)) sound e

  own_half_lem : (p : Bool) (n : ℕ) → NotBefore s (half_deadline (half_wait p n) k.system) → AheadHalf o (Some (half_wait p n))
  unfolding half_deadline
  own_half_lem true n h e = absurd (true≢false e)
  own_half_lem false n h e = ⊎_elim (λ less. absurd (not_early s (domain_half_edge k.system n) (half_early n less) own)) (λ le. le) (lt_or_le n (2 * o))
    where
      own : NotBefore s (dated (domain_half_edge k.system n))
      own = subst (λ (b : Bool). NotBefore s (cond b (dated (domain_half_edge k.system n)) (Ok None))) runs h

  -- where the tap is available, its edge is that of the system clock
  own_edge_lem : (d n : ℕ) → NotBefore s (edge_deadline (system_tap d) k n) → edge_deadline (system_tap d) k n ≡ edge_deadline (system_tap d) (with_system c k) n
  unfolding edge_deadline tap_edge source_of
  own_edge_lem d n h = go (k.system.running && fed_by k System d) refl
    where
      is_edge : (k.system.running && fed_by k System d) ≡ true → (x : ℕ) → routed_edge k d n (route_of (system_tap d)) ≡ Ok x → edge_deadline (system_tap d) k n ≡ dated (after_of k.system.clock x)
      is_edge e x f =
          ap (λ (v : Result Bool Refusal). and_then v (λ b. cond b (dated (tap_edge k n (system_tap d))) (Ok None))) (available_is d true e)
          ∙ ap₂ (λ (z : Bool) (y : Result ℕ Refusal). dated (cond z (Err ZeroFrequency) (and_then y (after_of k.system.clock)))) sound f

      same : (k.system.running && fed_by k System d) ≡ true → (x : ℕ) → routed_edge k d n (route_of (system_tap d)) ≡ Ok x → after_of k.system.clock x ≡ after_of c x
      same e x f = ⊎_elim
          (λ less. absurd (not_early s (after_of k.system.clock x) (clocks.before x less) (subst (NotBefore s) (is_edge e x f) h)))
          (λ le. clocks.edges x le)
          (lt_or_le x o)

      go : (b : Bool) → (k.system.running && fed_by k System d) ≡ b → edge_deadline (system_tap d) k n ≡ edge_deadline (system_tap d) (with_system c k) n
      go true e = deadline_same k c s o zeros runs clocks System d n (edge_same k c s o zeros runs clocks (system_tap d) n (same e))
      go false e = idle_same k c s o zeros runs clocks d n e

  own_running : (x : Source) (d n : ℕ) → OwnEdge k s x d n → edge_deadline (tap_of x d) k n ≡ edge_deadline (tap_of x d) (with_system c k) n
  own_running System d n h = own_edge_lem d n h
  own_running Cpu d n h = other_same k c s o zeros runs clocks Cpu d n tt
  own_running Watch d n h = other_same k c s o zeros runs clocks Watch d n tt
  own_running OnChip d n h = other_same k c s o zeros runs clocks OnChip d n tt
  own_running Oscillator d n h = other_same k c s o zeros runs clocks Oscillator d n tt
  own_running Subclock d n h = other_same k c s o zeros runs clocks Subclock d n tt

  half_ahead : (w : Option HalfWait) → OwnHalf k s w → AheadHalf o w
  half_ahead None h = tt
  half_ahead (Some w) h = own_half_lem w.paused w.count h

  state_ahead : (t : Tap) (x : WaitState) → OwnState k s t x → AheadState k (with_system c k) t x
  state_ahead t (Running n) h = own_running t.source t.divide n h
  state_ahead t (Paused n) h = tt
  state_ahead t (Ready at) h = tt

  wait_ahead : (w : Option ClockWait) → OwnWait k s w → AheadWait k (with_system c k) w
  wait_ahead None h = tt
  wait_ahead (Some w) h = state_ahead w.tap w.state h

  pub own_ahead : (u : Iic) → NoneBefore k s u → Ahead k (with_system c k) o u
  own_ahead u h =
      (half_ahead u.clock_wait h.0, half_ahead u.monitor_wait h.1, wait_ahead u.filter_wait h.2, wait_ahead u.setup_wait h.3)
