-- Laws: what the waits of the setup, of the monitor and of the clock bring to a unit that is on keeps its rules. The clock's wait is due only where the monitor
-- doesn't wait, and is paused with something left. Assumes nothing.
use Prim.Native.Nat.{ℕ, ◌+◌, ◌-◌, ◌≤◌, ◌<◌}
use Rattle.std.proofs.Math.Bool.{true, false, not}
use Rattle.std.specs.Prelude.{◌&&◌, Bool, Err, None, Ok, Option, Result, Some, false, true}
use Rattle.std.proofs.Common.{true≢false, sym, ap, ◌∙◌}
use Rattle.std.proofs.Math.Path.{◌≡◌, refl, subst}
use native.Mathlib.Omega.{arith}
use Rattle.clocks.specs.declared.Clocks.{Clocks}
use Rattle.hosts.specs.Invariant.{Leaves}
use Rattle.hosts.specs.Left.{leaves_more, then_leaves, wait_leaves}
use Rattle.iic.specs.Answers.{Stepped, and_then, fine}
use Rattle.iic.specs.Clocking.{clock_step_of, fire_clock_of, fire_monitor_of, fire_setup_of, firing, monitor_step_of, stretch_of, toggle_of}
use Rattle.iic.specs.Conditions.{clocked_of, is_start_hold}
use Rattle.iic.specs.Kick.{kick_of}
use Rattle.iic.specs.Setters.{set_clock_wait, set_monitor_wait, set_setup_wait, set_synchronized_hold}
use Rattle.iic.specs.State.{conditioned, drive_scl, held, is_condition, is_hold, master}
use Rattle.iic.specs.Waiting.{at_wait, clock_from, start_clock_of, start_monitor_of, turn_clock_of}
use Rattle.iic.specs.declared.Condition.{Condition}
use Rattle.iic.specs.declared.Hold.{Hold}
use Rattle.iic.specs.declared.Iic.{Iic}
use Rattle.time.specs.Time.{time_of}
use Rattle.time.specs.Truths.{and_right, by_cases, either, not_so}
use Rattle.time.specs.declared.Time.{Time}
use Rattle.waits.specs.Ends.{due_of, half_end, turn_half, wait_end}
use Rattle.waits.specs.Half.{half_after, half_deadline, half_pause, half_wait}
use Rattle.rates.specs.Rates.{monitor_halves, period_of}
use Rattle.waits.specs.declared.HalfWait.{HalfWait}
use Rattle.rates.specs.declared.Rates.{Rates}
use Rattle.waits.specs.AheadLaws.{counted_at_end, ends_first, half_started, never_not_at, paused_ahead, paused_is}
use Rattle.waits.proofs.DueLaws.{at_due, due_now}
use Rattle.refusals.proofs.Laws.{same_ok}
use Rattle.wires.specs.Held.{accepted, any_condition, dropping, halve, no_monitor, prepare, unmonitored}
use Rattle.wires.specs.Kicks.{start_clock, then_kick}
use Rattle.rates.proofs.LengthLaws.{monitor_some, period_some}
use Rattle.wires.specs.RuleLaws.{later_lawful, no_wait_ahead, started_later}
use Rattle.wires.specs.Rules.{Keeps, LaterMonitor, Lawful, Monitored, Spaced, later}
use Rattle.wires.specs.Statement.{InWord}
use Rattle.iic.specs.TimingLaws.{clocked}
use Rattle.wires.specs.Views.{View}
use Rattle.refusals.specs.declared.Refusal.{Refusal}

module _ (now : Time) (k : Clocks) (r : Rates) (spaced : Spaced r) (v : View) where
  abbrev G : Iic → Type 0
  G s = Keeps (later now k) r v s

  abbrev To : Stepped → Type 0
  To o = Leaves (Keeps (later now k) r v) o

  L : Lawful now k.system (later now k) r
  L = later_lawful now k r spaced.accepted

  -- ## The setup's wait

  fire_setup : (s : Iic) → G s → To (fire_setup_of (wait_end s.setup_wait k) now s)
  unfolding fire_setup_of
  fire_setup s h = go (due_of (wait_end s.setup_wait k) now)
    where
      go : (d : Result Bool Refusal) → To (firing d s (fine (set_setup_wait None (drive_scl true s))))
      go (Ok true) = prepare h None (no_wait_ahead now k)
      go (Ok false) = h
      go (Err n) = tt

  -- ## The monitor's wait

  -- it isn't due, since it was looked at before or doesn't run
  abbrev Undue : Iic → Type 0
  Undue s = due_of (half_end s.monitor_wait k.system) now ≡ Ok true → ⊥

  abbrev Unmonitored : Iic → Type 0
  Unmonitored s = G s × (s.monitor_wait ≡ None)

  none_undue : (m : Option HalfWait) → m ≡ None → due_of (half_end m k.system) now ≡ Ok true → ⊥
  unfolding half_end
  none_undue None e f = never_not_at (due_now (Ok None) now f).1
  none_undue (Some w) e f = let z : ◌≡◌ {A = ℕ} 0 1 = cc in omega arith

  -- the clock's wait, which comes well after the monitor's, is paused at the time of that with something left
  pause_keeps : InWord k → (w : HalfWait) (u : Time) → half_deadline w k.system ≡ Ok (Some u) → time_of u ≡ time_of now
      → (c : Option HalfWait) (s : Iic) → s.monitor_wait ≡ None → LaterMonitor now k.system w c s.condition s.hold → G s
      → Leaves Unmonitored (at_wait c (λ u. clock_from (turn_half false now k.system u)) s)
  pause_keeps word w u e is None s none g h = absurd g
  pause_keeps word w u e is (Some c) s none g h =
      wait_leaves Unmonitored set_clock_wait (half_pause c now k.system) s (λ n i.
      let left = paused_is k.system c n now g.1.clock_runs i in
      let few : left.0 ≤ w.count + 2 = counted_at_end k.system word now left.0 w u e is left.1 in
      subst (λ (x : HalfWait). Unmonitored (set_clock_wait (Some x) s)) (sym left.2) (
        halve h (Some (half_wait true (c.count - left.0))) s.monitor_wait s.condition s.hold record {
          ahead = paused_ahead k.system now (half_wait true (c.count - left.0)) refl;
          from = λ p. absurd (true≢false p);
          left = λ p. some left.0 w.count c.count few g.1.apart;
        } (unmonitored (later now k) s.monitor_wait (Some (half_wait true (c.count - left.0))) s.condition s.hold none),
        none,
      ))
    where
      some : (t a c : ℕ) → t ≤ a + 2 → a + 3 ≤ c → 0 < c - t
      some t a c p q = omega arith

  stretch_keeps : InWord k → (w : HalfWait) (u : Time) → half_deadline w k.system ≡ Ok (Some u) → time_of u ≡ time_of now
      → (s : Iic) → s.monitor_wait ≡ None → LaterMonitor now k.system w s.clock_wait s.condition s.hold → G s
      → Leaves Unmonitored (stretch_of now k.system s)
  unfolding stretch_of turn_clock_of
  stretch_keeps word w u e is s none g h =
      either (Leaves Unmonitored) s.lines.filtered.scl (h, none)
      (then_leaves Unmonitored Unmonitored (turn_clock_of false now k.system s) (λ t. fine (set_synchronized_hold true t))
      (pause_keeps word w u e is s.clock_wait s none g h) (λ t i. i))

  fire_monitor : InWord k → (s : Iic) → G s → Leaves (λ t. G t × Undue t) (fire_monitor_of now k.system s)
  unfolding fire_monitor_of half_end
  fire_monitor word s h = go s.monitor_wait refl (due_of (half_end s.monitor_wait k.system) now) refl
    where
      go : (m : Option HalfWait) → s.monitor_wait ≡ m → (d : Result Bool Refusal) → due_of (half_end s.monitor_wait k.system) now ≡ d
          → Leaves (λ t. G t × Undue t) (firing d s (stretch_of now k.system (set_monitor_wait None s)))
      go m e (Ok false) f = (h, λ g. let z : ◌≡◌ {A = ℕ} 0 1 = cc in omega arith)
      go m e (Err n) f = tt
      go None e (Ok true) f = absurd (none_undue s.monitor_wait e f)
      go (Some w) e (Ok true) f =
          let at = due_now (half_deadline w k.system) now (subst (λ (m : Option HalfWait). due_of (half_end m k.system) now ≡ Ok true) e f) in
          let g : LaterMonitor now k.system w s.clock_wait s.condition s.hold = subst (λ (m : Option HalfWait). Monitored (later now k) m s.clock_wait s.condition s.hold) e h.monitor in
          leaves_more Unmonitored (λ t. G t × Undue t) (stretch_of now k.system (set_monitor_wait None s))
          (stretch_keeps word w at.0 at.1 at.2 (set_monitor_wait None s) refl g (halve h s.clock_wait None s.condition s.hold h.clock tt))
          (λ t i. (i.0, none_undue t.monitor_wait i.1))

  -- ## The clock's wait

  -- where it is due the monitor doesn't wait: its time, not after it, would have come before in the same visit
  no_monitor_due : (m : Option HalfWait) (c : HalfWait) (x : Condition) (h : Hold) (u : Time) → half_deadline c k.system ≡ Ok (Some u) → time_of u ≡ time_of now
      → Monitored (later now k) m (Some c) x h → (due_of (half_end m k.system) now ≡ Ok true → ⊥) → m ≡ None
  unfolding half_end
  no_monitor_due None c x h u e is g f = refl
  no_monitor_due (Some w) c x h u e is g f =
      let first = ends_first k.system w c g.1.runs (g.0.from g.1.runs) (near w.count g.1.apart) u e in
      absurd (f (at_due (half_deadline w k.system) first.0 now first.1 (meet first.2 is (g.0.ahead first.0 first.1))))
    where
      near : (a : ℕ) {b : ℕ} → a + 3 ≤ b → a ≤ b
      near a p = omega arith

      meet : {t u n : ℕ} → t ≤ u → u ≡ n → n ≤ t → t ≡ n
      meet p q s = omega arith

  -- the clock's wait was started now, with no condition and no hold
  record Started (t : Iic) : Type 0 where
    keeps : Keeps (later now k) r v t
    wait : HalfWait
    waits : t.clock_wait ≡ Some wait
    made_now : half_after now (period_of t.rates t.registers.control) k.system ≡ Ok wait
    no_condition : is_condition t.condition ≡ false
    no_hold : is_hold t.hold ≡ false

  -- the monitor's wait is started beside it, from the same half count on
  beside : (t : Iic) (g : Started t) (w : HalfWait) → half_after now (monitor_halves t.rates t.registers.control) k.system ≡ Ok w
      → LaterMonitor now k.system w t.clock_wait t.condition t.hold
  beside t g w f =
      let control : ℕ = t.registers.control in
      let mine = half_started k.system now (monitor_halves t.rates control) w f in
      let its = half_started k.system now (period_of t.rates control) g.wait g.made_now in
      let one : mine.0 ≡ its.0 = same_ok (sym mine.1 ∙ its.1) in
      let gap : monitor_halves t.rates control + 3 ≤ period_of t.rates control = subst (λ (x : Rates). monitor_halves x control + 3 ≤ period_of x control) (sym g.keeps.rates) (spaced.apart control) in
      subst (λ (c : Option HalfWait). LaterMonitor now k.system w c t.condition t.hold) (sym g.waits) (
        started_later now k.system (monitor_halves t.rates control) w (monitor_some t.rates (accepted L g.keeps) control) f,
        record {
          runs = ap (λ (x : HalfWait). x.paused) mine.2;
          clock_runs = ap (λ (x : HalfWait). x.paused) its.2;
          apart = sums mine.0 its.0 (monitor_halves t.rates control) (period_of t.rates control) one gap (ap (λ (x : HalfWait). x.count) mine.2) (ap (λ (x : HalfWait). x.count) its.2);
          no_condition = g.no_condition;
          no_hold = g.no_hold;
        },
      )
    where
      sums : (a b m p : ℕ) {x y : ℕ} → a ≡ b → m + 3 ≤ p → x ≡ a + m → y ≡ b + p → x + 3 ≤ y
      sums a b m p e f g h = omega arith

  monitor_step : (t : Iic) → Started t → To (monitor_step_of now k.system t)
  unfolding monitor_step_of start_monitor_of
  monitor_step t g =
      either To t.lines.drive.scl
      (wait_leaves G set_monitor_wait (half_after now (monitor_halves t.rates t.registers.control) k.system) t (λ w f.
      halve g.keeps t.clock_wait (Some w) t.condition t.hold g.keeps.clock (beside t g w f)))
      (halve g.keeps t.clock_wait None t.condition t.hold g.keeps.clock tt)

  -- SCL changes its level
  toggle : (s : Iic) → is_condition s.condition ≡ false → s.monitor_wait ≡ None → G s → To (toggle_of now k.system s)
  unfolding toggle_of start_clock_of
  toggle s free none h =
      let period : ℕ = period_of s.rates s.registers.control in
      let t : Iic = drive_scl (not s.lines.drive.scl) s in
      by_cases To (master s && not (held s))
      (λ e. then_leaves Started G (start_clock_of now k.system t) (monitor_step_of now k.system)
      (wait_leaves Started set_clock_wait (half_after now period k.system) t (λ c f. record {
        keeps = halve h (Some c) s.monitor_wait s.condition s.hold (started_later now k.system period c (period_some s.rates (accepted L h) s.registers.control) f) (unmonitored (later now k) s.monitor_wait (Some c) s.condition s.hold none);
        wait = c;
        waits = refl;
        made_now = f;
        no_condition = free;
        no_hold = not_so (held s) (and_right (master s) (not (held s)) e);
      }))
      monitor_step)
      (λ e. h)

  clock_step : (s : Iic) → s.monitor_wait ≡ None → G s → To (clock_step_of now k.system s)
  unfolding clock_step_of
  clock_step s none h =
      let g : G (clocked_of s) = clocked (dropping L v) s (any_condition L none h) in
      by_cases To (not (conditioned s))
      (λ e. toggle s (not_so (conditioned s) e) none h)
      (λ e. either To (is_start_hold s.condition) (start_clock L v (clocked_of s) (clocked no_monitor s (λ x. none)) g) g)

  fire_clock : (s : Iic) → G s × Undue s → To (fire_clock_of now k.system s)
  unfolding fire_clock_of half_end
  fire_clock s h = go s.clock_wait refl (due_of (half_end s.clock_wait k.system) now) refl
    where
      go : (c : Option HalfWait) → s.clock_wait ≡ c → (d : Result Bool Refusal) → due_of (half_end s.clock_wait k.system) now ≡ d
          → To (firing d s (clock_step_of now k.system (set_clock_wait None s)))
      go c e (Ok false) f = h.0
      go c e (Err n) f = tt
      go None e (Ok true) f = absurd (none_undue s.clock_wait e f)
      go (Some c) e (Ok true) f =
          let at = due_now (half_deadline c k.system) now (subst (λ (x : Option HalfWait). due_of (half_end x k.system) now ≡ Ok true) e f) in
          let g : Monitored (later now k) s.monitor_wait (Some c) s.condition s.hold = rw e at h.0.monitor in
          let none : s.monitor_wait ≡ None = no_monitor_due s.monitor_wait c s.condition s.hold at.0 at.1 at.2 g h.1 in
          clock_step (set_clock_wait None s) none
          (halve h.0 None s.monitor_wait s.condition s.hold tt (unmonitored (later now k) s.monitor_wait None s.condition s.hold none))

  -- ## All that follows the filter's wait in a visit

  pub others : InWord k → (o : Stepped) → To o
      → To (and_then (and_then (and_then (and_then o (λ u. fire_setup_of (wait_end u.setup_wait k) now u)) (fire_monitor_of now k.system)) (fire_clock_of now k.system)) (kick_of now k.system))
  others word o h =
      let o2 : Stepped = and_then o (λ u. fire_setup_of (wait_end u.setup_wait k) now u) in
      let o3 : Stepped = and_then o2 (fire_monitor_of now k.system) in
      then_kick L v (and_then o3 (fire_clock_of now k.system))
      (then_leaves (λ t. G t × Undue t) G o3 (fire_clock_of now k.system)
      (then_leaves G (λ t. G t × Undue t) o2 (fire_monitor_of now k.system)
      (then_leaves G G o (λ u. fire_setup_of (wait_end u.setup_wait k) now u) h fire_setup) (fire_monitor word)) fire_clock)
