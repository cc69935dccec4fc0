-- Laws: what filtered levels bring to a unit that is on, `falling` and `filtered_edges`, keeps its rules. Assumes nothing.
use Rattle.std.specs.Prelude.{ℕ, ◌+◌, ◌*◌, ◌≤◌, Bool, true, ◌&&◌, cond, ◌≡◌, None, Ok, Option, Some}
use Rattle.std.proofs.Math.Bool.{false, not}
use Rattle.std.proofs.Common.{true≢false, sym, ◌∙◌, subst, arith}
use Rattle.std.proofs.Math.Path.{refl}
use Rattle.bus.specs.declared.Levels.{Levels}
use Rattle.counts.specs.Counts.{fits}
use Rattle.clocks.specs.declared.Clocks.{Clocks}
use Rattle.domain.specs.declared.Domain.{Domain}
use Rattle.frames.specs.declared.Frame.{Frame}
use Rattle.frames.specs.declared.Phase.{Phase}
use Rattle.frames.specs.declared.Phase.TheVariants.{Ack, Data, Done}
use Rattle.hosts.specs.Invariant.{Leaves}
use Rattle.hosts.specs.Left.{then_leaves, wait_leaves}
use Rattle.iic.specs.Answers.{Stepped, and_then}
use Rattle.iic.specs.Conditions.{bus_edge_of, condition_high, high_at, raised_of}
use Rattle.iic.specs.Edges.{condition_step_of, edges_from, fall_ack_of, fall_at, fall_in, fall_of, fall_on, falling_of, filtered_edges_of, insert_wait_of, longer, scl_edge_of, stretch_ends_of}
use Rattle.iic.specs.Falls.{end_frame_of, fall_taken_of, follow_of, inserts_wait}
use Rattle.iic.specs.Kick.{kick_of}
use Rattle.iic.specs.Setters.{set_clock_wait, set_synchronized_hold}
use Rattle.iic.specs.Shift.{load_transmit_of}
use Rattle.iic.specs.State.{commanded, conditioned, is_condition}
use Rattle.iic.specs.Waiting.{at_wait, clock_from, turn_clock_of}
use Rattle.iic.specs.declared.Condition.{Condition}
use Rattle.iic.specs.declared.Condition.TheVariants.{NoCondition, StartHigh, StartHold, StartRelease, StopDetect, StopHigh, StopLow, StopRelease}
use Rattle.iic.specs.declared.Hold.{Hold}
use Rattle.iic.specs.declared.Iic.{Iic}
use Rattle.time.specs.declared.Time.{Time}
use Rattle.refusals.proofs.Laws.{same_ok}
use Rattle.waits.specs.Ends.{turn_half}
use Rattle.waits.specs.Half.{half_after, half_resume, half_wait, made_half}
use Rattle.rates.specs.Rates.{period_of, rates_hold}
use Rattle.waits.specs.declared.HalfWait.{HalfWait}
use Rattle.rates.specs.declared.Rates.{Rates}
use Rattle.waits.specs.AheadLaws.{longer_ahead, longer_is}
use Rattle.time.specs.Truths.{by_cases, either, if_false}
use Rattle.wires.specs.Held.{any_condition, dropping, halve, in_condition, no_monitor, unmonitored}
use Rattle.wires.specs.Kicks.{kick, start_clock}
use Rattle.wires.specs.RuleLaws.{later_lawful, started_later}
use Rattle.wires.specs.Rules.{Keeps, LaterHalf, Lawful, Monitored, later}
use Rattle.iic.specs.TimingLaws.{bus_edge, end_frame, fall_data, fall_idle, fall_taken, follow, load, raised, rising}
use Rattle.wires.specs.Views.{View}

-- ## A half wait made longer

longer_later : (now : Time) (d : Domain) (n : ℕ) (w : HalfWait) → LaterHalf now d w → LaterHalf now d (half_wait w.paused (w.count + n))
longer_later now d n w h = record {
  ahead = longer_ahead d now w (half_wait w.paused (w.count + n)) refl h.from (at_least w.count n) h.ahead;
  from = λ p. further (h.from p);
  left = λ p. further (h.left p);
}
  where
    at_least : (a b : ℕ) → a ≤ a + b
    at_least a b = omega arith

    further : {a : ℕ} → a ≤ w.count → a ≤ w.count + n
    further p = omega arith

module _ (now : Time) (k : Clocks) (r : Rates) (holds : rates_hold r ≡ true) (v : View) where
  abbrev G : Iic → Type 0
  G s = Keeps (later now k) r v s

  abbrev To : Stepped → Type 0
  To o = Leaves (Keeps (later now k) r v) o

  L : Lawful now k.system (later now k) r
  L = later_lawful now k r holds

  -- ## `falling`

  -- the monitor's wait is still well before it
  beside_longer : (m : Option HalfWait) (w : HalfWait) (n : ℕ) (x : Condition) (h : Hold) → Monitored (later now k) m (Some w) x h → Monitored (later now k) m (Some (half_wait w.paused (w.count + n))) x h
  beside_longer None w n x h g = tt
  beside_longer (Some m) w n x h g = (
    g.0,
    record {
      runs = g.1.runs;
      clock_runs = g.1.clock_runs;
      apart = further g.1.apart;
      no_condition = g.1.no_condition;
      no_hold = g.1.no_hold;
    },
  )
    where
      further : {a : ℕ} → a ≤ w.count → a ≤ w.count + n
      further p = omega arith

  longer_keeps : (c : Option HalfWait) (s : Iic) → s.clock_wait ≡ c → G s → To (longer c s)
  longer_keeps None s e h = h
  longer_keeps (Some w) s e h =
      let n : ℕ = 4 * period_of s.rates s.registers.control in
      wait_leaves G set_clock_wait (made_half w.paused (fits (w.count + n))) s (λ u f.
      subst (λ (x : HalfWait). G (set_clock_wait (Some x) s)) (sym (longer_is w.paused (w.count + n) u f))
      (halve h (Some (half_wait w.paused (w.count + n))) s.monitor_wait s.condition s.hold
      (longer_later now k.system n w (rw e at h.clock))
      (beside_longer s.monitor_wait w n s.condition s.hold (rw e at h.monitor))))

  fall_ack : (f : Frame) (s : Iic) → G s → To (fall_ack_of f now s)
  unfolding fall_ack_of insert_wait_of
  fall_ack f s h =
      let t : Iic = fall_taken_of f now s in
      let g : G t = fall_taken (dropping L v) f now s h in
      either To (inserts_wait t) (longer_keeps t.clock_wait t refl g) g

  fall_at_lem : (p : Phase) (f : Frame) (s : Iic) → G s → To (fall_at p f now s)
  fall_at_lem Data f s h = fall_data (dropping L v) (load_transmit_of s) (load (dropping L v) s h)
  fall_at_lem Ack f s h = fall_ack f s h
  fall_at_lem Done f s h = h

  fall_in_lem : (fr : Option Frame) (s : Iic) → G s → To (fall_in fr now s)
  fall_in_lem None s h = fall_idle (dropping L v) s h
  fall_in_lem (Some f) s h = fall_at_lem f.phase f s h

  fall_on_lem : (s : Iic) → G s → To (fall_on now s)
  unfolding fall_of
  fall_on_lem s h = fall_in_lem (follow_of s).frame (follow_of s) (follow (dropping L v) s h)

  falling : (s : Iic) → G s → To (falling_of now k.system s)
  unfolding falling_of
  falling s h =
      either To (conditioned s) h
      (either To (commanded s) (kick L v s h)
      (then_leaves G G (kick_of now k.system (end_frame_of s)) (fall_on now) (kick L v (end_frame_of s) (end_frame (dropping L v) s h)) fall_on_lem))

  -- ## `filtered_edges`

  -- the monitor doesn't wait beside a paused clock
  in_pause : (m : Option HalfWait) (w : HalfWait) (x : Condition) (h : Hold) → w.paused ≡ true → Monitored (later now k) m (Some w) x h → m ≡ None
  in_pause None w x h p g = refl
  in_pause (Some m) w x h p g = absurd (true≢false (sym p ∙ g.1.clock_runs))

  -- a clock's wait goes on: what is left of it starts now
  resume_keeps : (c : Option HalfWait) (s : Iic) → s.clock_wait ≡ c → G s → To (at_wait c (λ u. clock_from (turn_half true now k.system u)) s)
  unfolding half_resume
  resume_keeps None s e h = h
  resume_keeps (Some w) s e h = wait_leaves G set_clock_wait (half_resume w now k.system) s (go w.paused refl)
    where
      clock : LaterHalf now k.system w
      clock = rw e at h.clock

      monitor : Monitored (later now k) s.monitor_wait (Some w) s.condition s.hold
      monitor = rw e at h.monitor

      go : (p : Bool) → w.paused ≡ p → (u : HalfWait) → cond w.paused (half_after now w.count k.system) (Ok w) ≡ Ok u → G (set_clock_wait (Some u) s)
      go true p u f =
          halve h (Some u) s.monitor_wait s.condition s.hold (started_later now k.system w.count u (clock.left p) (rw p at f))
          (unmonitored (later now k) s.monitor_wait (Some u) s.condition s.hold (in_pause s.monitor_wait w s.condition s.hold p monitor))
      go false p u f =
          subst (λ (x : HalfWait). G (set_clock_wait (Some x) s)) (same_ok (sym (if_false w.paused (half_after now w.count k.system) (Ok w) p) ∙ f))
          (halve h (Some w) s.monitor_wait s.condition s.hold clock monitor)

  stretch_ends : (s : Iic) → G s → To (stretch_ends_of now k.system s)
  unfolding stretch_ends_of turn_clock_of
  stretch_ends s h =
      either To (s.flags.synchronized_hold && s.lines.filtered.scl) (resume_keeps s.clock_wait (set_synchronized_hold false s) refl h) h

  high_condition : (x : Condition) (l : Levels) → high_at x l ≡ true → is_condition x ≡ true
  high_condition NoCondition l e = e
  high_condition StartRelease l e = refl
  high_condition StartHigh l e = refl
  high_condition StartHold l e = refl
  high_condition StopLow l e = refl
  high_condition StopHigh l e = refl
  high_condition StopRelease l e = refl
  high_condition StopDetect l e = refl

  condition_step : (s : Iic) → G s → To (condition_step_of now k.system s)
  unfolding condition_step_of
  condition_step s h =
      by_cases To (condition_high s)
      (λ e. let none : s.monitor_wait ≡ None = in_condition L s.monitor_wait s.clock_wait s.condition s.hold (high_condition s.condition s.lines.filtered e) h.monitor in
      start_clock L v (raised_of s) (raised no_monitor s (λ x. none)) (raised (dropping L v) s (any_condition L none h)))
      (λ e. h)

  scl_edge : (was : Bool) (s : Iic) → G s → To (scl_edge_of was now k.system s)
  unfolding scl_edge_of
  scl_edge was s h =
      either To (not was && s.lines.filtered.scl) (rising (dropping L v) s.lines.filtered.sda s h)
      (either To (was && not s.lines.filtered.scl) (falling s h) h)

  edges_from_lem : (was : Bool) (s : Iic) → G s → To (edges_from was now k.system s)
  edges_from_lem was s h =
      either To s.flags.reset h
      (then_leaves G G (and_then (stretch_ends_of now k.system s) (condition_step_of now k.system)) (scl_edge_of was now k.system)
      (then_leaves G G (stretch_ends_of now k.system s) (condition_step_of now k.system) (stretch_ends s h) condition_step) (scl_edge was))

  pub filtered_edges : (old : Levels) (s : Iic) → G s → To (filtered_edges_of old now k.system s)
  unfolding filtered_edges_of
  filtered_edges old s h = edges_from_lem old.scl (bus_edge_of old s) (bus_edge (dropping L v) old s h)
