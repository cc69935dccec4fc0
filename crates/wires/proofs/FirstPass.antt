-- Laws: after its first pass, from the default, a unit that was on when it came to the reports is sound. In that pass it may be switched on and off.
-- Assumes nothing.
use Rattle.std.specs.Prelude.{ℕ, ◌-◌, ◌<◌, Bool, ◌&&◌, cond, List, [], ◌∷◌, ◌≡◌, ltb, Err, None, Ok, Option, Result, Some, ⊤}
use Rattle.std.proofs.Math.Bool.{true, false}
use Rattle.std.specs.Bool.{beq}
use Rattle.std.proofs.Common.{true≢false, sym, ◌∙◌, arith}
use Rattle.std.proofs.Math.Path.{refl, subst}
use Rattle.clocks.specs.Clocks.{has_zero, tap_ticks}
use Rattle.domain.specs.Domain.{domain_ticks}
use Rattle.clocks.specs.SystemLaws.{system_after_lem, system_ticks}
use Rattle.clocks.specs.Tap.{system_tap}
use Rattle.clocks.specs.Wait.{left_at, paused_by, paused_unless, resumed_as, resumed_by, wait_after, wait_deadline, wait_pause, wait_resume}
use Rattle.clocks.specs.declared.Clocks.{Clocks}
use Rattle.clocks.specs.declared.tap.Tap.{Tap}
use Rattle.clocks.specs.declared.wait.ClockWait.{ClockWait}
use Rattle.clocks.specs.declared.wait.WaitState.{WaitState}
use Rattle.clocks.specs.declared.wait.WaitState.TheVariants.{Running, Paused, Ready}
use Rattle.clocks.specs.declared.wait.Waited.{Waited}
use Rattle.hosts.specs.Calls.{is_now, outcome_of}
use Rattle.hosts.specs.Invariant.{Leaves}
use Rattle.hosts.specs.Left.{byte_refused, guarded_left, then_leaves, wait_leaves}
use Rattle.iic.specs.Answers.{Stepped, and_then, guarded}
use Rattle.iic.specs.Calls.{deadline_of, guard_by, keep_stretched_of, peek_of, read_of, set_gate_of, turn_gate_of, turn_waits_of, write_of}
use Rattle.iic.specs.Reading.{read_at}
use Rattle.registers.specs.Registers.{register_at}
use Rattle.iic.specs.Setters.{set_clock_wait, set_gate, set_setup_wait}
use Rattle.iic.specs.State.{default_iic, initial}
use Rattle.iic.specs.Waiting.{at_wait, clock_from, filter_from, monitor_from, schedule_filter_of, setup_from, turn_clock_of, turn_filter_of, turn_monitor_of, turn_setup_of, wait_from}
use Rattle.iic.specs.Writing.{write_at}
use Rattle.iic.specs.declared.Condition.{Condition}
use Rattle.iic.specs.declared.Hold.{Hold}
use Rattle.iic.specs.declared.Iic.{Iic}
use Rattle.time.specs.Time.{earlier}
use Rattle.time.specs.declared.Time.{Time}
use Rattle.waits.specs.Ends.{due_of, new_wait, turn_half, turn_wait}
use Rattle.waits.specs.Half.{half_after, half_pause, half_resume}
use Rattle.rates.specs.Rates.{default_rates}
use Rattle.waits.specs.declared.HalfWait.{HalfWait}
use Rattle.waits.specs.AheadLaws.{paused_is}
use Rattle.time.specs.Truths.{by_cases, either, if_false, if_true}
use Rattle.refusals.proofs.Laws.{err_not_ok, same_ok}
use Rattle.refusals.specs.Refusals.{and_then as if_ok}
use Rattle.wires.specs.Held.{halve, prepare}
use Rattle.wires.specs.Kicks.{schedule_rests, then_kick}
use Rattle.wires.proofs.Passes.{report_sound}
use Rattle.wires.specs.Registers.{read_keeps, write_keeps}
use Rattle.wires.specs.RuleLaws.{clock_later, default_spaced, first_clock_lem, first_wait_lem, monitor_later, no_wait_ahead, setup_later, starting_lawful}
use Rattle.wires.specs.Rules.{FirstClock, FirstHalf, FirstSetup, FirstState, FirstWait, Keeps, Lawful, Monitored, Sound, starting}
use Rattle.wires.specs.Units.{Answered, First, Line, LinesAnswered, On, Turn, after, call_at, gate, named, passed, played, read, untold, visited, write}
use Rattle.wires.specs.Views.{default_view, told}
use Rattle.refusals.specs.declared.Refusal.{Refusal}

-- less than what a running wait is for was counted
left_some : (t m n : ℕ) → t ≡ m → m < n → 0 < n - t
left_some t m n f g = omega arith

-- ## The gate

module _ (now : Time) (k : Clocks) where
  abbrev G : Iic → Type 0
  G s = Keeps (starting now k.system) default_rates default_view s

  L : Lawful now k.system (starting now k.system) default_rates
  L = starting_lawful now k.system default_rates default_spaced.accepted

  -- the clock's wait
  resumed_half : (p : Bool) (w u : HalfWait) → w.paused ≡ p → FirstHalf now k.system p w.count → half_resume w now k.system ≡ Ok u
      → FirstHalf now k.system u.paused u.count
  unfolding half_resume
  resumed_half true w u p h e = first_clock_lem now k.system w.count u h (sym (if_true w.paused (half_after now w.count k.system) (Ok w) p) ∙ e)
  resumed_half false w u p h e =
      subst (λ (x : HalfWait). FirstHalf now k.system x.paused x.count) (same_ok (sym (if_false w.paused (half_after now w.count k.system) (Ok w) p) ∙ e))
      (subst (λ (b : Bool). FirstHalf now k.system b w.count) (sym p) h)

  paused_half : (p : Bool) (w u : HalfWait) → w.paused ≡ p → FirstHalf now k.system p w.count → half_pause w now k.system ≡ Ok u
      → FirstHalf now k.system u.paused u.count
  unfolding half_pause
  paused_half true w u p h e =
      subst (λ (x : HalfWait). FirstHalf now k.system x.paused x.count) (same_ok (sym (if_true w.paused (Ok w) _ p) ∙ e))
      (subst (λ (b : Bool). FirstHalf now k.system b w.count) (sym p) h)
  paused_half false w u p h e =
      let left = paused_is k.system w u now p e in
      subst (λ (x : HalfWait). FirstHalf now k.system x.paused x.count) (sym left.2) (left_some left.0 h.0 w.count (same_ok (sym left.1 ∙ h.1)) h.2)

  turned_half : (on : Bool) (w u : HalfWait) → FirstHalf now k.system w.paused w.count → turn_half on now k.system w ≡ Ok u
      → FirstHalf now k.system u.paused u.count
  turned_half true w u h e = resumed_half w.paused w u refl h e
  turned_half false w u h e = paused_half w.paused w u refl h e

  -- the monitor doesn't wait, whatever the clock does
  no_monitor : (m c d : Option HalfWait) (x : Condition) (h : Hold) → Monitored (starting now k.system) m c x h → Monitored (starting now k.system) m d x h
  no_monitor None c d x h g = tt
  no_monitor (Some w) c d x h g = absurd g

  turn_clock : (on : Bool) (c : Option HalfWait) (s : Iic) → s.clock_wait ≡ c → G s → Leaves G (at_wait c (λ u. clock_from (turn_half on now k.system u)) s)
  turn_clock on None s e h = h
  turn_clock on (Some w) s e h =
      wait_leaves G set_clock_wait (turn_half on now k.system w) s (λ u f.
      halve h (Some u) s.monitor_wait s.condition s.hold (turned_half on w u (subst (FirstClock now k.system) e h.clock) f)
      (no_monitor s.monitor_wait s.clock_wait (Some u) s.condition s.hold h.monitor))

  turn_monitor : (on : Bool) (m : Option HalfWait) (s : Iic) → s.monitor_wait ≡ m → G s → Leaves G (at_wait m (λ u. monitor_from (turn_half on now k.system u)) s)
  turn_monitor on None s e h = h
  turn_monitor on (Some w) s e h = absurd (subst (λ (m : Option HalfWait). Monitored (starting now k.system) m s.clock_wait s.condition s.hold) e h.monitor)

  -- the setup's wait, whatever the pause or the resume answers
  restarted : (free : has_zero k ≡ false) (n : ℕ) (w : ClockWait) → FirstWait now k.system w → 0 < n → (x : Result ClockWait Refusal) → wait_after now n w.tap k ≡ x
      → FirstWait now k.system (resumed_as w x).wait
  unfolding resumed_as
  restarted free n w h pos (Ok u) e =
      first_wait_lem now k.system n u pos (sym (system_after_lem k free now n) ∙ subst (λ (t : Tap). wait_after now n t k ≡ Ok u) h.0 e)
  restarted free n w h pos (Err r) e = h

  resumed_wait : (w : ClockWait) → FirstWait now k.system w → FirstWait now k.system (wait_resume w now k).wait
  unfolding wait_resume
  resumed_wait w h = by_cases (λ (x : Waited). FirstWait now k.system x.wait) (has_zero k) (λ e. h) (λ e. go e w.state h.1)
    where
      go : has_zero k ≡ false → (x : WaitState) → FirstState now k.system x → FirstWait now k.system (resumed_by w now k x).wait
      go e (Running n) g = h
      go e (Paused n) g = restarted e n w h g (wait_after now n w.tap k) refl
      go e (Ready at) g = h

  -- counted on the system clock itself
  counted : (w : ClockWait) (m : ℕ) → w.tap ≡ system_tap 1 → tap_ticks k now w.tap ≡ Ok m → domain_ticks k.system now ≡ Ok m
  unfolding tap_ticks
  counted w m t e = go (has_zero k) refl
    where
      f : tap_ticks k now (system_tap 1) ≡ Ok m
      f = subst (λ (x : Tap). tap_ticks k now x ≡ Ok m) t e

      go : (z : Bool) → has_zero k ≡ z → domain_ticks k.system now ≡ Ok m
      go true g = absurd (err_not_ok (rw g at f))
      go false g = sym (system_ticks k g now) ∙ f

  paused_wait : (w : ClockWait) → FirstWait now k.system w → FirstWait now k.system (wait_pause w now k).wait
  unfolding wait_pause paused_by left_at
  paused_wait w h = go (wait_deadline w k)
    where
      by : (x : WaitState) → FirstState now k.system x → FirstWait now k.system (paused_by w now k x).wait
      by (Running n) g = run (tap_ticks k now w.tap) refl
        where
          run : (c : Result ℕ Refusal) → tap_ticks k now w.tap ≡ c → FirstWait now k.system (paused_by w now k (Running n)).wait
          run (Err r) e = rw e h
          run (Ok m) e =
              rw e (either (λ (x : Waited). FirstWait now k.system x.wait) (ltb n m) h
              (h.0, left_some m g.0 n (same_ok (sym (counted w m h.0 e) ∙ g.1)) g.2))
      by (Paused n) g = h
      by (Ready at) g = absurd g

      go : (d : Result (Option Time) Refusal) → FirstWait now k.system (paused_unless w now k d).wait
      go (Ok None) = by w.state h.1
      go (Ok (Some at)) = either (λ (x : Waited). FirstWait now k.system x.wait) (earlier at now) h (by w.state h.1)
      go (Err r) = h

  -- what a pause or a resume leaves is the state's, unless it is refused
  waited_keeps : (x : Waited) (s : Iic) → FirstWait now k.system x.wait → G s → Leaves G (wait_from set_setup_wait (new_wait x) s)
  waited_keeps x s g h = go x.ended
    where
      go : (e : Result ⊤ Refusal) → Leaves G (wait_from set_setup_wait (if_ok e (λ _. Ok x.wait)) s)
      go (Ok v) = prepare h (Some x.wait) g
      go (Err n) = tt

  turn_setup : (on : Bool) (w : Option ClockWait) (s : Iic) → s.setup_wait ≡ w → G s → Leaves G (at_wait w (λ u. setup_from (turn_wait on now k u)) s)
  turn_setup on None s e h = h
  turn_setup on (Some w) s e h =
      let x : Waited = cond on (wait_resume w now k) (wait_pause w now k) in
      let f : FirstWait now k.system w = subst (FirstSetup now k.system) e h.setup in
      let g : FirstWait now k.system x.wait = either (λ (y : Waited). FirstWait now k.system y.wait) on (resumed_wait w f) (paused_wait w f) in
      waited_keeps x s g h

  -- clock, monitor, a stretched clock, filter, setup; the filter doesn't wait
  turn_waits : (on : Bool) (s : Iic) → G s → Leaves G (turn_waits_of on now k s)
  unfolding turn_waits_of turn_clock_of turn_monitor_of keep_stretched_of turn_filter_of turn_setup_of
  turn_waits on s h =
      let o1 : Stepped = turn_clock_of on now k.system s in
      let o2 : Stepped = and_then o1 (turn_monitor_of on now k.system) in
      let o3 : Stepped = and_then o2 (keep_stretched_of on now k.system) in
      let o4 : Stepped = and_then o3 (turn_filter_of on now k) in
      then_leaves G G o4 (turn_setup_of on now k)
      (then_leaves G G o3 (turn_filter_of on now k)
      (then_leaves G G o2 (keep_stretched_of on now k.system)
      (then_leaves G G o1 (turn_monitor_of on now k.system) (turn_clock on s.clock_wait s refl h) (λ t g. turn_monitor on t.monitor_wait t refl g))
      (λ t g. either (Leaves G) (on && t.flags.synchronized_hold) (turn_clock false t.clock_wait t refl g) g))
      (λ t g. subst (λ (w : Option ClockWait). Leaves G (at_wait w (λ u. filter_from (turn_wait on now k u)) t)) (sym g.filter) g))
      (λ t g. turn_setup on t.setup_wait t refl g)

  turn_gate : (on : Bool) (s : Iic) → G s → Leaves G (turn_gate_of on now k s)
  unfolding turn_gate_of
  turn_gate on s h =
      let t : Iic = set_gate on s in
      let f : Leaves G (turn_waits_of on now k t) = turn_waits on t record { on = tt; raw = h.raw; latch = h.latch; filtered = h.filtered; filter = h.filter; clock = h.clock; monitor = h.monitor; setup = h.setup; rates = h.rates } in
      either (Leaves G) (beq s.flags.gate on) h
      (either (Leaves G) on
      (then_kick L default_view (and_then (turn_waits_of on now k t) (schedule_filter_of now k.system))
      (then_leaves G G (turn_waits_of on now k t) (schedule_filter_of now k.system) f (λ u g. schedule_rests L default_view u refl g))) f)

  -- ## Lines

  pub line_keeps : (l : Line) (s : Iic) → G s → Answered k (call_at now l) s → G (after k (call_at now l) s)
  unfolding outcome_of read_of write_of set_gate_of
  line_keeps (read a) s h fine =
      guarded_left G (guard_by (has_zero k) s) s (read_at (register_at a) now k.system s) (read_keeps L default_view (register_at a) s h)
      (sym (byte_refused (guarded (guard_by (has_zero k) s) s (read_at (register_at a) now k.system s)).answer (peek_of s a)) ∙ fine)
  line_keeps (write a value) s h fine =
      guarded_left G (guard_by (has_zero k) s) s (write_at (register_at a) value now k.system s)
      (write_keeps L default_view (register_at a) value s refl (λ e. record { stays = tt; drops = λ f. refl }) h) fine
  line_keeps (gate on) s h fine = guarded_left G (guard_by (has_zero k) s) s (turn_gate_of on now k s) (turn_gate on s h) fine

  lines_keep : (ls : List Line) (s : Iic) → G s → LinesAnswered k now ls s → G (played k now ls s)
  lines_keep [] s h fine = h
  lines_keep (l ∷ ls) s h fine = lines_keep ls (after k (call_at now l) s) (line_keeps l s h fine.0) fine.1

  -- ## From the default

  pub default_keeps : G default_iic
  unfolding initial
  default_keeps = record { on = tt; raw = refl; latch = refl; filtered = refl; filter = refl; clock = tt; monitor = tt; setup = tt; rates = refl }

  -- it isn't visited
  pub unnamed : named k now default_iic ≡ false
  unfolding initial deadline_of due_of
  unnamed = either (λ (d : Result (Option Time) Refusal). is_now (due_of d now) ≡ false) (has_zero k) refl refl

-- a unit that is on when it comes to the reports
pub on_sound : (now : Time) (k : Clocks) (s : Iic) → Keeps (starting now k.system) default_rates default_view s → On s → Sound now k default_rates default_view s
on_sound now k s h on = record {
  keeps = record {
    on = on;
    raw = h.raw;
    latch = h.latch;
    filtered = h.filtered;
    filter = h.filter;
    clock = clock_later now k.system s.clock_wait h.clock;
    monitor = monitor_later now k s.monitor_wait s.clock_wait s.condition s.hold h.monitor;
    setup = setup_later now k s.setup_wait h.setup;
    rates = h.rates;
  };
  awaited = refl;
  ahead = no_wait_ahead now k;
}

pub untold_sound : (k : Clocks) (p : Turn) → First k p → Sound p.moment k default_rates default_view (untold k p default_iic)
untold_sound k p f =
    let now : Time = p.moment in
    on_sound now k (untold k p default_iic)
    (lines_keep now k p.lines (visited k now default_iic) (by_cases (G now k) (named k now default_iic) (λ e. absurd (true≢false (sym e ∙ unnamed now k))) (λ e. default_keeps now k)) f.unrefused.lines)
    f.on

pub first_sound : (k : Clocks) (p : Turn) → First k p → Sound p.moment k default_rates (told p.wires p.moment k default_view) (passed k p default_iic)
first_sound k p f = report_sound k default_rates default_spaced default_view p (untold k p default_iic) (untold_sound k p f) f.unrefused.told
