-- Laws: a visit of a unit that is on fires the filter as the view says and keeps the rest, whichever waits are due; so does a report of levels. Assumes nothing.
use Rattle.std.specs.Prelude.{Bool, true, false, cond, ◌≡◌, refl, Err, None, Ok, Option, Result}
use Rattle.std.proofs.Common.{true≢false, sym, ◌∙◌, arith}
use Rattle.std.proofs.Math.Path.{subst}
use Rattle.bus.specs.Bus.{same_levels}
use Rattle.bus.specs.declared.Levels.{Levels}
use Rattle.clocks.specs.System.{system_after}
use Rattle.clocks.specs.declared.Clocks.{Clocks}
use Rattle.hosts.specs.Calls.{is_now}
use Rattle.hosts.specs.Invariant.{Leaves}
use Rattle.hosts.specs.Left.{both_left, leaves_more, then_leaves, then_left, wait_leaves}
use Rattle.iic.specs.Answers.{Stepped, and_then, fine}
use Rattle.iic.specs.Calls.{take_pins_of, visit_of}
use Rattle.iic.specs.Clocking.{filter_fires_of, fire_clock_of, fire_filter_of, fire_monitor_of, fire_setup_of, firing}
use Rattle.iic.specs.Edges.{filtered_edges_of}
use Rattle.iic.specs.Filter.{filter_pass_of}
use Rattle.iic.specs.Kick.{kick_of}
use Rattle.iic.specs.Setters.{set_filter_wait, set_raw}
use Rattle.iic.specs.State.{awake}
use Rattle.iic.specs.Waiting.{filter_from, schedule_filter_of, wants_filter}
use Rattle.iic.specs.declared.Iic.{Iic}
use Rattle.time.specs.declared.Time.{Time}
use Rattle.waits.specs.Ends.{due_of, wait_end}
use Rattle.rates.specs.declared.Rates.{Rates}
use Rattle.waits.specs.Ahead.{Ahead}
use Rattle.time.specs.Truths.{by_cases}
use Rattle.wires.specs.Clocking.{others}
use Rattle.wires.specs.Edges.{filtered_edges}
use Rattle.wires.specs.RuleLaws.{no_wait_ahead, waiting_ahead}
use Rattle.wires.specs.Rules.{Keeps, Sound, Spaced, later}
use Rattle.wires.specs.Statement.{InWord}
use Rattle.wires.specs.Views.{View, clocked, fired, made, scheduled, told, unawaited, view}
use Rattle.clocks.specs.declared.wait.ClockWait.{ClockWait}
use Rattle.refusals.specs.declared.Refusal.{Refusal}

module _ (now : Time) (k : Clocks) (r : Rates) (spaced : Spaced r) where
  -- ## The filter

  -- its wait is started where it is wanted
  schedule_sound : (v : View) (s : Iic) → Keeps (later now k) r v s → Ahead now (wait_end v.filter k)
      → Leaves (Sound now k r (scheduled now k v)) (schedule_filter_of now k.system s)
  unfolding schedule_filter_of
  schedule_sound v s h ahead = rw wants (go (unawaited v) refl)
    where
      wants : wants_filter s ≡ unawaited v
      wants = rw (h.on, h.filter, h.raw, h.latch, h.filtered)

      go : (b : Bool) → unawaited v ≡ b
          → Leaves (Sound now k r (cond b (view v.raw v.latch v.filtered (made (system_after now 1 k.system))) v))
          (cond b (filter_from (system_after now 1 k.system) s) (fine s))
      go false e = record { keeps = h; awaited = e; ahead = ahead }
      go true e =
          wait_leaves (Sound now k r (view v.raw v.latch v.filtered (made (system_after now 1 k.system)))) set_filter_wait (system_after now 1 k.system) s
          (λ w f. rw f record {
            keeps = record { on = h.on; raw = h.raw; latch = h.latch; filtered = h.filtered; filter = refl; clock = h.clock; monitor = h.monitor; setup = h.setup; rates = h.rates };
            awaited = refl;
            ahead = waiting_ahead now k 1 w (omega arith) f;
          })

  filter_fires : (v : View) (s : Iic) → Keeps (later now k) r v s → Leaves (Sound now k r (scheduled now k (clocked v))) (filter_fires_of now k.system s)
  unfolding filter_fires_of filter_pass_of
  filter_fires v s h =
      let t : Iic = set_filter_wait None (filter_pass_of s) in
      then_leaves (Keeps (later now k) r (clocked v)) (Sound now k r (scheduled now k (clocked v)))
      (filtered_edges_of s.lines.filtered now k.system t) (schedule_filter_of now k.system)
      (filtered_edges now k r spaced.accepted (clocked v) s.lines.filtered t record {
        on = h.on;
        raw = h.raw;
        latch = h.raw;
        filtered = rw (h.raw, h.latch, h.filtered);
        filter = refl;
        clock = h.clock;
        monitor = h.monitor;
        setup = h.setup;
        rates = h.rates;
      })
      (λ u g. schedule_sound (clocked v) u g (no_wait_ahead now k))

  fire_filter : (v : View) (s : Iic) → Sound now k r v s → Leaves (Sound now k r (fired now k v)) (fire_filter_of (wait_end s.filter_wait k) now k.system s)
  unfolding fire_filter_of
  fire_filter v s h =
      subst (λ (w : Option ClockWait). Leaves (Sound now k r (fired now k v)) (firing (due_of (wait_end w k) now) s (filter_fires_of now k.system s))) (sym h.keeps.filter)
      (go (due_of (wait_end v.filter k) now))
    where
      go : (d : Result Bool Refusal) → Leaves (Sound now k r (cond (is_now d) (scheduled now k (clocked v)) v)) (firing d s (filter_fires_of now k.system s))
      go (Ok true) = filter_fires v s h.keeps
      go (Ok false) = h
      go (Err n) = tt

  -- ## `advance`

  -- the view is what the filter makes of it, whichever waits are due
  pub visit_sound : InWord k → (v : View) (s : Iic) → Sound now k r v s → Leaves (Sound now k r (fired now k v)) (visit_of now k s)
  unfolding visit_of
  visit_sound word v s h = by_cases (Leaves (Sound now k r w)) (awake s) (λ e. all) (λ e. absurd (true≢false (sym h.keeps.on ∙ e)))
    where
      w : View
      w = fired now k v

      o1 : Stepped
      o1 = fire_filter_of (wait_end s.filter_wait k) now k.system s

      o2 : Stepped
      o2 = and_then o1 (λ u. fire_setup_of (wait_end u.setup_wait k) now u)

      o3 : Stepped
      o3 = and_then o2 (fire_monitor_of now k.system)

      o4 : Stepped
      o4 = and_then o3 (fire_clock_of now k.system)

      o5 : Stepped
      o5 = and_then o4 (kick_of now k.system)

      filter : Leaves (Sound now k r w) o1
      filter = fire_filter v s h

      -- what is asked of the view doesn't speak of the unit
      F : Type 0
      F = (unawaited w ≡ false) × Ahead now (wait_end w.filter k)

      fact : Leaves (λ t. F) o5
      fact =
          then_left F o4 (kick_of now k.system) (then_left F o3 (fire_clock_of now k.system) (then_left F o2 (fire_monitor_of now k.system)
          (then_left F o1 (λ u. fire_setup_of (wait_end u.setup_wait k) now u) (leaves_more (Sound now k r w) (λ t. F) o1 filter (λ t x. (x.awaited, x.ahead))))))

      rest : Leaves (Keeps (later now k) r w) o5
      rest = others now k r spaced w word o1 (leaves_more (Sound now k r w) (Keeps (later now k) r w) o1 filter (λ t x. x.keeps))

      all : Leaves (Sound now k r w) o5
      all =
          leaves_more (λ t. Keeps (later now k) r w t × F) (Sound now k r w) o5 (both_left (Keeps (later now k) r w) (λ t. F) o5 rest fact)
          (λ t x. record { keeps = x.0; awaited = x.1.0; ahead = x.1.1 })

  -- ## `input_pins`

  pub told_sound : (given : Levels) (v : View) (s : Iic) → Sound now k r v s → Leaves (Sound now k r (told given now k v)) (take_pins_of given now k.system s)
  unfolding take_pins_of
  told_sound given v s h =
      subst (λ (l : Levels). Leaves (Sound now k r (told given now k v)) (cond (same_levels l given) (fine s) (schedule_filter_of now k.system (set_raw given s)))) (sym h.keeps.raw)
      (go (same_levels v.raw given))
    where
      now_given : View
      now_given = view given v.latch v.filtered v.filter

      go : (b : Bool) → Leaves (Sound now k r (cond b v (scheduled now k now_given))) (cond b (fine s) (schedule_filter_of now k.system (set_raw given s)))
      go true = h
      go false = schedule_sound now_given (set_raw given s) record {
        on = h.keeps.on;
        raw = refl;
        latch = h.keeps.latch;
        filtered = h.keeps.filtered;
        filter = h.keeps.filter;
        clock = h.keeps.clock;
        monitor = h.keeps.monitor;
        setup = h.keeps.setup;
        rates = h.keeps.rates;
      } h.ahead
