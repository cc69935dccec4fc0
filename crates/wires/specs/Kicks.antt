-- Laws: the steps in time that reads and writes may take, `kick` and `release_hold`, keep the rules: they start waits now. Assumes nothing.
use Rattle.std.specs.Prelude.{Bool, not, ◌&&◌, ◌≡◌, None, Option, Some}
use Rattle.std.proofs.Math.Bool.{true, false}
use Rattle.std.proofs.Math.Path.{refl}
use Rattle.clocks.specs.System.{system_after}
use Rattle.domain.specs.declared.Domain.{Domain}
use Rattle.frames.specs.Parts.{is_done, starved}
use Rattle.frames.specs.declared.Frame.{Frame}
use Rattle.hosts.specs.Invariant.{Leaves}
use Rattle.hosts.specs.Left.{then_leaves, wait_leaves}
use Rattle.iic.specs.Answers.{Stepped, and_then, fine}
use Rattle.iic.specs.Conditions.{begun_of}
use Rattle.iic.specs.Kick.{begin_condition_of, clock_frame_of, command_in, kick_of, launch_in, launch_of, release_hold_of, wait_after_hold_of}
use Rattle.iic.specs.Ready.{clock_due, command_ready, level_at, low_half_of, next_frame_of, ready, show_of}
use Rattle.iic.specs.Setters.{set_clock_wait, set_hold, set_setup_wait}
use Rattle.iic.specs.Shift.{load_transmit_of}
use Rattle.iic.specs.State.{awake, held, is_hold, master}
use Rattle.iic.specs.Waiting.{schedule_filter_of, start_clock_of, start_setup_of, wants_filter}
use Rattle.iic.specs.declared.Hold.TheVariants.{NoHold, Transmit}
use Rattle.iic.specs.declared.Iic.{Iic}
use Rattle.time.specs.Truths.{and_left, and_right, by_cases, either, not_so}
use Rattle.time.specs.declared.Time.{Time}
use Rattle.waits.specs.Ends.{is_half, is_wait}
use Rattle.waits.specs.Half.{half_after}
use Rattle.rates.specs.Rates.{period_of, setup_cycles}
use Rattle.rates.specs.declared.Rates.{Rates}
use Rattle.wires.specs.Held.{accepted, beside_no_clock, dropping, halve, in_hold, prepare, unmonitored}
use Rattle.rates.proofs.LengthLaws.{period_some, setup_some}
use Rattle.wires.specs.Rules.{Keeps, Lawful, Rules}
use Rattle.iic.specs.TimingLaws.{begun, hold, load, next_frame, shown}
use Rattle.wires.specs.Views.{View, unawaited}

module _ {now : Time} {system : Domain} {R : Rules} {r : Rates} (L : Lawful now system R r) (v : View) where
  abbrev G : Iic → Type 0
  G s = Keeps R r v s

  abbrev To : Stepped → Type 0
  To o = Leaves (Keeps R r v) o

  -- ## Starting

  pub start_clock : (s : Iic) → s.monitor_wait ≡ None → G s → To (start_clock_of now system s)
  unfolding start_clock_of
  start_clock s e h =
      wait_leaves G set_clock_wait (half_after now (period_of s.rates s.registers.control) system) s (λ w f.
      halve h (Some w) s.monitor_wait s.condition s.hold
      (L.clock (period_of s.rates s.registers.control) w (period_some s.rates (accepted L h) s.registers.control) f)
      (unmonitored R s.monitor_wait (Some w) s.condition s.hold e))

  start_setup : (s : Iic) → G s → To (start_setup_of now system s)
  unfolding start_setup_of
  start_setup s h =
      wait_leaves G set_setup_wait (system_after now (setup_cycles s.rates s.registers.control) system) s (λ w f.
      prepare h (Some w) (L.setup (setup_cycles s.rates s.registers.control) w (setup_some s.rates (accepted L h) s.registers.control) f))

  -- the filter's wait isn't started while what moves is awaited
  pub schedule_rests : (s : Iic) → unawaited v ≡ false → G s → To (schedule_filter_of now system s)
  unfolding schedule_filter_of
  schedule_rests s a h = rw unwanted h
    where
      unless : (a b c : Bool) → (b && c) ≡ false → (a && b && c) ≡ false
      unless true b c e = e
      unless false b c e = refl

      unwanted : wants_filter s ≡ false
      unwanted = rw (h.filter, h.raw, h.latch, h.filtered) (unless (awake s) (not (is_wait v.filter)) _ a)

  -- ## `kick`

  command_in_lem : (c : Option Bool) (s : Iic) → G s → To (command_in c now system s)
  unfolding begun_of
  command_in_lem None s h = h
  command_in_lem (Some start) s h = start_clock (begun_of start s) refl (begun (dropping L v) start s h)

  launch : (f : Frame) (s : Iic) → is_half s.clock_wait ≡ false → G s → To (launch_of f now system s)
  unfolding launch_of low_half_of
  launch f s e h =
      either To (is_done f.phase) h
      (either To (starved f) (hold (dropping L v) Transmit s h)
      (start_clock (low_half_of (level_at f.phase f s) s) (beside_no_clock L s.monitor_wait s.clock_wait s.condition s.hold e h.monitor) h))

  launch_in_lem : (fr : Option Frame) (s : Iic) → is_half s.clock_wait ≡ false → G s → To (launch_in fr now system s)
  launch_in_lem None s e h = h
  launch_in_lem (Some f) s e h = launch f s e h

  clock_frame : (s : Iic) → G s → To (clock_frame_of now system s)
  unfolding clock_frame_of
  clock_frame s h = by_cases To (clock_due s) (λ e. launch_in_lem s.frame s (no_clock e) h) (λ e. h)
    where
      no_clock : clock_due s ≡ true → is_half s.clock_wait ≡ false
      no_clock e = not_so (is_half s.clock_wait) (and_right (master s) _ (and_left _ (not (held s)) (and_left _ (not s.flags.synchronized_hold) e)))

  pub kick : (s : Iic) → G s → To (kick_of now system s)
  unfolding kick_of begin_condition_of
  kick s h =
      either To (not (ready s)) h
      (either To (command_ready s) (command_in_lem s.command s h)
      (clock_frame (load_transmit_of (next_frame_of s)) (load (dropping L v) (next_frame_of s) (next_frame (dropping L v) s h))))

  pub then_kick : (o : Stepped) → To o → To (and_then o (kick_of now system))
  then_kick o h = then_leaves G G o (kick_of now system) h kick

  -- ## `release_hold`

  pub release_hold : (s : Iic) → is_hold s.hold ≡ true → G s → To (release_hold_of now system s)
  unfolding release_hold_of wait_after_hold_of
  release_hold s e h =
      let none : s.monitor_wait ≡ None = in_hold L s.monitor_wait s.clock_wait s.condition s.hold e h.monitor in
      let g : G (set_hold NoHold s) = halve h s.clock_wait s.monitor_wait s.condition NoHold h.clock (unmonitored R s.monitor_wait s.clock_wait s.condition NoHold none) in
      then_leaves G G (wait_after_hold_of now system (set_hold NoHold s)) (λ u. fine (show_of u))
      (either To (master s) (start_clock (set_hold NoHold s) none g) (start_setup (set_hold NoHold s) g))
      (λ u f. shown (dropping L v) u f)
