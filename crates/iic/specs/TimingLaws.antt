-- Laws: the steps that ask no clock leave the levels, the rate set and, but for a write of ICCR1, ICE alone; they keep each wait or drop it, and change condition
-- and hold only where they drop the monitor's wait or the condition goes on. So each keeps every fact on these that allows the half waits to be dropped. Assumes
-- nothing.
use Rattle.std.specs.Prelude.{ℕ, ◌+◌, ◌-◌, ◌*◌, ◌/◌, ◌%◌, Bool, ◌&&◌, ◌||◌, ◌≡◌, eqb, None, Option, Some}
use Rattle.std.proofs.Math.Bool.{true, false, not}
use Rattle.std.proofs.Math.Path.{refl}
use Rattle.std.proofs.Common.{sym, ap, ◌∙◌, subst}
use Rattle.std.proofs.lemmas.Nat.Bits.{and_high}
use Rattle.std.specs.Int.Bits.{bit_and, bit_or, or_zero_r}
use Rattle.std.proofs.lemmas.Nat.{or_shr}
use Rattle.bus.specs.Bits.{flag, has, without}
use Rattle.bus.specs.Bus.{is_read, is_start, is_stop}
use Rattle.bus.specs.declared.Levels.{Levels}
use Rattle.frames.specs.Parts.{is_data, is_done, sampled, starved}
use Rattle.frames.specs.declared.Frame.{Frame}
use Rattle.frames.specs.declared.Phase.{Phase}
use Rattle.frames.specs.declared.Phase.TheVariants.{Ack, Data, Done}
use Rattle.bus.specs.MaskLaws.{has_kept}
use Rattle.registers.specs.Bits.{BCWP, ICE, MST, RDRF, SDAOP, TRS}
use Rattle.iic.specs.Conditions.{begin_address_of, begun_of, bus_edge_of, bus_start_of, bus_stop_of, clocked_at, clocked_of, first_condition, raised_at, raised_of, release_sda_of}
use Rattle.iic.specs.Falls.{acknowledge_of, end_frame_of, end_in, fall_data_in, fall_data_of, fall_idle_of, fall_taken_of, follow_in, follow_of, hold_receive_of, hold_transmit_of}
use Rattle.iic.specs.Reading.{continued_of}
use Rattle.iic.specs.Ready.{frame_due, next_frame_of, show_in, show_of}
use Rattle.iic.specs.Setters.{set_eighth_fall}
use Rattle.iic.specs.Shift.{acknowledged_of, addressed_of, arbitration_lost_of, begin_frame_of, bit_taken, can_load, complete_frame_of, completed_of, drained_of, end_bits, end_synchronous_of, finished_of, hits, last_bit_of, load_in, load_transmit_of, loses, matched_of, overrun_of, received_of, receives, rising_ack_of, rising_at, rising_data_of, rising_in, rising_of, select_of, set_hold_of, stored_of, when_lost_of}
use Rattle.iic.specs.State.{awake, master, synchronous}
use Rattle.iic.specs.Writing.{control_set, pull_sda_of, redirected, take_control_of, write_mode_of}
use Rattle.iic.specs.declared.Condition.{Condition}
use Rattle.iic.specs.declared.Condition.TheVariants.{NoCondition, StartHigh, StartHold, StartRelease, StopDetect, StopHigh, StopLow, StopRelease}
use Rattle.iic.specs.declared.Hold.{Hold}
use Rattle.iic.specs.declared.Hold.TheVariants.{NoHold, Receive, Transmit}
use Rattle.iic.specs.declared.Iic.{Iic}
use Rattle.time.specs.declared.Time.{Time}
use Rattle.time.specs.Truths.{either}
use Rattle.iic.specs.Timing.{Dropping, Timing, halved, moved, switched, timing_of}

-- ## ICE, where MST and TRS change

ICE-high : (x : ℕ) → bit_and x ICE ≡ x / 128 % 2 * 128
ICE-high x = and_high x 1 7

-- TRS is set beside it, or not
ICE-beside : (b : Bool) (x : ℕ) → has (bit_or x (flag b TRS)) ICE ≡ has x ICE
ICE-beside b x = ap (λ (n : ℕ). not (eqb n 0)) (ICE-high (bit_or x (flag b TRS)) ∙ ap (λ (n : ℕ). n % 2 * 128) (or_shr x (flag b TRS) 7 ∙ low b) ∙ sym (ICE-high x))
  where
    low : (b : Bool) → bit_or (x / 128) (flag b TRS / 128) ≡ x / 128
    low true = or_zero_r (x / 128)
    low false = or_zero_r (x / 128)

module _ {P : Timing → Type 0} (drop : Dropping P) where
  abbrev K : Iic → Type 0
  K s = P (timing_of s)

  -- ICCR1 is another, with the same ICE
  same_ice : (s : Iic) (x : ℕ) → has x ICE ≡ has s.registers.control ICE → (t : Timing) → t.on ≡ awake s → P t → P (switched (s.flags.gate && has x ICE) t)
  same_ice s x e t f h = subst (λ (b : Bool). P (switched b t)) (f ∙ sym (ap (λ (b : Bool). s.flags.gate && b) e)) h

  -- ## The shifter

  load_in_lem : (fr : Option Frame) (s : Iic) → K s → K (load_in fr s)
  load_in_lem None s h = h
  load_in_lem (Some f) s h = either K (can_load s f) h h

  pub load : (s : Iic) → K s → K (load_transmit_of s)
  unfolding load_transmit_of
  load s h = load_in_lem s.frame s h

  begin : (address : Bool) (s : Iic) → K s → K (begin_frame_of address s)
  unfolding begin_frame_of
  begin address s h = load _ h

  pub hold : (x : Hold) (s : Iic) → K s → K (set_hold_of x s)
  unfolding set_hold_of
  hold x s h = either K (synchronous s) h (drop.both s.condition x (timing_of s) h)

  lost : (b : Bool) (s : Iic) → K s → K (when_lost_of b s)
  unfolding when_lost_of arbitration_lost_of
  lost b s h =
      either K b
      (same_ice s (without s.registers.control (MST + TRS)) (has_kept (0xff - (MST + TRS)) ICE s.registers.control refl)
      (halved None None NoCondition NoHold (timing_of s)) refl (drop.both NoCondition NoHold (timing_of s) h)) h

  received : (b : ℕ) (s : Iic) → K s → K (received_of b s)
  unfolding received_of overrun_of stored_of
  received b s h =
      either K (synchronous s && has s.registers.status RDRF)
      (same_ice s (without s.registers.control MST) (has_kept (0xff - MST) ICE s.registers.control refl)
      (halved None None s.condition s.hold (timing_of s)) refl (drop.both s.condition s.hold (timing_of s) h)) h

  acknowledged : (sda : Bool) (s : Iic) → K s → K (acknowledged_of sda s)
  unfolding acknowledged_of
  acknowledged sda s h = either K (synchronous s) h h

  complete : (f : Frame) (sda : Bool) (s : Iic) → K s → K (complete_frame_of f sda s)
  unfolding complete_frame_of drained_of
  complete f sda s h =
      either K f.transmit (acknowledged sda (completed_of s) h)
      (either K (receives f (completed_of s)) (received f.shift (completed_of s) h) h)

  select : (b : ℕ) (s : Iic) → K s → K (select_of b s)
  unfolding select_of
  select b s h =
      same_ice s (bit_or (without s.registers.control TRS) (flag (is_read b) TRS))
      (ICE-beside (is_read b) (without s.registers.control TRS) ∙ has_kept (0xff - TRS) ICE s.registers.control refl) (timing_of s) refl h

  addressed : (f : Frame) (s : Iic) → K s → K (addressed_of f s)
  unfolding addressed_of matched_of
  addressed f s h = either K (f.address && not (master s)) (either K (hits f.shift s) (select f.shift _ h) h) h

  finished : (last : Bool) (s : Iic) → K s → K (finished_of last s)
  unfolding finished_of
  finished last s h = either K last (drop.both s.condition s.hold (timing_of s) h) h

  end_bits_lem : (f : Frame) (sda : Bool) (s : Iic) → K s → K (end_bits f sda s)
  unfolding end_synchronous_of
  end_bits_lem f sda s h = either K (synchronous s) (finished f.last (complete_frame_of f sda s) (complete f sda s h)) h

  bit_taken_lem : (f : Frame) (sda : Bool) (s : Iic) → K s → K (bit_taken f sda s)
  unfolding last_bit_of
  bit_taken_lem f sda s h = either K (eqb f.remaining 0) (end_bits_lem f sda (addressed_of f s) (addressed f s h)) h

  rising_at_lem : (p : Phase) (f : Frame) (sda : Bool) (s : Iic) → K s → K (rising_at p f sda s)
  unfolding rising_data_of rising_ack_of
  rising_at_lem Data f sda s h = bit_taken_lem (sampled (loses f sda s) sda f) sda (when_lost_of (loses f sda s) s) (lost (loses f sda s) s h)
  rising_at_lem Ack f sda s h = complete f sda s h
  rising_at_lem Done f sda s h = h

  rising_in_lem : (fr : Option Frame) (sda : Bool) (s : Iic) → K s → K (rising_in fr sda s)
  rising_in_lem None sda s h = h
  rising_in_lem (Some f) sda s h = either K (not f.loaded) h (rising_at_lem f.phase f sda s h)

  pub rising : (sda : Bool) (s : Iic) → K s → K (rising_of sda s)
  unfolding rising_of
  rising sda s h = rising_in_lem s.frame sda s h

  -- ## Starts and stops

  release_sda : (s : Iic) → K s → K (release_sda_of s)
  unfolding release_sda_of
  release_sda s h = either K s.flags.reset h h

  begin_address : (s : Iic) → K s → K (begin_address_of s)
  unfolding begin_address_of
  begin_address s h = either K s.flags.reset h (begin true s h)

  pub bus_edge : (old : Levels) (s : Iic) → K s → K (bus_edge_of old s)
  unfolding bus_edge_of bus_stop_of bus_start_of
  bus_edge old s h =
      either K (synchronous s) h
      (either K (is_stop old s.lines.filtered) (release_sda _ (drop.both NoCondition NoHold (timing_of s) h))
      (either K (is_start old s.lines.filtered) (begin_address _ (lost (master s && s.lines.drive.sda) s h)) h))

  pub begun : (start : Bool) (s : Iic) → K s → K (begun_of start s)
  unfolding begun_of
  begun start s h = drop.monitor (first_condition start) NoHold (timing_of s) h

  -- a condition goes on where it may be any
  pub clocked : (s : Iic) → ((x : Condition) → P (moved x (timing_of s))) → K (clocked_of s)
  unfolding clocked_of
  clocked s free = go s.condition
    where
      go : (x : Condition) → K (clocked_at x s)
      go NoCondition = free s.condition
      go StartRelease = free StartHigh
      go StartHigh = free s.condition
      go StartHold = free NoCondition
      go StopLow = free StopHigh
      go StopHigh = free s.condition
      go StopRelease = free StopDetect
      go StopDetect = free s.condition

  pub raised : (s : Iic) → ((x : Condition) → P (moved x (timing_of s))) → K (raised_of s)
  unfolding raised_of
  raised s free = go s.condition
    where
      go : (x : Condition) → K (raised_at x s)
      go NoCondition = free s.condition
      go StartRelease = free s.condition
      go StartHigh = free StartHold
      go StartHold = free s.condition
      go StopLow = free s.condition
      go StopHigh = free StopRelease
      go StopRelease = free s.condition
      go StopDetect = free s.condition

  -- ## A falling clock

  end_in_lem : (fr : Option Frame) (s : Iic) → K s → K (end_in fr s)
  end_in_lem None s h = h
  end_in_lem (Some f) s h = either K (is_done f.phase) h h

  pub end_frame : (s : Iic) → K s → K (end_frame_of s)
  unfolding end_frame_of
  end_frame s h = end_in_lem s.frame s h

  follow_in_lem : (fr : Option Frame) (s : Iic) → K s → K (follow_in fr s)
  follow_in_lem None s h = h
  follow_in_lem (Some f) s h = either K (is_data f.phase) h h

  pub follow : (s : Iic) → K s → K (follow_of s)
  unfolding follow_of
  follow s h = follow_in_lem s.frame s h

  fall_data_in_lem : (fr : Option Frame) (s : Iic) → K s → K (fall_data_in fr s)
  unfolding hold_transmit_of
  fall_data_in_lem None s h = h
  fall_data_in_lem (Some f) s h =
      either K (starved f) (either K (synchronous s && master s) (drop.both s.condition s.hold (timing_of s) h) (hold Transmit s h)) h

  pub fall_data : (s : Iic) → K s → K (fall_data_of s)
  unfolding fall_data_of
  fall_data s h = fall_data_in_lem s.frame s h

  pub fall_taken : (f : Frame) (now : Time) (s : Iic) → K s → K (fall_taken_of f now s)
  unfolding fall_taken_of acknowledge_of hold_receive_of
  fall_taken f now s h =
      either K (not f.transmit && (s.flags.selected || master s) && has s.registers.status RDRF && not s.flags.stale_release)
      (hold Receive (set_eighth_fall (Some now) s) h) h

  pub fall_idle : (s : Iic) → K s → K (fall_idle_of s)
  unfolding fall_idle_of
  fall_idle s h = either K (master s) (drop.both s.condition s.hold (timing_of s) h) h

  -- ## What is due next

  pub next_frame : (s : Iic) → K s → K (next_frame_of s)
  unfolding next_frame_of
  next_frame s h = either K (frame_due s) (begin false s h) h

  show_in_lem : (fr : Option Frame) (s : Iic) → K s → K (show_in fr s)
  show_in_lem None s h = h
  show_in_lem (Some f) s h = h

  pub shown : (s : Iic) → K s → K (show_of s)
  unfolding show_of
  shown s h = show_in_lem s.frame s h

  -- ## Registers

  pub continued : (s : Iic) → K s → K (continued_of s)
  unfolding continued_of
  continued s h = either K (master s && not s.flags.receive_stopped) h h

  -- ICCR1 may switch the peripheral off
  pub take_control : (value : ℕ) (s : Iic) → P (switched (s.flags.gate && has value ICE) (timing_of s)) → K (take_control_of value s)
  unfolding take_control_of control_set redirected
  take_control value s h = either K (eqb (bit_and s.registers.control (MST + TRS)) (bit_and value (MST + TRS))) h h

  pub pull_sda : (value : ℕ) (s : Iic) → K s → K (pull_sda_of value s)
  unfolding pull_sda_of
  pull_sda value s h = either K (has value SDAOP) h h

  pub write_mode : (value : ℕ) (s : Iic) → K s → K (write_mode_of value s)
  unfolding write_mode_of
  write_mode value s h = either K (has value BCWP) h h
