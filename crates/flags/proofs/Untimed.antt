-- Laws: the steps that need no clock keep the invariant. Assumes nothing.
use Rattle.std.specs.Prelude.{ℕ, zero, suc, ◌+◌, ◌-◌, ◌≤◌, Bool, ◌&&◌, ◌||◌, cond, ◌≡◌, refl, eqb, None, Option, Some}
use Rattle.std.proofs.Math.Bool.{true, false, not}
use Rattle.std.proofs.Common.{sym, eqb-true}
use Rattle.std.proofs.Math.Path.{subst}
use native.Mathlib.Omega.{arith}
use Rattle.std.proofs.lemmas.Bool.{eqb-false}
use Rattle.std.proofs.lemmas.Nat.{and_le_r}
use Rattle.std.specs.Int.Bits.{bit_and, bit_or}
use Rattle.bus.specs.Bits.{has}
use Rattle.bus.specs.Bus.{is_start, is_stop}
use Rattle.bus.specs.declared.Levels.{Levels}
use Rattle.time.specs.Truths.{by_cases, either}
use Rattle.time.specs.declared.Time.{Time}
use Rattle.frames.specs.Parts.{bits_of, is_data, is_done, mark_in, recount_in, recounted, redirect_frame, redirect_in, sampled, starved, yield_in}
use Rattle.frames.specs.declared.Frame.{Frame}
use Rattle.frames.specs.declared.Phase.{Phase}
use Rattle.frames.specs.declared.Phase.TheVariants.{Ack, Data, Done}
use Rattle.registers.specs.Bits.{BC, BCWP, MST, RCVD, RDRF, SDAOP, TDRE, TRS}
use Rattle.iic.specs.Conditions.{begin_address_of, begun_of, bus_edge_of, bus_start_of, bus_stop_of, clocked_at, clocked_of, raised_at, raised_of, release_sda_of}
use Rattle.iic.specs.Falls.{acknowledge_of, end_frame_of, end_in, fall_data_in, fall_data_of, fall_idle_of, fall_taken_of, follow_in, follow_of, hold_receive_of, hold_transmit_of}
use Rattle.iic.specs.Ready.{frame_due, next_frame_of, show_in, show_of}
use Rattle.iic.specs.Shift.{acknowledged_of, addressed_of, arbitration_lost_of, begin_frame_of, bit_taken, can_load, complete_frame_of, completed_of, drained_of, end_bits, end_synchronous_of, finished_of, hits, last_bit_of, load_in, load_transmit_of, loses, matched_of, overrun_of, received_of, receives, rising_ack_of, rising_at, rising_data_of, rising_in, rising_of, select_of, set_hold_of, stored_of, when_lost_of}
use Rattle.iic.specs.Reading.{continued_of}
use Rattle.iic.specs.Setters.{set_eighth_fall}
use Rattle.iic.specs.State.{master, stop_shifter_of, synchronous}
use Rattle.iic.specs.Writing.{control_set, enter_reset_of, pull_sda_of, redirected, take_control_of, write_mode_of}
use Rattle.iic.specs.declared.Condition.{Condition}
use Rattle.iic.specs.declared.Condition.TheVariants.{NoCondition, StartHigh, StartHold, StartRelease, StopDetect, StopHigh, StopLow, StopRelease}
use Rattle.iic.specs.declared.Iic.{Iic}
use Rattle.iic.specs.declared.Hold.{Hold}
use Rattle.iic.specs.declared.Hold.TheVariants.{Receive, Transmit}
use Rattle.rates.specs.declared.Rates.{Rates}
use Rattle.flags.specs.Invariant.{Bound, Fact, Kept, Within}
use Rattle.flags.specs.Masks.{masked_mode}
use Rattle.flags.specs.StatusWrites.{FrameToGo, ToGo}

-- ## A frame's bits to go

some : (n : ℕ) → (n ≡ 0 → ⊥) → 1 ≤ n
some zero g = absurd (g refl)
some (suc n) g = omega arith

-- a frame begins, or its count is written
bits_to_go : (address : Bool) (n : ℕ) → n ≤ 7 → (1 ≤ bits_of address n) × (bits_of address n ≤ 8)
bits_to_go true n h = (omega arith, omega arith)
bits_to_go false n h = go (eqb n 0) refl
  where
    go : (t : Bool) → eqb n 0 ≡ t → (1 ≤ cond t 8 n) × (cond t 8 n ≤ 8)
    go true e = (omega arith, omega arith)
    go false e = (some n (eqb-false n 0 e), omega arith)

yield_to_go : (fr : Option Frame) → FrameToGo fr → FrameToGo (yield_in fr)
yield_to_go None g = g
yield_to_go (Some f) g = g

mark_to_go : (fr : Option Frame) (last : Bool) → FrameToGo fr → FrameToGo (mark_in fr last)
mark_to_go None last g = g
mark_to_go (Some f) last g = either FrameToGo (is_done f.phase || f.address) g g

redirect_to_go : (fr : Option Frame) (transmit master last scl : Bool) → FrameToGo fr → FrameToGo (redirect_in fr transmit master last scl)
unfolding redirect_frame
redirect_to_go None transmit master last scl g = g
redirect_to_go (Some f) transmit master last scl g = either FrameToGo (is_data f.phase && not scl) g g

recount_to_go : (fr : Option Frame) (n : ℕ) → n ≤ 7 → FrameToGo fr → FrameToGo (recount_in fr n)
recount_to_go None n h g = g
recount_to_go (Some f) n h g = go f.phase refl g
  where
    go : (p : Phase) → f.phase ≡ p → ToGo p f.remaining → FrameToGo (cond (is_data p && not f.address) (Some (recounted n f)) (Some f))
    go Data e t =
        either FrameToGo (not f.address) (subst (λ (q : Phase). ToGo q (bits_of false n)) (sym e) (bits_to_go false n h))
        (subst (λ (q : Phase). ToGo q f.remaining) (sym e) t)
    go Ack e t = subst (λ (q : Phase). ToGo q f.remaining) (sym e) t
    go Done e t = subst (λ (q : Phase). ToGo q f.remaining) (sym e) t

-- ## Steps that raise at most TDRE, and any fact that this keeps

module _ (P : Fact) where
  pub hold_kept : (x : Hold) (s : Iic) → Kept P s → Kept P (set_hold_of x s)
  unfolding set_hold_of
  hold_kept x s h = either (Kept P) (synchronous s) h h

  pub begun_kept : (start : Bool) (s : Iic) → Kept P s → Kept P (begun_of start s)
  unfolding begun_of
  begun_kept start s h = (h.0, h.1, tt)

  module _ (tdre : (status seen : ℕ) (r : Rates) → P status seen r → P (bit_or status TDRE) seen r) where
    load_in_lem : (fr : Option Frame) (s : Iic) → FrameToGo fr → Kept P s → Kept P (load_in fr s)
    load_in_lem None s g h = h
    load_in_lem (Some f) s g h = either (Kept P) (can_load s f) (tdre s.registers.status s.registers.seen s.rates h.0, h.1, g) h

    pub load_kept : (s : Iic) → Kept P s → Kept P (load_transmit_of s)
    unfolding load_transmit_of
    load_kept s h = load_in_lem s.frame s h.2 h

    begin_kept : (address : Bool) (s : Iic) → Kept P s → Kept P (begin_frame_of address s)
    unfolding begin_frame_of
    begin_kept address s h = load_kept _ (h.0, h.1, bits_to_go address s.registers.count h.1.0)

    pub next_kept : (s : Iic) → Kept P s → Kept P (next_frame_of s)
    unfolding next_frame_of
    next_kept s h = either (Kept P) (frame_due s) (begin_kept false s h) h

-- ## The others, with `seen` within a byte and one rate set

module _ (b : Bound) where
  abbrev Good : Iic → Type 0
  Good s = Kept (Within b) s

  -- ICSR doesn't matter to it
  pub any_status : (status seen : ℕ) (r : Rates) → Within b status seen r → Within b (bit_or status TDRE) seen r
  any_status status seen r h = h

  -- ## The shifter

  lost_kept : (lost : Bool) (s : Iic) → Good s → Good (when_lost_of lost s)
  unfolding when_lost_of arbitration_lost_of
  lost_kept lost s h = either Good lost (h.0, h.1, yield_to_go s.frame h.2) h

  received_kept : (v : ℕ) (s : Iic) → Good s → Good (received_of v s)
  unfolding received_of overrun_of stored_of
  received_kept v s h = either Good (synchronous s && has s.registers.status RDRF) h h

  acknowledged_kept : (sda : Bool) (s : Iic) → Good s → Good (acknowledged_of sda s)
  unfolding acknowledged_of
  acknowledged_kept sda s h = either Good (synchronous s) h h

  complete_kept : (f : Frame) (sda : Bool) (s : Iic) → Good s → Good (complete_frame_of f sda s)
  unfolding complete_frame_of drained_of
  complete_kept f sda s h =
      either Good f.transmit (acknowledged_kept sda (completed_of s) k)
      (either Good (receives f (completed_of s)) (received_kept f.shift (completed_of s) k) k)
    where
      k : Good (completed_of s)
      k = (h.0, (omega arith, h.1.1), h.2)

  addressed_kept : (f : Frame) (s : Iic) → Good s → Good (addressed_of f s)
  unfolding addressed_of matched_of select_of
  addressed_kept f s h = either Good (f.address && not (master s)) (either Good (hits f.shift s) h h) h

  finished_kept : (last : Bool) (s : Iic) → Good s → Good (finished_of last s)
  unfolding finished_of
  finished_kept last s h = either Good last h h

  end_bits_lem : (f : Frame) (sda : Bool) (s : Iic) → f.remaining ≡ 0 → Good s → Good (end_bits f sda s)
  unfolding end_synchronous_of
  end_bits_lem f sda s e h =
      let k = finished_kept f.last _ (complete_kept f sda s h) in
      either Good (synchronous s) (k.0, k.1, e) (h.0, h.1, e)

  bit_taken_lem : (f : Frame) (sda : Bool) (s : Iic) → f.phase ≡ Data → f.remaining ≤ 8 → Good s → Good (bit_taken f sda s)
  unfolding last_bit_of
  bit_taken_lem f sda s p l h =
      by_cases Good (eqb f.remaining 0)
      (λ e. end_bits_lem f sda (addressed_of f s) (eqb-true f.remaining 0 e) (addressed_kept f s h))
      (λ e. (h.0, h.1, subst (λ (q : Phase). ToGo q f.remaining) (sym p) (some f.remaining (eqb-false f.remaining 0 e), l)))

  rising_at_lem : (p : Phase) (f : Frame) (sda : Bool) (s : Iic) → f.phase ≡ p → ToGo p f.remaining → Good s → Good (rising_at p f sda s)
  unfolding rising_data_of rising_ack_of
  rising_at_lem Data f sda s e g h =
      bit_taken_lem (sampled (loses f sda s) sda f) sda (when_lost_of (loses f sda s) s) e (less f.remaining g.1) (lost_kept (loses f sda s) s h)
    where
      less : (n : ℕ) → n ≤ 8 → n - 1 ≤ 8
      less n l = omega arith
  rising_at_lem Ack f sda s e g h = let k = complete_kept f sda s h in (k.0, k.1, g)
  rising_at_lem Done f sda s e g h = h

  rising_in_lem : (fr : Option Frame) (sda : Bool) (s : Iic) → FrameToGo fr → Good s → Good (rising_in fr sda s)
  rising_in_lem None sda s g h = h
  rising_in_lem (Some f) sda s g h = either Good (not f.loaded) h (rising_at_lem f.phase f sda s refl g h)

  pub rising_kept : (sda : Bool) (s : Iic) → Good s → Good (rising_of sda s)
  unfolding rising_of
  rising_kept sda s h = rising_in_lem s.frame sda s h.2 h

  -- ## Starts and stops

  release_kept : (s : Iic) → Good s → Good (release_sda_of s)
  unfolding release_sda_of
  release_kept s h = either Good s.flags.reset h h

  address_kept : (s : Iic) → Good s → Good (begin_address_of s)
  unfolding begin_address_of
  address_kept s h = either Good s.flags.reset h (begin_kept (Within b) any_status true s h)

  pub bus_kept : (old : Levels) (s : Iic) → Good s → Good (bus_edge_of old s)
  unfolding bus_edge_of bus_stop_of bus_start_of
  bus_kept old s h =
      either Good (synchronous s) h
      (either Good (is_stop old s.lines.filtered) (release_kept _ (h.0, h.1, tt))
      (either Good (is_start old s.lines.filtered) (address_kept _ (lost_kept (master s && s.lines.drive.sda) s h)) h))

  clocked_at_lem : (x : Condition) (s : Iic) → Good s → Good (clocked_at x s)
  clocked_at_lem NoCondition s h = h
  clocked_at_lem StartRelease s h = h
  clocked_at_lem StartHigh s h = h
  clocked_at_lem StartHold s h = h
  clocked_at_lem StopLow s h = h
  clocked_at_lem StopHigh s h = h
  clocked_at_lem StopRelease s h = (h.0, h.1, tt)
  clocked_at_lem StopDetect s h = h

  pub clocked_kept : (s : Iic) → Good s → Good (clocked_of s)
  unfolding clocked_of
  clocked_kept s h = clocked_at_lem s.condition s h

  raised_at_lem : (x : Condition) (s : Iic) → Good s → Good (raised_at x s)
  raised_at_lem NoCondition s h = h
  raised_at_lem StartRelease s h = h
  raised_at_lem StartHigh s h = h
  raised_at_lem StartHold s h = h
  raised_at_lem StopLow s h = h
  raised_at_lem StopHigh s h = h
  raised_at_lem StopRelease s h = h
  raised_at_lem StopDetect s h = h

  pub raised_kept : (s : Iic) → Good s → Good (raised_of s)
  unfolding raised_of
  raised_kept s h = raised_at_lem s.condition s h

  -- ## A falling clock

  end_in_lem : (fr : Option Frame) (s : Iic) → Good s → Good (end_in fr s)
  end_in_lem None s h = h
  end_in_lem (Some f) s h = either Good (is_done f.phase) (h.0, h.1, tt) h

  pub end_kept : (s : Iic) → Good s → Good (end_frame_of s)
  unfolding end_frame_of
  end_kept s h = end_in_lem s.frame s h

  follow_in_lem : (fr : Option Frame) (s : Iic) → FrameToGo fr → Good s → Good (follow_in fr s)
  follow_in_lem None s g h = h
  follow_in_lem (Some f) s g h = either Good (is_data f.phase) (h.0, h.1, g) h

  pub follow_kept : (s : Iic) → Good s → Good (follow_of s)
  unfolding follow_of
  follow_kept s h = follow_in_lem s.frame s h.2 h

  fall_data_in_lem : (fr : Option Frame) (s : Iic) → Good s → Good (fall_data_in fr s)
  unfolding hold_transmit_of
  fall_data_in_lem None s h = h
  fall_data_in_lem (Some f) s h =
      either Good (starved f) (either Good (synchronous s && master s) h (hold_kept (Within b) Transmit s h)) h

  pub fall_data_kept : (s : Iic) → Good s → Good (fall_data_of s)
  unfolding fall_data_of
  fall_data_kept s h = fall_data_in_lem s.frame s h

  pub fall_taken_kept : (f : Frame) (now : Time) (s : Iic) → Good s → Good (fall_taken_of f now s)
  unfolding fall_taken_of acknowledge_of hold_receive_of
  fall_taken_kept f now s h =
      either Good (not f.transmit && (s.flags.selected || master s) && has s.registers.status RDRF && not s.flags.stale_release)
      (hold_kept (Within b) Receive (set_eighth_fall (Some now) s) h) h

  pub fall_idle_kept : (s : Iic) → Good s → Good (fall_idle_of s)
  unfolding fall_idle_of
  fall_idle_kept s h = either Good (master s) h h

  show_in_lem : (fr : Option Frame) (s : Iic) → Good s → Good (show_in fr s)
  show_in_lem None s h = h
  show_in_lem (Some f) s h = h

  pub show_kept : (s : Iic) → Good s → Good (show_of s)
  unfolding show_of
  show_kept s h = show_in_lem s.frame s h

  -- ## Registers

  pub continued_kept : (s : Iic) → Good s → Good (continued_of s)
  unfolding continued_of
  continued_kept s h =
      either Good (master s && not s.flags.receive_stopped)
      (h.0, h.1, mark_to_go s.frame (has s.registers.control RCVD) h.2) h

  pub control_kept : (value : ℕ) (s : Iic) → Good s → Good (take_control_of value s)
  unfolding take_control_of control_set redirected
  control_kept value s h =
      either Good (eqb (bit_and s.registers.control (MST + TRS)) (bit_and value (MST + TRS))) h
      (h.0, h.1, redirect_to_go s.frame _ _ _ _ h.2)

  pub pull_kept : (value : ℕ) (s : Iic) → Good s → Good (pull_sda_of value s)
  unfolding pull_sda_of
  pull_kept value s h = either Good (has value SDAOP) h h

  pub mode_kept : (value : ℕ) (s : Iic) → Good s → Good (write_mode_of value s)
  unfolding write_mode_of
  mode_kept value s h =
      either Good (has value BCWP) (h.0, (h.1.0, masked_mode value), h.2)
      (h.0, (and_le_r value BC, masked_mode value), recount_to_go s.frame (bit_and value BC) (and_le_r value BC) h.2)

  -- a frame under way is dropped
  pub stop_kept : (s : Iic) → Good s → Good (stop_shifter_of s)
  unfolding stop_shifter_of
  stop_kept s h = (h.0, h.1, tt)

  pub reset_kept : (s : Iic) → Good s → Good (enter_reset_of s)
  unfolding enter_reset_of stop_shifter_of
  reset_kept s h = (h.0, h.1, tt)
