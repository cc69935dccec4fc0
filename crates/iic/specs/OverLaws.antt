-- Laws: in a clock set without a zero a call is that over its system clock alone; a visit and a deadline, where the waits that may be on any tap are
-- on that clock. Assumes nothing.
use Rattle.std.specs.Prelude.{ℕ, Bool, true, ◌≡◌, Option}
use Rattle.clocks.specs.Clocks.{has_zero}
use Rattle.clocks.specs.SystemLaws.{system_free}
use Rattle.clocks.specs.declared.Clocks.{Clocks}
use Rattle.iic.specs.AnswerLaws.{alike}
use Rattle.iic.specs.Answers.{Stepped, and_then, fine, guarded}
use Rattle.iic.specs.Calls.{advance_of, deadline_of, ends_of, guard_by, input_pins_of, read_of, visit_of, write_of}
use Rattle.iic.specs.Clocking.{fire_clock_of, fire_filter_of, fire_monitor_of, fire_setup_of}
use Rattle.iic.specs.Kick.{kick_of}
use Rattle.iic.specs.Over.{advance_over, deadline_over, fired_by, input_pins_over, read_over, system_ends, waits_on_system, write_over}
use Rattle.iic.specs.SetupLaws.{setup_kept}
use Rattle.iic.specs.State.{awake}
use Rattle.iic.specs.declared.Ends.{Ends}
use Rattle.iic.specs.declared.Iic.{Iic}
use Rattle.time.specs.Truths.{and_left, and_right}
use Rattle.time.specs.declared.Time.{Time}
use Rattle.waits.specs.Ends.{is_on_system, wait_end}
use Rattle.waits.specs.SystemLaws.{system_end_lem}
use Rattle.std.proofs.Math.Bool.{cond, false}
use Rattle.std.proofs.Common.{◌∙◌, ap₂, sym}
use Rattle.std.proofs.Math.Path.{ap}
use Rattle.clocks.specs.declared.wait.ClockWait.{ClockWait}

-- a visit, with both ends worked out before it
pub visit_by_ends : (now : Time) (k : Clocks) (s : Iic) → cond (awake s) (fired_by (ends_of s k) now k.system (fine s)) (fine s) ≡ visit_of now k s
unfolding visit_of
visit_by_ends now k s =
    let o : Stepped = fire_filter_of (wait_end s.filter_wait k) now k.system s in
    let rest : Stepped → Stepped = λ (u : Stepped). cond (awake s) (and_then (and_then (and_then u (fire_monitor_of now k.system)) (fire_clock_of now k.system)) (kick_of now k.system)) (fine s) in
    ap rest (alike o (fire_setup_of (wait_end s.setup_wait k) now) (λ (u : Iic). fire_setup_of (wait_end u.setup_wait k) now u)
    (ap (λ (w : Option ClockWait). fire_setup_of (wait_end w k) now o.state) (sym (setup_kept (wait_end s.filter_wait k) now k.system s))))

module _ (k : Clocks) (free : has_zero k ≡ false) where
  pub read_over_lem : (s : Iic) (a : ℕ) (now : Time) → read_of s a now k ≡ read_over s a now k.system
  unfolding read_of read_over
  read_over_lem s a now = rw (free, system_free k free)

  pub write_over_lem : (s : Iic) (a value : ℕ) (now : Time) → write_of s a value now k ≡ write_over s a value now k.system
  unfolding write_of write_over
  write_over_lem s a value now = rw (free, system_free k free)

  pub input_pins_over_lem : (s : Iic) (scl sda : Bool) (now : Time) → input_pins_of s scl sda now k ≡ input_pins_over s scl sda now k.system
  unfolding input_pins_of input_pins_over
  input_pins_over_lem s scl sda now = rw (free, system_free k free)

  ends_over : (s : Iic) → waits_on_system s ≡ true → ends_of s k ≡ system_ends s k.system
  ends_over s h =
      ap₂ (λ (f g : _). record { filter = f; setup = g })
      (system_end_lem k free s.filter_wait (and_left _ _ h)) (system_end_lem k free s.setup_wait (and_right (is_on_system s.filter_wait) _ h))

  pub deadline_over_lem : (s : Iic) → waits_on_system s ≡ true → deadline_of s k ≡ deadline_over s k.system
  unfolding deadline_of deadline_over
  deadline_over_lem s h = rw (free, system_free k free, ends_over s h)

  pub advance_over_lem : (s : Iic) (now : Time) → waits_on_system s ≡ true → advance_of s now k ≡ advance_over s now k.system
  unfolding advance_of advance_over
  advance_over_lem s now h =
      rw (free, system_free k free)
      (ap (guarded (guard_by false s) s) (sym (visit_by_ends now k s)
      ∙ ap (λ (ends : Ends). cond (awake s) (fired_by ends now k.system (fine s)) (fine s)) (ends_over s h)))
