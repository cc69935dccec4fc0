-- Laws: over two clock sets that are alike, each of the eleven calls answers alike and leaves the same state, and so does any list of them: the proof of
-- `AlikeAgree`. Assumes nothing.
use Rattle.std.specs.Prelude.{ℕ, Bool, ◌&&◌, [], ◌∷◌, ◌≡◌, refl, Err, None, Ok, Option, Result, ⊤}
use Rattle.std.specs.Bool.{beq}
use Rattle.std.proofs.Math.Bool.{false, cond}
use Rattle.std.proofs.Common.{◌∙◌}
use Rattle.std.proofs.Math.Path.{ap, ap₂}
use Rattle.bus.specs.declared.Levels.{Levels}
use Rattle.bus.specs.Bus.{levels, same_levels}
use Rattle.clocks.specs.Clocks.{has_zero}
use Rattle.waits.specs.Ends.{sooner}
use Rattle.iic.specs.Answers.{Stepped, answered, fine, guarded, refused}
use Rattle.iic.specs.Calls.{advance_of, deadline_of, earliest_of, ends_of, guard_by, input_pins_of, keep_stretched_of, peek_of, read_of, set_gate_of, take_pins_of, turn_gate_of, turn_waits_of, visit_of, write_of}
use Rattle.iic.specs.Filter.{observes}
use Rattle.registers.specs.Registers.{register_at}
use Rattle.iic.specs.Setters.{set_gate as gated, set_raw}
use Rattle.iic.specs.State.{awake}
use Rattle.iic.specs.Told.{of_byte, of_deadline, of_end, of_truth}
use Rattle.hosts.specs.Calls.{Call, Outcome, advance, deadline, input_pins, interrupt, interrupt_with_enable, outcome, outcome_of, peek, pins, read, set_gate, validate, write}
use Rattle.moves.specs.Steps.{alone, fire_clock, fire_filter, fire_monitor, fire_setup, if_both, kick, read_at_lem, schedule_filter, then_both, turn_clock, turn_filter, turn_monitor, turn_setup, write_at_lem}
use Rattle.moves.specs.Waits.{half_ends, wait_ends}
use Rattle.time.specs.declared.Time.{Time}
use Rattle.clocks.specs.declared.Clocks.{Clocks}
use Rattle.iic.specs.declared.Iic.{Iic}
use Rattle.moves.specs.Statement.{CallFrom, From, outcomes}
use Rattle.moves.specs.Alike.{Ahead, Alike, AlikeAgree, Both, Keeps, KeepsOver, last_state}
use Rattle.refusals.specs.declared.Refusal.{Refusal}

-- ## `input_pins`, `set_gate`, `advance`

module _ (k k' : Clocks) (s : Time) (o : ℕ) (alike : Alike k k' s o) (now : Time) (from : From s now) where
  take_pins : (given : Levels) → KeepsOver k k' o (take_pins_of given now)
  unfolding take_pins_of
  take_pins given u h =
      if_both (same_levels u.lines.raw given) (alone (fine u) h) (schedule_filter k k' s o alike now from (set_raw given u) h)

  keep_stretched : (gate : Bool) → KeepsOver k k' o (keep_stretched_of gate now)
  unfolding keep_stretched_of
  keep_stretched gate u h = if_both (gate && u.flags.synchronized_hold) (turn_clock k k' s o alike now from false u h) (alone (fine u) h)

  turn_waits : (gate : Bool) → Keeps k k' o (turn_waits_of gate now)
  unfolding turn_waits_of
  turn_waits gate u h =
      then_both (then_both (then_both (then_both (turn_clock k k' s o alike now from gate u h) (turn_monitor k k' s o alike now from gate)) (keep_stretched gate))
      (turn_filter k k' s o alike now from gate)) (turn_setup k k' s o alike now from gate)

  turn_gate : (gate : Bool) → Keeps k k' o (turn_gate_of gate now)
  unfolding turn_gate_of
  turn_gate gate u h =
      let turned = turn_waits gate (gated gate u) h in
      if_both (beq u.flags.gate gate) (alone (fine u) h)
      (if_both gate (then_both (then_both turned (schedule_filter k k' s o alike now from)) (kick k k' s o alike now from)) turned)

  visit : Keeps k k' o (visit_of now)
  unfolding visit_of
  visit u h =
      if_both (awake u)
      (then_both (then_both (then_both (then_both (fire_filter k k' s o alike now from u h) (fire_setup k k' s o alike now from))
      (fire_monitor k k' s o alike now from)) (fire_clock k k' s o alike now from)) (kick k k' s o alike now from))
      (alone (fine u) h)

-- ## Each call

-- the answer and the state
record Same (k k' : Clocks) (o : ℕ) (x x' : Outcome) : Type 0 where
  same : x ≡ x'
  ahead : Ahead k k' o x.state

module _ (k k' : Clocks) (s : Time) (o : ℕ) (alike : Alike k k' s o) where
  -- behind the refusals that stand first
  guard : (u : Iic) {x x' : Stepped} → Ahead k k' o u → Both k k' o x x' → Both k k' o (guarded (guard_by (has_zero k) u) u x) (guarded (guard_by (has_zero k') u) u x')
  guard u {x} {x'} h g = rw (alike.free, alike.free') (go (guard_by false u))
    where
      go : (e : Result ⊤ Refusal) → Both k k' o (guarded e u x) (guarded e u x')
      go (Ok v) = g
      go (Err n) = alone (refused n u) h

  ends_alike : (u : Iic) → Ahead k k' o u → deadline_of u k ≡ deadline_of u k'
  unfolding deadline_of earliest_of
  ends_alike u h =
      let earliest : earliest_of (ends_of u k) u k.system ≡ earliest_of (ends_of u k') u k'.system =
      ap₂ sooner (wait_ends k k' s o alike u.filter_wait h.2)
      (ap₂ sooner (half_ends k k' s o alike u.clock_wait h.0)
      (ap₂ sooner (half_ends k k' s o alike u.monitor_wait h.1) (wait_ends k k' s o alike u.setup_wait h.3))) in
      rw (alike.free, alike.free') (ap (λ (d : Result (Option Time) Refusal). cond (awake u) d (Ok None)) earliest)

  stepped : {x x' : Stepped} → Both k k' o x x' → Same k k' o (outcome (of_end x.answer) x.state) (outcome (of_end x'.answer) x'.state)
  stepped g = record { same = ap (λ (z : Stepped). outcome (of_end z.answer) z.state) g.same; ahead = g.ahead }

  call : (x : Call) → CallFrom s x → (u : Iic) → Ahead k k' o u → Same k k' o (outcome_of k x u) (outcome_of k' x u)
  unfolding outcome_of read_of write_of input_pins_of set_gate_of advance_of
  call (peek a) from u h = record { same = refl; ahead = h }
  call (read a now) from u h =
      let g = guard u h (read_at_lem k k' s o alike now from (register_at a) u h) in
      record {
        same = ap (λ (z : Stepped). outcome (of_byte (answered z (peek_of u a)).answer) z.state) g.same;
        ahead = g.ahead;
      }
  call (write a value now) from u h = stepped (guard u h (write_at_lem k k' s o alike now from (register_at a) value u h))
  call (input_pins scl sda now) from u h =
      let g = guard u h (take_pins k k' s o alike now from (levels scl sda) u h) in
      record {
        same = ap (λ (z : Stepped). outcome (of_truth (answered z (observes u (levels scl sda))).answer) z.state) g.same;
        ahead = g.ahead;
      }
  call (set_gate gate now) from u h = stepped (guard u h (turn_gate k k' s o alike now from gate u h))
  call deadline from u h = record { same = ap (λ (d : Result (Option Time) Refusal). outcome (of_deadline d) u) (ends_alike u h); ahead = h }
  call (advance now) from u h = stepped (guard u h (visit k k' s o alike now from u h))
  call pins from u h = record { same = refl; ahead = h }
  call interrupt from u h = record { same = refl; ahead = h }
  call (interrupt_with_enable retained) from u h = record { same = refl; ahead = h }
  call (validate now) from u h = record { same = refl; ahead = h }

-- ## Any list

pub alike_agree_lem : AlikeAgree
unfolding outcomes last_state
alike_agree_lem k k' s o alike u h [] from = (refl, h)
alike_agree_lem k k' s o alike u h (x ∷ l) from =
    let first = call k k' s o alike x from.0 u h in
    let rest = alike_agree_lem k k' s o alike (outcome_of k x u).state first.ahead l from.1 in
    (ap₂ ◌∷◌ first.same (rest.0 ∙ ap (λ (z : Outcome). outcomes k' z.state l) first.same), rest.1)
