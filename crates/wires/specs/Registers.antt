-- Laws: reads and writes keep the rules, whatever is written, as long as they allow the unit to be switched off where a write of ICCR1 does that. Assumes nothing.
use Rattle.std.specs.Prelude.{ℕ, ◌+◌, true, false, ◌&&◌, ◌≡◌, refl, eqb, None, Option, Some}
use Rattle.std.proofs.Common.{sym, subst}
use Rattle.std.specs.Int.Bits.{bit_and}
use Rattle.bus.specs.Bits.{has}
use Rattle.domain.specs.declared.Domain.{Domain}
use Rattle.hosts.specs.Invariant.{Leaves}
use Rattle.hosts.specs.Left.{then_leaves}
use Rattle.iic.specs.Answers.{Stepped, and_then, fine}
use Rattle.registers.specs.Bits.{BBSY, ICE, IICRST, MST, TRS}
use Rattle.iic.specs.Reading.{continued_of, read_at, read_data_of, resumed_of, taken_of}
use Rattle.iic.specs.Setters.{set_command}
use Rattle.iic.specs.Shift.{can_load, load_in, load_transmit_of}
use Rattle.iic.specs.State.{enabled, held, is_hold, is_transmit_hold, stop_shifter_of, transmits}
use Rattle.iic.specs.Waiting.{schedule_filter_of}
use Rattle.iic.specs.Writing.{control_set, enter_reset_of, give_data_of, out_of_reset_of, pull_sda_of, redirected, send_on_of, stop_receive_of, take_control_of, takes_command, write_address_of, write_at, write_command_of, write_control_of, write_data_of, write_enable_of, write_status_of}
use Rattle.iic.specs.declared.Condition.TheVariants.{NoCondition}
use Rattle.iic.specs.declared.Hold.{Hold}
use Rattle.iic.specs.declared.Hold.TheVariants.{NoHold, Receive, Transmit}
use Rattle.iic.specs.declared.Iic.{Iic}
use Rattle.registers.specs.declared.Register.{Register}
use Rattle.registers.specs.declared.Register.TheVariants.{ICCR1, ICCR2, ICDRR, ICDRT, ICIER, ICMR, ICSR, SAR}
use Rattle.time.specs.declared.Time.{Time}
use Rattle.rates.specs.declared.Rates.{Rates}
use Rattle.time.specs.Truths.{by_cases, either}
use Rattle.wires.specs.Held.{dropping, halve, prepare, switch}
use Rattle.wires.specs.Kicks.{kick, release_hold, schedule_rests, then_kick}
use Rattle.wires.specs.Rules.{Keeps, Lawful, Rules}
use Rattle.iic.specs.TimingLaws.{continued, load, pull_sda, take_control, write_mode}
use Rattle.wires.specs.Views.{View, unawaited}
use Rattle.frames.specs.declared.Frame.{Frame}

-- ICCR1 is as written
pub control_is : (value : ℕ) (s : Iic) → (take_control_of value s).registers.control ≡ value
unfolding take_control_of control_set redirected
control_is value s = either (λ (x : Iic). x.registers.control ≡ value) (eqb (bit_and s.registers.control (MST + TRS)) (bit_and value (MST + TRS))) refl refl

transmit_hold : (h : Hold) → is_transmit_hold h ≡ true → is_hold h ≡ true
transmit_hold NoHold e = e
transmit_hold Transmit e = refl
transmit_hold Receive e = refl

load_hold : (s : Iic) → (load_transmit_of s).hold ≡ s.hold
unfolding load_transmit_of
load_hold s = go s.frame
  where
    go : (fr : Option Frame) → (load_in fr s).hold ≡ s.hold
    go None = refl
    go (Some f) = either (λ (x : Iic). x.hold ≡ s.hold) (can_load s f) refl refl

module _ {now : Time} {system : Domain} {R : Rules} {r : Rates} (L : Lawful now system R r) (v : View) where
  abbrev G : Iic → Type 0
  G s = Keeps R r v s

  abbrev To : Stepped → Type 0
  To o = Leaves (Keeps R r v) o

  -- ## `read`

  resumed : (s : Iic) → G s → To (resumed_of now system s)
  unfolding resumed_of
  resumed s h = by_cases To (held s) (λ e. release_hold L v s e h) (λ e. h)

  read_data : (s : Iic) → G s → To (read_data_of now system s)
  unfolding read_data_of taken_of
  read_data s h =
      let t : Iic = taken_of now s in
      either To (transmits t) h (then_kick L v (resumed_of now system (continued_of t)) (resumed (continued_of t) (continued (dropping L v) t h)))

  pub read_keeps : (x : Register) (s : Iic) → G s → To (read_at x now system s)
  unfolding read_at
  read_keeps ICCR1 s h = h
  read_keeps ICCR2 s h = h
  read_keeps ICMR s h = h
  read_keeps ICIER s h = h
  read_keeps ICSR s h = h
  read_keeps SAR s h = h
  read_keeps ICDRT s h = h
  read_keeps ICDRR s h = read_data s h

  -- ## `write`

  stopped : (s : Iic) → G s → G (stop_shifter_of s)
  unfolding stop_shifter_of
  stopped s h = prepare (halve h None None NoCondition NoHold L.no_clock tt) None L.no_setup

  -- a write of ICCR1 leaves the unit on, where that is asked, or has no wait of the filter to take away
  pub record Allowed (value : ℕ) (s : Iic) : Type 0 where
    pub stays : R.On (s.flags.gate && has value ICE)
    pub drops : has value ICE ≡ false → None ≡ v.filter

  write_control : (value : ℕ) (s : Iic) → unawaited v ≡ false → Allowed value s → G s → To (write_control_of value now system s)
  unfolding write_control_of stop_receive_of stop_shifter_of
  write_control value s a al h =
      let t : Iic = take_control_of value s in
      let g : G t = take_control (dropping L v) value s (switch h (s.flags.gate && has value ICE) al.stays) in
      by_cases To (enabled t)
      (λ e. then_kick L v (and_then (schedule_filter_of now system t) (λ u. fine (stop_receive_of u)))
      (then_leaves G G (schedule_filter_of now system t) (λ u. fine (stop_receive_of u)) (schedule_rests L v t a g) (λ u f. f)))
      (λ e. let d : G (stop_shifter_of t) = stopped t g in
      record { on = d.on; raw = d.raw; latch = d.latch; filtered = d.filtered; filter = al.drops (rw (control_is value s) at e); clock = d.clock; monitor = d.monitor; setup = d.setup; rates = d.rates })

  write_command : (value : ℕ) (s : Iic) → G s → To (write_command_of value now system s)
  unfolding write_command_of enter_reset_of out_of_reset_of stop_shifter_of
  write_command value s h =
      let g : G (pull_sda_of value s) = pull_sda (dropping L v) value s h in
      either To (has value IICRST) (stopped s h)
      (either To s.flags.reset h
      (either To (takes_command value (pull_sda_of value s)) (kick L v (set_command (Some (has value BBSY)) (pull_sda_of value s)) g) g))

  send_on : (s : Iic) → G s → To (send_on_of now system s)
  unfolding send_on_of
  send_on s h =
      by_cases To (is_transmit_hold s.hold)
      (λ e. release_hold L v (load_transmit_of s) (subst (λ (x : Hold). is_hold x ≡ true) (sym (load_hold s)) (transmit_hold s.hold e)) (load (dropping L v) s h))
      (λ e. h)

  pub write_keeps : (x : Register) (value : ℕ) (s : Iic) → unawaited v ≡ false → (x ≡ ICCR1 → Allowed value s) → G s → To (write_at x value now system s)
  unfolding write_at write_data_of write_enable_of write_status_of write_address_of give_data_of
  write_keeps ICCR1 value s a al h = write_control value s a (al refl) h
  write_keeps ICCR2 value s a al h = write_command value s h
  write_keeps ICMR value s a al h = write_mode (dropping L v) value s h
  write_keeps ICIER value s a al h = h
  write_keeps ICSR value s a al h = kick L v (write_status_of value s) h
  write_keeps SAR value s a al h = kick L v (write_address_of value s) h
  write_keeps ICDRT value s a al h = then_kick L v (send_on_of now system (give_data_of value s)) (send_on (give_data_of value s) h)
  write_keeps ICDRR value s a al h = h
