-- Laws: every call that isn't refused keeps the invariant of a host or makes it. A call either ends in a kick, or leaves the
-- peripheral off, gated off or in reset, or touches nothing that a kick looks at; or it is a write that lifts the reset.
use Rattle.std.specs.Prelude.{ℕ, Bool, true, false, not, ◌&&◌, ◌||◌, cond, ◌≡◌, refl, Err, None, Ok, Option, Result, Some, ⊤}
use Rattle.std.specs.Bool.{beq}
use Rattle.std.proofs.Common.{true≢false, sym, ◌∙◌}
use Rattle.std.proofs.Math.Bool.{and-false}
use Rattle.std.specs.Int.Bits.{bit_and}
use Rattle.bus.specs.declared.Levels.{Levels}
use Rattle.bus.specs.Bits.{has}
use Rattle.bus.specs.Bus.{same_levels, levels}
use Rattle.time.specs.declared.Time.{Time}
use Rattle.clocks.specs.declared.Clocks.{Clocks}
use Rattle.domain.specs.declared.Domain.{Domain}
use Rattle.clocks.specs.Clocks.{has_zero}
use Rattle.clocks.specs.System.{system_after}
use Rattle.iic.specs.declared.Iic.{Iic}
use Rattle.registers.specs.declared.Register.{Register}
use Rattle.registers.specs.declared.Register.TheVariants.{ICCR1, ICCR2, ICMR, ICIER, ICSR, SAR, ICDRT, ICDRR}
use Rattle.iic.specs.Reading.{taken_of, continued_of}
use Rattle.registers.specs.Registers.{register_at}
use Rattle.iic.specs.Writing.{take_control_of, stop_receive_of, enter_reset_of, pull_sda_of, takes_command, write_mode_of, write_enable_of, write_status_of, write_address_of, give_data_of}
use Rattle.iic.specs.Reading.{resumed_of, receive_on, read_data_of, read_at}
use Rattle.iic.specs.Writing.{control_taken, write_control_of, command_from, out_of_reset_of, write_command_of, send_on_of, write_data_of, write_at}
use Rattle.frames.specs.Parts.{recount_in, is_data}
use Rattle.iic.specs.Answers.{Stepped, and_then, fine, guarded}
use Rattle.registers.specs.Bits.{TDRE, NACKF, BC, BCWP, IICRST, SDAOP}
use Rattle.iic.specs.Calls.{guard_by, peek_of, take_pins_of, keep_stretched_of, turn_waits_of, turn_gate_of, visit_of, read_of, write_of, input_pins_of, set_gate_of, advance_of}
use Rattle.iic.specs.Filter.{observes}
use Rattle.iic.specs.Clocking.{fire_filter_of, fire_setup_of, fire_monitor_of, fire_clock_of}
use Rattle.iic.specs.Setters.{set_frame, set_seen, set_raw, set_gate, set_reset, set_clock_wait, set_monitor_wait, set_filter_wait, set_setup_wait}
use Rattle.iic.specs.State.{stop_shifter_of, enabled, awake, transmits, conditioned}
use Rattle.iic.specs.Waiting.{wants_filter, schedule_filter_of, filter_from, at_wait, turn_clock_of, turn_filter_of, turn_monitor_of, turn_setup_of, wait_from}
use Rattle.waits.specs.Ends.{turn_half, turn_wait, wait_end}
use Rattle.hosts.specs.Calls.{Call, peek, read, write, input_pins, deadline, advance, pins, interrupt, interrupt_with_enable, validate, outcome_of, Host, lifts, after}
use Rattle.iic.specs.Told.{of_end, is_refusal}
use Rattle.hosts.specs.Invariant.{Good, Leaves}
use Rattle.iic.specs.Settled.{settled}
use Rattle.hosts.specs.Kicked.{Settled, Settles, unready, kick_settles, then_kick}
use Rattle.hosts.specs.Left.{byte_refused, guarded_left, leaves_more, then_leaves, truth_refused, wait_leaves}
use Rattle.time.specs.Truths.{or_left, or_right}
use Rattle.bus.specs.MaskLaws.{has_kept}
use Rattle.refusals.specs.declared.Refusal.{Refusal}
use Rattle.frames.specs.declared.Frame.{Frame}

-- ## Off, gated off or in reset

asleep : (g e r : Bool) (c : Bool) → (g && e) ≡ false → (g && e && r && c) ≡ false
asleep true true r c h = absurd (true≢false h)
asleep true false r c h = refl
asleep false e r c h = refl

pub off : (s : Iic) → awake s ≡ false → settled s ≡ true
off s e = unready s (asleep s.flags.gate (enabled s) (not s.flags.reset) (not (conditioned s)) e)

disabled : (s : Iic) → enabled s ≡ false → settled s ≡ true
disabled s e = off s (rw e (and-false s.flags.gate))

ungated : (s : Iic) → s.flags.gate ≡ false → settled s ≡ true
ungated s e = off s (rw e)

in_reset_lem : (s : Iic) → s.flags.reset ≡ true → settled s ≡ true
in_reset_lem s e = unready s (rw e (rw (and-false (awake s))))

-- ## `input_pins`

schedule_at : (now : Time) (k : Domain) (s : Iic) (b : Bool) → Settled s
    → Settles (cond b (filter_from (system_after now 1 k) s) (fine s))
unfolding settled
schedule_at now k s true h = wait_leaves Settled set_filter_wait (system_after now 1 k) s (λ m i. h)
schedule_at now k s false h = h

schedule_settles : (now : Time) (k : Domain) (s : Iic) → Settled s → Settles (schedule_filter_of now k s)
unfolding schedule_filter_of
schedule_settles now k s h = schedule_at now k s (wants_filter s) h

pins_settles : (given : Levels) (now : Time) (k : Domain) (s : Iic) (b : Bool) → same_levels s.lines.raw given ≡ b → Settled s
    → Settles (take_pins_of given now k s)
unfolding take_pins_of settled
pins_settles given now k s true e h = rw e h
pins_settles given now k s false e h = rw e (schedule_settles now k (set_raw given s) h)

-- ## `set_gate`

abbrev pub Ungated : Iic → Type 0
Ungated s = s.flags.gate ≡ false

wait_off : {W : Type 0} (set : Option W → Iic → Iic) → ((x : Option W) (s : Iic) → Ungated s → Ungated (set x s))
    → (turned : W → Result W Refusal) (w : Option W) (s : Iic) → Ungated s → Leaves Ungated (at_wait w (λ v. wait_from set (turned v)) s)
wait_off set keeps turned None s h = h
wait_off set keeps turned (Some w) s h = wait_leaves Ungated set (turned w) s (λ v i. keeps (Some v) s h)

-- `turn_waits_of` by its parts, the last first
off_1 : (now : Time) (k : Domain) (s : Iic) → Ungated s → Leaves Ungated (and_then (turn_clock_of false now k s) (turn_monitor_of false now k))
unfolding turn_clock_of turn_monitor_of
off_1 now k s h =
    then_leaves Ungated Ungated (turn_clock_of false now k s) (turn_monitor_of false now k)
    (wait_off set_clock_wait (λ x t g. g) (turn_half false now k) s.clock_wait s h)
    (λ t g. wait_off set_monitor_wait (λ x u f. f) (turn_half false now k) t.monitor_wait t g)

pub waits_off : (now : Time) (k : Clocks) (s : Iic) → Ungated s → Leaves Ungated (turn_waits_of false now k s)
unfolding turn_waits_of keep_stretched_of turn_filter_of turn_setup_of
waits_off now k s h =
    let o1 : Stepped = and_then (turn_clock_of false now k.system s) (turn_monitor_of false now k.system) in
    let o2 : Stepped = and_then o1 (keep_stretched_of false now k.system) in
    let o3 : Stepped = and_then o2 (turn_filter_of false now k) in
    then_leaves Ungated Ungated o3 (turn_setup_of false now k)
    (then_leaves Ungated Ungated o2 (turn_filter_of false now k)
    (then_leaves Ungated Ungated o1 (keep_stretched_of false now k.system) (off_1 now k.system s h) (λ t g. g))
    (λ t g. wait_off set_filter_wait (λ x u f. f) (turn_wait false now k) t.filter_wait t g))
    (λ t g. wait_off set_setup_wait (λ x u f. f) (turn_wait false now k) t.setup_wait t g)

gate_settles : (gate : Bool) (now : Time) (k : Clocks) (s : Iic) (b : Bool) → beq s.flags.gate gate ≡ b → Settled s
    → Settles (turn_gate_of gate now k s)
unfolding turn_gate_of
gate_settles gate now k s true e h = rw e h
gate_settles true now k s false e h = rw e (then_kick now k.system (and_then (turn_waits_of true now k (set_gate true s)) (schedule_filter_of now k.system)))
gate_settles false now k s false e h =
    rw e (leaves_more Ungated Settled (turn_waits_of false now k (set_gate false s)) (waits_off now k (set_gate false s) refl) ungated)

-- ## `advance`

visit_settles : (now : Time) (k : Clocks) (s : Iic) (b : Bool) → awake s ≡ b → Settles (visit_of now k s)
unfolding visit_of
visit_settles now k s true e =
    rw e (then_kick now k.system (and_then (and_then (and_then (fire_filter_of (wait_end s.filter_wait k) now k.system s)
    (λ u. fire_setup_of (wait_end u.setup_wait k) now u)) (fire_monitor_of now k.system)) (fire_clock_of now k.system)))
visit_settles now k s false e = rw e (off s e)

-- ## `read`

-- clearing RDRF leaves TDRE and NACKF as they were
TDRE-kept : (x : ℕ) → has (bit_and x 0xdf) TDRE ≡ has x TDRE
TDRE-kept x = has_kept 0xdf TDRE x refl

NACKF-kept : (x : ℕ) → has (bit_and x 0xdf) NACKF ≡ has x NACKF
NACKF-kept x = has_kept 0xdf NACKF x refl

taken_settled : (now : Time) (s : Iic) → settled s ≡ true → settled (taken_of now s) ≡ true
unfolding taken_of settled
taken_settled now s h = rw (TDRE-kept s.registers.status, NACKF-kept s.registers.status) h

receive_settles : (now : Time) (k : Domain) (s : Iic) (b : Bool) → transmits s ≡ b → Settled s → Settles (receive_on now k s)
receive_settles now k s true e h = rw e h
receive_settles now k s false e h = rw e (then_kick now k (resumed_of now k (continued_of s)))

seen_settled : (s : Iic) → settled s ≡ true → settled (set_seen s.registers.status s) ≡ true
unfolding settled
seen_settled s h = h

read_settles : (r : Register) (now : Time) (k : Domain) (s : Iic) → Settled s → Settles (read_at r now k s)
unfolding read_at read_data_of
read_settles ICCR1 now k s h = h
read_settles ICCR2 now k s h = h
read_settles ICMR now k s h = h
read_settles ICIER now k s h = h
read_settles ICSR now k s h = seen_settled s h
read_settles SAR now k s h = h
read_settles ICDRT now k s h = h
read_settles ICDRR now k s h = receive_settles now k (taken_of now s) (transmits (taken_of now s)) refl (taken_settled now s h)

-- ## `write`

-- ICCR1
control_settles : (now : Time) (k : Domain) (s : Iic) (b : Bool) → enabled s ≡ b → Settles (control_taken now k s)
unfolding stop_shifter_of
control_settles now k s true e = rw e (then_kick now k (and_then (schedule_filter_of now k s) (λ u. fine (stop_receive_of u))))
control_settles now k s false e = rw e (disabled _ e)

-- ICCR2
enter_settled : (s : Iic) → settled (enter_reset_of s) ≡ true
unfolding enter_reset_of stop_shifter_of
enter_settled s = in_reset_lem _ refl

pull_settled : (value : ℕ) (s : Iic) (b : Bool) → has value SDAOP ≡ b → settled s ≡ true → settled (pull_sda_of value s) ≡ true
unfolding pull_sda_of settled
pull_settled value s true e h = rw e h
pull_settled value s false e h = rw e h

command_settles : (value : ℕ) (now : Time) (k : Domain) (s : Iic) (b : Bool) → takes_command value s ≡ b → Settled s
    → Settles (command_from value now k s)
command_settles value now k s true e h = rw e (kick_settles now k _)
command_settles value now k s false e h = rw e h

unless_lifted : (b : Bool) (s : Iic) (o : Stepped) → s.flags.reset ≡ b → lifts s (cond b (fine (set_reset false s)) o).state ≡ false → Settles o
    → Settles (cond b (fine (set_reset false s)) o)
unless_lifted true s o q n h = absurd (true≢false (rw q at n))
unless_lifted false s o q n h = h

reset_settles : (value : ℕ) (now : Time) (k : Domain) (s : Iic) (a : Bool) → has value IICRST ≡ a
    → lifts s (write_command_of value now k s).state ≡ false → Settled s → Settles (write_command_of value now k s)
unfolding write_command_of out_of_reset_of
reset_settles value now k s true p n h = rw p (enter_settled s)
reset_settles value now k s false p n h =
    rw p (unless_lifted s.flags.reset s (out_of_reset_of value now k s) refl (rw p at n)
    (command_settles value now k (pull_sda_of value s) _ refl (pull_settled value s (has value SDAOP) refl h)))

-- ICMR
recount_settled : (n : ℕ) (fr : Option Frame) (s : Iic) → settled (set_frame fr s) ≡ true → settled (set_frame (recount_in fr n) s) ≡ true
unfolding settled
recount_settled n None s h = h
recount_settled n (Some f) s h = go (is_data f.phase && not f.address) refl
  where
    go : (b : Bool) → (is_data f.phase && not f.address) ≡ b → settled (set_frame (recount_in (Some f) n) s) ≡ true
    go true e = rw e h
    go false e = rw e h

mode_settled : (value : ℕ) (s : Iic) (b : Bool) → has value BCWP ≡ b → settled s ≡ true → settled (write_mode_of value s) ≡ true
unfolding write_mode_of settled
mode_settled value s true e h = rw e h
mode_settled value s false e h = rw e (recount_settled (bit_and value BC) s.frame s h)

enable_settled : (value : ℕ) (s : Iic) → settled s ≡ true → settled (write_enable_of value s) ≡ true
unfolding write_enable_of settled
enable_settled value s h = h

write_settles : (r : Register) (value : ℕ) (now : Time) (k : Domain) (s : Iic)
    → lifts s (write_at r value now k s).state ≡ false → Settled s → Settles (write_at r value now k s)
unfolding write_at write_control_of write_data_of
write_settles ICCR1 value now k s n h = control_settles now k (take_control_of value s) (enabled (take_control_of value s)) refl
write_settles ICCR2 value now k s n h = reset_settles value now k s (has value IICRST) refl n h
write_settles ICMR value now k s n h = mode_settled value s (has value BCWP) refl h
write_settles ICIER value now k s n h = enable_settled value s h
write_settles ICSR value now k s n h = kick_settles now k (write_status_of value s)
write_settles SAR value now k s n h = kick_settles now k (write_address_of value s)
write_settles ICDRT value now k s n h = then_kick now k (send_on_of now k (give_data_of value s))
write_settles ICDRR value now k s n h = h

-- ## The refusals that stand first

-- where a guarded step isn't refused, it is the step itself
passes : (g : Result ⊤ Refusal) (s : Iic) (o : Stepped) → is_refusal (of_end (guarded g s o).answer) ≡ false → guarded g s o ≡ o
passes (Ok v) s o a = refl
passes (Err n) s o a = absurd (true≢false a)

-- ## Every call

write_good : (r : Register) (value : ℕ) (now : Time) (k : Clocks) (s : Iic) (was : Bool)
    → let o : Stepped = guarded (guard_by (has_zero k) s) s (write_at r value now k.system s) in
    is_refusal (of_end o.answer) ≡ false → (was ≡ false → Settled s) → (was || lifts s o.state) ≡ false → Settled o.state
write_good r value now k s was a g e =
    let w : Stepped = write_at r value now k.system s in
    let same : guarded (guard_by (has_zero k) s) s w ≡ w = passes (guard_by (has_zero k) s) s w a in
    let n : lifts s w.state ≡ false = rw same at (or_right was (lifts s (guarded (guard_by (has_zero k) s) s w).state) e) in
    guarded_left Settled (guard_by (has_zero k) s) s w (write_settles r value now k.system s n (g (or_left was _ e))) a

-- the host after a call that isn't refused is good where the one before was
pub good_after : (k : Clocks) (x : Call) (h : Host) → Good h → is_refusal (outcome_of k x h.state).answer ≡ false → Good (after k x h)
unfolding outcome_of after read_of write_of input_pins_of set_gate_of advance_of
good_after k (peek a) h g ok = g
good_after k (read a now) h g ok = λ e.
    guarded_left Settled (guard_by (has_zero k) h.state) h.state (read_at (register_at a) now k.system h.state)
    (read_settles (register_at a) now k.system h.state (g e)) (sym (byte_refused (guarded (guard_by (has_zero k) h.state) h.state (read_at (register_at a) now k.system h.state)).answer (peek_of h.state a)) ∙ ok)
good_after k (write a value now) h g ok = write_good (register_at a) value now k h.state h.lifted ok g
good_after k (input_pins scl sda now) h g ok = λ e.
    guarded_left Settled (guard_by (has_zero k) h.state) h.state (take_pins_of (levels scl sda) now k.system h.state)
    (pins_settles (levels scl sda) now k.system h.state _ refl (g e)) (sym (truth_refused (guarded (guard_by (has_zero k) h.state) h.state (take_pins_of (levels scl sda) now k.system h.state)).answer (observes h.state (levels scl sda))) ∙ ok)
good_after k (Call.set_gate gate now) h g ok = λ e.
    guarded_left Settled (guard_by (has_zero k) h.state) h.state (turn_gate_of gate now k h.state) (gate_settles gate now k h.state _ refl (g e)) ok
good_after k deadline h g ok = g
good_after k (advance now) h g ok = λ e.
    guarded_left Settled (guard_by (has_zero k) h.state) h.state (visit_of now k h.state) (visit_settles now k h.state _ refl) ok
good_after k pins h g ok = g
good_after k interrupt h g ok = g
good_after k (interrupt_with_enable retained) h g ok = g
good_after k (validate now) h g ok = g
