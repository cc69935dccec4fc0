-- Laws: the claim ends at a refusal, and has to. Two lists whose calls left are the same part after the eighth of those, which is refused: between it
-- and the ninth one host makes an idle visit, which kicks where the refused call didn't.
use Rattle.std.specs.Prelude.{ℕ, zero, suc, true, false, List, [], ◌∷◌, ◌++◌, map, ◌≡◌, refl, take, Result, Some}
use Rattle.std.proofs.Common.{sym, ◌∙◌, ap, subst, arith}
use Rattle.time.specs.Time as Time
use Rattle.time.specs.Clock as Clock
use Rattle.clocks.specs.Clocks as Clocks
use Rattle.domain.specs.Domain as Domain
use Rattle.counts.specs.Counts as Counts
use Rattle.clocks.specs.Tap as Tap
use Rattle.clocks.specs.Wait as Wait
use Rattle.frames.specs.Parts as Parts
use Rattle.iic.specs.Calls as Iic
use Rattle.iic.specs.Clocking as Clocking
use Rattle.iic.specs.Kick as Kick
use Rattle.iic.specs.State as State
use Rattle.iic.specs.Waiting as Waits
use Rattle.iic.specs.Reading as Reading
use Rattle.registers.specs.Registers as Registers
use Rattle.iic.specs.Writing as Writing
use Rattle.iic.specs.Ready as Ready
use Rattle.iic.specs.Shift as Shift
use Rattle.waits.specs.Ends as Ends
use Rattle.waits.specs.Half as Half
use Rattle.rates.specs.Rates as Rates
use Rattle.rates.specs.Rates.{default_rates}
use Rattle.rates.specs.declared.Rates.{Rates as RateSet}
use Rattle.clocks.specs.declared.Clocks.{Clocks}
use Rattle.iic.specs.declared.Iic.{Iic}
use Rattle.iic.specs.Answers.{and_then}
use Rattle.iic.specs.Kick.{kick_of}
use Rattle.iic.specs.Setters.{set_gate as gated, set_control, set_address, set_frame, set_raw}
use Rattle.bus.specs.Bus.{levels}
use Rattle.iic.specs.State.{default_iic}
use Rattle.iic.specs.Waiting.{filter_from}
use Rattle.hosts.specs.Calls as Hosts
use Rattle.hosts.specs.Calls.{Call, read, write, input_pins, set_gate, advance, Made, outcome, outcome_of, start, after_all}
use Rattle.iic.specs.Told.{Answer, refusal, nothing, byte, bit}
use Rattle.hosts.specs.Demand3 as Demand3
use Rattle.hosts.specs.Demand3.{Left, left_of, calls, IsKth}
use Rattle.hosts.specs.Rows.{at, made}
use Rattle.hosts.specs.ClockRows.{late, late_wait, then_left, of_step, begun}
use Rattle.clocks.specs.declared.wait.ClockWait.{ClockWait}
use Rattle.refusals.specs.declared.Refusal.{Refusal}

-- ## Two lists

-- A synchronous slave waits for its byte; TDRE is cleared while the gate is off, so that nothing is loaded; then the gate comes on with a level on its
-- way, whose wait is refused before the kick.
abbrev starving : List Call
starving =
    set_gate true (at 0) ∷ write 5 0x01 (at 0) ∷ write 0 0x90 (at 0) ∷ set_gate false (at 0) ∷ read 4 (at 0) ∷ write 4 0x00 (at 0)
    ∷ input_pins false true (at 0) ∷ []

abbrev with_visit : List Made
with_visit = made (starving ++ (set_gate true (at 0) ∷ advance (at 0) ∷ read 4 (at 0) ∷ []))

abbrev without_visit : List Made
without_visit = made (starving ++ (set_gate true (at 0) ∷ read 4 (at 0) ∷ []))

-- the state that the refused call leaves
abbrev starved : Iic
starved = set_frame (Some (begun true)) (set_control 0x90 (set_raw (levels false true) (set_address 0x01 (gated true default_iic))))

abbrev answers : List Left → List Answer
answers l = map (λ (p : Left). p.answer) l

abbrev before_it : List Answer
before_it = nothing ∷ nothing ∷ nothing ∷ nothing ∷ byte 0x80 ∷ nothing ∷ bit false ∷ []

worked :
    -- the calls left are the same, nine of them
    (calls (left_of default_rates late with_visit) ≡ calls (left_of default_rates late without_visit))
    -- the eighth is refused 7 in both, and the ninth, a read of ICSR, answers 80 and 00
    × (answers (left_of default_rates late with_visit) ≡ before_it ++ (refusal 7 ∷ byte 0x80 ∷ []))
    × (answers (left_of default_rates late without_visit) ≡ before_it ++ (refusal 7 ∷ byte 0x00 ∷ []))
unfolding Time.midway Time.moment_of Time.same_time Clock.after_of Clock.edge_of Clock.zero_in Clocks.available_of Clocks.fed_by Clocks.has_zero Clocks.routed_edge Clocks.source_of Clocks.tap_edge Domain.domain_half_edge Domain.odd_edge Counts.fits Tap.route_of Tap.route_s Tap.route_w Tap.stage_below Tap.stage_of Wait.dated Wait.edge_deadline Wait.wait_deadline Reading.continued_of Writing.control_set Writing.enter_reset_of Writing.give_data_of Reading.peek_at Writing.pull_sda_of Reading.read_at Reading.read_data_of Parts.redirect_frame Writing.redirected Registers.register_at Reading.resumed_of Writing.send_on_of Writing.stop_receive_of Writing.take_control_of Reading.taken_of Writing.write_address_of Writing.write_at Writing.out_of_reset_of Writing.write_control_of Writing.write_data_of Writing.write_enable_of Writing.write_mode_of Writing.write_command_of Writing.write_status_of Iic.advance_of Iic.input_pins_of Iic.keep_stretched_of Iic.peek_of Iic.read_of Iic.set_gate_of Iic.take_pins_of Iic.turn_gate_of Iic.turn_waits_of Iic.visit_of Iic.write_of Clocking.fire_clock_of Clocking.fire_filter_of Clocking.fire_monitor_of Clocking.fire_setup_of Half.half_deadline Kick.clock_frame_of Kick.kick_of Kick.launch_of Ready.low_half_of Ready.next_frame_of Shift.begin_frame_of Shift.load_transmit_of Shift.set_hold_of State.initial State.stop_shifter_of Ends.due_of Ends.half_end Rates.period_of Rates.rate Waits.schedule_filter_of Waits.start_clock_of Waits.turn_clock_of Waits.turn_filter_of Waits.turn_monitor_of Waits.turn_setup_of Ends.wait_end Hosts.after Hosts.any_due Hosts.idle Hosts.outcome_of Hosts.start Demand3.left Rates.rates_hold Rates.lengths_hold Rates.monitor_below Rates.monitor_halves
worked =
    let refused : outcome_of late (set_gate true (at 0)) (after_all late (start default_rates) starving).state ≡ outcome (refusal 7) starved =
    ap (λ (w : Result ClockWait Refusal). of_step (and_then (filter_from w starved) (kick_of (at 0) late.system))) late_wait in
    let more = then_left late (after_all late (start default_rates) starving) (set_gate true (at 0)) (made (advance (at 0) ∷ read 4 (at 0) ∷ [])) _ refl refused in
    let less = then_left late (after_all late (start default_rates) starving) (set_gate true (at 0)) (made (read 4 (at 0) ∷ [])) _ refl refused in (
      ap (λ (l : List Left). starving ++ calls l) more ∙ sym (ap (λ (l : List Left). starving ++ calls l) less),
      ap (λ (l : List Left). before_it ++ answers l) more,
      ap (λ (l : List Left). before_it ++ answers l) less,
    )

-- ## The claim past a refusal is false

-- demand 3 without "none before the k-th was refused"
abbrev PastRefusals : Type 0
PastRefusals =
    (rates : RateSet) (clocks : Clocks) (one other : List Made) (k : ℕ) (p q : Left)
    → IsKth k (left_of rates clocks one) p
    → IsKth k (left_of rates clocks other) q
    → take k (calls (left_of rates clocks one)) ≡ take k (calls (left_of rates clocks other))
    → (p.answer ≡ q.answer) × (p.state ≡ q.state)

kth_answer : (k : ℕ) (l : List Left) (a : Answer) → IsKth k (answers l) a → (p : Left) × IsKth k l p × (p.answer ≡ a)
kth_answer zero l a h = absurd h
kth_answer (suc k) [] a h = absurd h
kth_answer (suc zero) (p ∷ l) a h = (p, refl, h)
kth_answer (suc (suc k)) (p ∷ l) a h = kth_answer (suc k) l a h

differ : byte 0x80 ≡ byte 0x00 → ⊥
differ e = let z : ◌≡◌ {A = ℕ} 0x80 0x00 = cc in omega arith

pub not_past_refusals : PastRefusals → ⊥
not_past_refusals claim =
    let p = kth_answer 9 (left_of default_rates late with_visit) (byte 0x80) (subst (λ (l : List Answer). IsKth 9 l (byte 0x80)) (sym worked.1) refl) in
    let q = kth_answer 9 (left_of default_rates late without_visit) (byte 0x00) (subst (λ (l : List Answer). IsKth 9 l (byte 0x00)) (sym worked.2) refl) in
    let same : p.0.answer ≡ q.0.answer =
    (claim default_rates late with_visit without_visit 9 p.0 q.0 p.1 q.1 (ap (λ (l : List Call). take 9 l) worked.0)).0 in
    differ (sym p.2 ∙ same ∙ q.2)
