-- Laws: lists of calls with waits that run, over a clock set whose edges come too late to have a time and over one that ticks. A visit at which a wait's
-- time is refused is struck, and the list goes on; a visit that starts a frame is left; so is one at which a wait is due, and those before and
-- after its time are struck.
use Rattle.std.specs.Prelude.{◌+◌, ◌-◌, ◌^◌, Bool, true, false, not, List, [], ◌∷◌, ◌++◌, ◌≡◌, refl, Err, Ok, Result, Some}
use Rattle.std.proofs.Common.{ap, lit<, lit≤}
use Rattle.time.specs.Time as Time
use Rattle.time.specs.Clock as Clock
use Rattle.clocks.specs.Clocks as Clocks
use Rattle.domain.specs.Domain as Domain
use Rattle.counts.specs.Counts as Counts
use Rattle.clocks.specs.Tap as Tap
use Rattle.clocks.specs.System as System
use Rattle.clocks.specs.Wait as Wait
use Rattle.frames.specs.Parts as Parts
use Rattle.iic.specs.Calls as Iic
use Rattle.iic.specs.Clocking as Clocking
use Rattle.iic.specs.Kick as Kick
use Rattle.iic.specs.State as State
use Rattle.iic.specs.Waiting as Waits
use Rattle.iic.specs.Reading as Reading
use Rattle.registers.specs.Registers as Registers
use Rattle.iic.specs.Writing as Writing
use Rattle.iic.specs.Ready as Ready
use Rattle.iic.specs.Shift as Shift
use Rattle.waits.specs.Ends as Ends
use Rattle.waits.specs.Half as Half
use Rattle.rates.specs.Rates as Rates
use Rattle.rates.specs.Rates.{default_rates}
use Rattle.time.specs.Time.{time_of}
use Rattle.time.specs.Clock.{edges_before}
use Rattle.time.proofs.Laws.{none_before}
use Rattle.clocks.specs.declared.Clocks.{Clocks}
use Rattle.clocks.specs.declared.wait.WaitState.TheVariants.{Running}
use Rattle.clocks.specs.Tap.{system_tap}
use Rattle.clocks.specs.System.{system_after}
use Rattle.clocks.specs.Wait.{wait_of}
use Rattle.iic.specs.declared.Iic.{Iic}
use Rattle.frames.specs.declared.Frame.{Frame}
use Rattle.frames.specs.declared.Phase.TheVariants.{Data}
use Rattle.iic.specs.Writing.{stop_receive_of}
use Rattle.iic.specs.Answers.{Stepped, and_then, fine, value_of}
use Rattle.waits.specs.Half.{half_after, half_wait}
use Rattle.iic.specs.Kick.{kick_of}
use Rattle.iic.specs.Setters.{set_gate as gated, set_control, set_address, set_frame, set_drive, set_raw, set_receive_enabled, set_clock_wait, set_filter_wait}
use Rattle.bus.specs.Bus.{levels}
use Rattle.iic.specs.State.{default_iic}
use Rattle.iic.specs.Waiting.{clock_from, filter_from}
use Rattle.hosts.specs.Calls as Hosts
use Rattle.hosts.specs.Calls.{Call, write, input_pins, set_gate, advance, Made, by_value, Outcome, outcome, outcome_of, Host, start, host_with, after_all, idle}
use Rattle.iic.specs.Told.{refusal, nothing, bit, of_end, of_truth}
use Rattle.hosts.specs.Demand3 as Demand3
use Rattle.hosts.specs.Demand3.{Left, left, left_of, calls}
use Rattle.hosts.specs.Rows.{at, clock_set, made}
use Rattle.clocks.specs.declared.wait.ClockWait.{ClockWait}
use Rattle.refusals.specs.declared.Refusal.{Refusal}
use Rattle.waits.specs.declared.HalfWait.{HalfWait}
use Rattle.refusals.specs.declared.Refusal.TheVariants.{Overflow}

-- ## The clock sets

-- 1 Hz from the last second on: edge 1 would come after the last time
abbrev pub late : Clocks
late = clock_set true (at (2 ^ 64 - 1))

none_yet : edges_before late.system.clock (time_of (at 0) + 1) ≡ 0
none_yet = none_before late.system.clock (time_of (at 0) + 1) (lit< tt) (lit< tt) (lit≤ tt)

-- a half wait is started all the same
late_half : half_after (at 0) 28 late.system ≡ Ok (half_wait false 29)
unfolding Time.earlier Time.midway Time.moment_of Time.next_time Time.sum_of Clock.after_of Clock.edge_of Clock.edges_before_of Clock.zero_in Counts.fits Domain.domain_half_ticks Domain.domain_ticks Domain.edge_or_last Domain.halves Domain.halves_of Domain.high_between Domain.level_high Half.half_after State.initial Hosts.start Rates.rates_hold Rates.lengths_hold Rates.monitor_below Rates.monitor_halves Rates.period_of Rates.rate
late_half = rw none_yet refl

-- a wait for an edge is refused
pub late_wait : system_after (at 0) 1 late.system ≡ Err Overflow
unfolding Time.moment_of Time.next_time Clock.after_of Clock.edge_of Clock.edges_before_of Clock.zero_in Domain.domain_ticks Counts.fits Wait.dated System.domain_deadline Wait.started_by System.system_started_at System.system_after State.initial Hosts.start Rates.rates_hold Rates.lengths_hold Rates.monitor_below Rates.monitor_halves Rates.period_of Rates.rate
late_wait = rw none_yet refl

-- 1 Hz from second 1 on: edge 1 is at second 2
abbrev ticking : Clocks
ticking = clock_set true (at 1)

no_tick_yet : edges_before ticking.system.clock (time_of (at 0) + 1) ≡ 0
no_tick_yet = none_before ticking.system.clock (time_of (at 0) + 1) (lit< tt) (lit< tt) (lit≤ tt)

ticking_wait : system_after (at 0) 1 ticking.system ≡ Ok (wait_of (system_tap 1) (Running 1))
unfolding Time.moment_of Time.next_time Clock.after_of Clock.edge_of Clock.edges_before_of Clock.zero_in Domain.domain_ticks Counts.fits Wait.dated System.domain_deadline Wait.started_by System.system_started_at System.system_after State.initial Hosts.start Rates.rates_hold Rates.lengths_hold Rates.monitor_below Rates.monitor_halves Rates.period_of Rates.rate
ticking_wait = rw no_tick_yet refl

-- ## Hosts on the way

-- a call that is left, what it does being known, and those after it
pub then_left : (k : Clocks) (h : Host) (x : Call) (l : List Made) (o : Outcome) → idle k x h ≡ false → outcome_of k x h.state ≡ o
    → left k h (by_value x ∷ l) ≡ record { call = x; answer = o.answer; state = o.state } ∷ left k (host_with x h o.state) l
unfolding Demand3.left Hosts.after
then_left k h x l o i e = rw (i, e)

-- how a step ended, and its state
abbrev pub of_step : Stepped → Outcome
of_step o = outcome (of_end o.answer) o.state

-- a frame that was just begun: its byte is still to come where it sends
abbrev pub begun : Bool → Frame
begun sends = record { shift = 0; remaining = 8; phase = Data; address = false; transmit = sends; loaded = not sends; last = false }

-- a synchronous master that receives, SCL low
abbrev receiving : Iic
receiving =
    set_drive (levels false true) (set_receive_enabled true (set_frame (Some (begun false)) (set_control 0xa0 (set_address 0x01 (gated true default_iic)))))

-- enabled by a write that was refused before its kick, a frame to begin
abbrev unkicked : Iic
unkicked = set_control 0x80 (set_raw (levels false true) (set_address 0x01 (gated true default_iic)))

-- enabled, SDA low as given
abbrev fallen : Iic
fallen = set_raw (levels true false) (set_control 0x80 (gated true default_iic))

-- ## The rows

abbrev first : List Call
first = set_gate true (at 0) ∷ write 5 0x01 (at 0) ∷ []

abbrev second : List Call
second = set_gate true (at 0) ∷ write 5 0x01 (at 0) ∷ input_pins false true (at 0) ∷ []

abbrev third : List Call
third = set_gate true (at 0) ∷ write 0 0x80 (at 0) ∷ []

clock_rows :
    -- the visit is struck, though the wait's time is refused, and what follows is left
    (calls (left_of default_rates late (made (first ++ (write 0 0xa0 (at 0) ∷ advance (at 0) ∷ write 3 0x10 (at 0) ∷ []))))
    ≡ first ++ (write 0 0xa0 (at 0) ∷ write 3 0x10 (at 0) ∷ []))
    -- that visit is refused and changes nothing
    × (outcome_of late (advance (at 0)) (set_clock_wait (Some (half_wait false 29)) receiving)
    ≡ outcome (refusal 7) (set_clock_wait (Some (half_wait false 29)) receiving))
    -- the first visit starts a frame, the second doesn't
    × (calls (left_of default_rates late (made (second ++ (write 0 0x80 (at 0) ∷ advance (at 0) ∷ advance (at 0) ∷ []))))
    ≡ second ++ (write 0 0x80 (at 0) ∷ advance (at 0) ∷ []))
    -- the filter's wait is due at second 2 alone
    × (calls (left_of default_rates ticking (made (third ++ (input_pins true false (at 0) ∷ advance (at 1) ∷ advance (at 3) ∷ advance (at 2) ∷ []))))
    ≡ third ++ (input_pins true false (at 0) ∷ advance (at 2) ∷ []))
unfolding Time.midway Time.moment_of Time.same_time Clock.after_of Clock.edge_of Clock.zero_in Clocks.available_of Clocks.fed_by Clocks.has_zero Clocks.routed_edge Clocks.source_of Clocks.tap_edge Domain.domain_half_edge Domain.odd_edge Counts.fits Tap.route_of Tap.route_s Tap.route_w Tap.stage_below Tap.stage_of Wait.dated Wait.edge_deadline Wait.wait_deadline Reading.continued_of Writing.control_set Writing.enter_reset_of Writing.give_data_of Reading.peek_at Writing.pull_sda_of Reading.read_at Reading.read_data_of Parts.redirect_frame Writing.redirected Registers.register_at Reading.resumed_of Writing.send_on_of Writing.stop_receive_of Writing.take_control_of Reading.taken_of Writing.write_address_of Writing.write_at Writing.out_of_reset_of Writing.write_control_of Writing.write_data_of Writing.write_enable_of Writing.write_mode_of Writing.write_command_of Writing.write_status_of Iic.advance_of Iic.input_pins_of Iic.keep_stretched_of Iic.peek_of Iic.read_of Iic.set_gate_of Iic.take_pins_of Iic.turn_gate_of Iic.turn_waits_of Iic.visit_of Iic.write_of Clocking.fire_clock_of Clocking.fire_filter_of Clocking.fire_monitor_of Clocking.fire_setup_of Half.half_deadline Kick.clock_frame_of Kick.kick_of Kick.launch_of Ready.low_half_of Ready.next_frame_of Shift.begin_frame_of Shift.load_transmit_of Shift.set_hold_of State.initial State.stop_shifter_of Ends.due_of Ends.half_end Rates.period_of Rates.rate Waits.schedule_filter_of Waits.start_clock_of Waits.turn_clock_of Waits.turn_filter_of Waits.turn_monitor_of Waits.turn_setup_of Ends.wait_end Hosts.after Hosts.any_due Hosts.idle Hosts.outcome_of Hosts.start Demand3.left Rates.rates_hold Rates.lengths_hold Rates.monitor_below Rates.monitor_halves
clock_rows =
    let clocked : outcome_of late (write 0 0xa0 (at 0)) (after_all late (start default_rates) first).state ≡ outcome nothing (set_clock_wait (Some (half_wait false 29)) receiving) =
    ap (λ (w : Result HalfWait Refusal). of_step (clock_from w receiving)) late_half in
    let refused : outcome_of late (write 0 0x80 (at 0)) (after_all late (start default_rates) second).state ≡ outcome (refusal 7) unkicked =
    ap (λ (w : Result ClockWait Refusal). of_step (and_then (and_then (filter_from w unkicked) (λ u. fine (stop_receive_of u))) (kick_of (at 0) late.system))) late_wait in
    let filtering : outcome_of ticking (input_pins true false (at 0)) (after_all ticking (start default_rates) third).state
    ≡ outcome (bit true) (set_filter_wait (Some (wait_of (system_tap 1) (Running 1))) fallen) =
    ap (λ (w : Result ClockWait Refusal). outcome (of_truth (value_of (filter_from w fallen).answer true)) (filter_from w fallen).state) ticking_wait in (
      ap (λ (l : List Left). first ++ calls l)
          (then_left late (after_all late (start default_rates) first) (write 0 0xa0 (at 0)) (made (advance (at 0) ∷ write 3 0x10 (at 0) ∷ [])) _ refl clocked),
      refl,
      ap (λ (l : List Left). second ++ calls l)
          (then_left late (after_all late (start default_rates) second) (write 0 0x80 (at 0)) (made (advance (at 0) ∷ advance (at 0) ∷ [])) _ refl refused),
      ap (λ (l : List Left). third ++ calls l)
          (then_left ticking (after_all ticking (start default_rates) third) (input_pins true false (at 0)) (made (advance (at 1) ∷ advance (at 3) ∷ advance (at 2) ∷ [])) _ refl filtering),
    )
