-- Laws: the nearest false readings of `MovedRuns`, each with a run over 1 Hz that has other answers or states after the move. Assumes nothing.
use Rattle.std.specs.Prelude.{ℕ, ◌-◌, ◌^◌, Bool, true, false, List, [], ◌∷◌, ◌≡◌, refl, Err, None, Ok, Some}
use Rattle.std.proofs.Common.{lit<, lit≤}
use Rattle.bus.specs.Bus.{levels}
use Rattle.time.specs.declared.Time.{Time}
use Rattle.time.specs.Clock as Clock
use Rattle.time.specs.Clock.{edges_before}
use Rattle.time.proofs.Laws.{edges_before_is, none_before}
use Rattle.time.specs.Time as Time
use Rattle.time.specs.Time.{time_of}
use Rattle.clocks.specs.declared.Clocks.{Clocks}
use Rattle.clocks.specs.declared.wait.WaitState.TheVariants.{Ready, Running}
use Rattle.clocks.specs.Clocks as Clocks
use Rattle.counts.specs.Counts as Counts
use Rattle.domain.specs.Domain as Domain
use Rattle.domain.specs.Domain.{last_time}
use Rattle.clocks.specs.Moves as Moves
use Rattle.clocks.specs.Moves.{with_system}
use Rattle.clocks.specs.System as System
use Rattle.clocks.specs.System.{system_after}
use Rattle.clocks.specs.Tap.{system_tap}
use Rattle.clocks.specs.Wait as Wait
use Rattle.clocks.specs.Wait.{wait_of}
use Rattle.frames.specs.declared.Frame.{Frame}
use Rattle.frames.specs.declared.Phase.TheVariants.{Ack}
use Rattle.waits.specs.Ends as Ends
use Rattle.waits.specs.Half as Half
use Rattle.waits.specs.Half.{half_deadline, half_wait}
use Rattle.rates.specs.Rates as Rates
use Rattle.iic.specs.declared.Iic.{Iic}
use Rattle.iic.specs.Calls as Iic
use Rattle.iic.specs.Calls.{deadline_of}
use Rattle.iic.specs.Clocking as Clocking
use Rattle.iic.specs.Conditions as Conditions
use Rattle.iic.specs.Edges as Edges
use Rattle.iic.specs.Falls as Falls
use Rattle.iic.specs.Filter as Filter
use Rattle.iic.specs.Kick as Kick
use Rattle.iic.specs.Ready as Readies
use Rattle.iic.specs.Setters.{set_clock_wait, set_control, set_filter_wait, set_frame, set_latch, set_mode, set_raw, set_gate as gated}
use Rattle.iic.specs.Shift as Shift
use Rattle.iic.specs.State as State
use Rattle.iic.specs.State.{default_iic}
use Rattle.iic.specs.Told.{Answer, bit, nothing, of_deadline, refusal}
use Rattle.iic.specs.Waiting as Waiting
use Rattle.hosts.specs.Calls as Hosts
use Rattle.hosts.specs.Calls.{Outcome, advance, deadline, input_pins, outcome, outcome_of, set_gate}
use Rattle.hosts.specs.Rows.{at, clock_set}
use Rattle.moves.specs.Statement as Statement
use Rattle.moves.specs.Statement.{Moved, outcomes}
use Rattle.refusals.specs.declared.Refusal.TheVariants.{Overflow, Reversed}

-- ## Clock sets and states

-- a set whose clocks have 1 Hz and whose system clock has that start and ordinal
abbrev ticking : Bool → Time → ℕ → Clocks
ticking running t o = with_system (record { start = t; numerator = 1; denominator = 1; ordinal = o; fraction = 0 }) (clock_set running (at 0))

-- enabled, the gate on
abbrev awake : Iic
awake = set_control 0x80 (gated true default_iic)

abbrev answers : List Outcome → List Answer
answers [] = []
answers (x ∷ l) = x.answer ∷ answers l

-- ## A stopped domain counts its ordinal, and so the move shows: a wait begun after it is for another edge

abbrev low : Iic
low = set_raw (levels false true) awake

pub stopped_domain :
    Moved (ticking false (at 0) 0) 1 (ticking false (at 1) 1)
    × (outcome_of (ticking false (at 0) 0) (input_pins false true (at 1)) awake ≡ outcome (bit true) (set_filter_wait (Some (wait_of (system_tap 1) (Running 1))) low))
    × (outcome_of (ticking false (at 1) 1) (input_pins false true (at 1)) awake ≡ outcome (bit true) (set_filter_wait (Some (wait_of (system_tap 1) (Running 2))) low))
unfolding Clock.move_of Clock.moved_by Clock.zero_in Clocks.has_zero Moves.move_system Counts.fits Domain.domain_ticks System.domain_deadline System.system_after System.system_started_at Wait.started_by Iic.input_pins_of Iic.take_pins_of Waiting.schedule_filter_of State.initial Hosts.outcome_of Rates.rates_hold Rates.lengths_hold Rates.monitor_below Rates.monitor_halves Rates.period_of Rates.rate
stopped_domain = (refl, refl, refl)

-- ## A new start at the last time: no time is later, so that the edge there isn't counted before the move, and is after it

abbrev unit_before : Time
unit_before = record { seconds = 2 ^ 64 - 2; fraction = 2 ^ 64 - 1 }

last_uncounted : edges_before (ticking true unit_before 0).system.clock (time_of last_time) ≡ 0
last_uncounted = edges_before_is (ticking true unit_before 0).system.clock (time_of last_time) (lit< tt) (lit< tt)

last_counted : edges_before (ticking true last_time 1).system.clock (time_of last_time) ≡ 1
last_counted = none_before (ticking true last_time 1).system.clock (time_of last_time) (lit< tt) (lit< tt) (lit≤ tt)

wait_before : system_after last_time 1 (ticking true unit_before 0).system ≡ Ok (wait_of (system_tap 1) (Running 1))
unfolding Time.moment_of Time.next_time Clock.after_of Clock.edge_of Clock.edges_before_of Clock.zero_in Domain.domain_ticks Counts.fits Wait.dated System.domain_deadline Wait.started_by System.system_started_at System.system_after
wait_before = rw last_uncounted refl

wait_after_lem : system_after last_time 1 (ticking true last_time 1).system ≡ Err Overflow
unfolding Time.moment_of Time.next_time Clock.after_of Clock.edge_of Clock.edges_before_of Clock.zero_in Domain.domain_ticks Counts.fits Wait.dated System.domain_deadline Wait.started_by System.system_started_at System.system_after
wait_after_lem = rw last_counted refl

pub last_time_lem :
    Moved (ticking true unit_before 0) 1 (ticking true last_time 1)
    × (outcome_of (ticking true unit_before 0) (input_pins false true last_time) awake ≡ outcome (bit true) (set_filter_wait (Some (wait_of (system_tap 1) (Running 1))) low))
    × (outcome_of (ticking true last_time 1) (input_pins false true last_time) awake ≡ outcome (refusal 7) low)
unfolding Clock.move_of Clock.moved_by Clock.zero_in Clocks.has_zero Moves.move_system Iic.input_pins_of Iic.take_pins_of Waiting.schedule_filter_of State.initial Hosts.outcome_of Rates.rates_hold Rates.lengths_hold Rates.monitor_below Rates.monitor_halves Rates.period_of Rates.rate
last_time_lem = (refl, rw wait_before refl, rw wait_after_lem refl)

-- ## Waits judged by `deadline`, which is none while the gate is off: the clock's wait is due at 0 s all the same

abbrev asleep : Iic
asleep = set_clock_wait (Some (half_wait false 0)) (set_control 0x80 default_iic)

pub judged_by_deadline :
    Moved (ticking true (at 0) 0) 1 (ticking true (at 1) 1)
    × (deadline_of asleep (ticking true (at 0) 0) ≡ Ok None)
    × (answers (outcomes (ticking true (at 0) 0) asleep (set_gate true (at 1) ∷ deadline ∷ [])) ≡ nothing ∷ of_deadline (Ok (Some (at 0))) ∷ [])
    × (answers (outcomes (ticking true (at 1) 1) asleep (set_gate true (at 1) ∷ deadline ∷ [])) ≡ nothing ∷ refusal 8 ∷ [])
unfolding Time.moment_of Clock.after_of Clock.edge_of Clock.move_of Clock.moved_by Clock.zero_in Clocks.has_zero Moves.move_system Domain.domain_half_edge Wait.dated Half.half_deadline Half.half_resume Ends.half_end Ends.sooner Ends.wait_end Iic.deadline_of Iic.earliest_of Iic.keep_stretched_of Iic.set_gate_of Iic.turn_gate_of Iic.turn_waits_of Kick.clock_frame_of Kick.kick_of Readies.next_frame_of Shift.load_transmit_of State.initial Waiting.schedule_filter_of Waiting.turn_clock_of Waiting.turn_filter_of Waiting.turn_monitor_of Waiting.turn_setup_of Hosts.outcome_of Statement.outcomes Rates.rates_hold Rates.lengths_hold Rates.monitor_below Rates.monitor_halves Rates.period_of Rates.rate
judged_by_deadline = (refl, refl, refl, refl)

-- ## A wait refused 8, over a clock that was moved before: a falling clock before an acknowledge, with ICMR's WAIT, lengthens it by 112 half counts, to an
-- edge between the two ordinals

abbrev sending : Frame
sending = record { shift = 0; remaining = 0; phase = Ack; address = false; transmit = true; loaded = true; last = false }

abbrev falling : Iic
falling =
    set_filter_wait (Some (wait_of (system_tap 1) (Ready (at 100)))) (set_clock_wait (Some (half_wait false 0)) (set_frame (Some sending) (set_mode 0x40
    (set_raw (levels false true) (set_latch (levels false true) (set_control 0xb0 (gated true default_iic)))))))

pub refused_wait :
    Moved (ticking true (at 1) 1) 99 (ticking true (at 100) 100)
    × (half_deadline (half_wait false 0) (ticking true (at 1) 1).system ≡ Err Reversed)
    × ((outcome_of (ticking true (at 1) 1) (advance (at 100)) falling).answer ≡ nothing)
    × ((outcome_of (ticking true (at 100) 100) (advance (at 100)) falling).answer ≡ refusal 8)
unfolding Time.moment_of Time.same_time Clock.after_of Clock.edge_of Clock.move_of Clock.moved_by Clock.zero_in Clocks.has_zero Moves.move_system Counts.fits Domain.domain_half_edge Wait.dated Wait.wait_deadline Half.half_deadline Ends.due_of Ends.half_end Ends.wait_end Rates.period_of Rates.rate Iic.advance_of Iic.visit_of Clocking.filter_fires_of Clocking.fire_clock_of Clocking.fire_filter_of Clocking.fire_monitor_of Clocking.fire_setup_of Conditions.bus_edge_of Edges.condition_step_of Edges.fall_ack_of Edges.fall_of Edges.falling_of Edges.filtered_edges_of Edges.insert_wait_of Edges.scl_edge_of Edges.stretch_ends_of Falls.acknowledge_of Falls.end_frame_of Falls.fall_taken_of Falls.follow_of Falls.hold_receive_of Filter.filter_pass_of Kick.clock_frame_of Kick.kick_of Readies.next_frame_of Shift.load_transmit_of State.initial Waiting.schedule_filter_of Hosts.outcome_of Rates.rates_hold Rates.lengths_hold Rates.monitor_below Rates.monitor_halves
refused_wait = (refl, refl, refl, refl)
