-- Laws: what the two statements ask can be met by a run. Two units over a clock set that stands still, one of which pulls SDA low, are switched on in the first moment,
-- no call of theirs is refused, and the bench ends. Assumes nothing.
use Rattle.std.specs.Prelude.{ℕ, zero, suc, Bool, true, false, not, ◌&&◌, List, [], ◌∷◌, ◌++◌, ◌≡◌, refl}
use Rattle.std.proofs.Common.{arith, lit<}
use Rattle.time.specs.Clock as Clock
use Rattle.time.specs.Time as Time
use Rattle.time.specs.Truths.{and_left, and_right}
use Rattle.clocks.specs.Clocks as Clocks
use Rattle.counts.specs.Counts as Counts
use Rattle.domain.specs.Domain as Domain
use Rattle.clocks.specs.System as System
use Rattle.clocks.specs.Wait as Wait
use Rattle.waits.specs.Ends as Ends
use Rattle.rates.specs.Rates as Rates
use Rattle.hosts.specs.Calls as Hosts
use Rattle.hosts.specs.Rows.{at, still}
use Rattle.iic.specs.Calls as Iic
use Rattle.iic.specs.Clocking as Clocking
use Rattle.iic.specs.Kick as Kick
use Rattle.registers.specs.Registers as Registers
use Rattle.iic.specs.Ready as Ready
use Rattle.iic.specs.Shift as Shift
use Rattle.iic.specs.State as State
use Rattle.iic.specs.Waiting as Waits
use Rattle.iic.specs.Writing as Writing
use Rattle.answers.specs.Answers as Answers
use Rattle.answers.specs.Calls as Player
use Rattle.lines.specs.Lines as Lines
use Rattle.lines.specs.Numbers as Numbers
use Rattle.lines.specs.Reading as Texts
use Rattle.lines.specs.declared.Verb.{Verb}
use Rattle.lines.specs.declared.Verb.TheVariants.{Write, Gate}
use Rattle.bench.specs.Bench as Bench
use Rattle.bench.specs.Bench.{has_ended, start}
use Rattle.script.specs.Script as Script
use Rattle.script.specs.Script.{spell_line}
use Rattle.bench.specs.Steps as Steps
use Rattle.bench.specs.Turns as Turns
use Rattle.units.specs.Units as Units
use Rattle.bench.specs.Moments as Moments
use Rattle.together.specs.Calls as Calls
use Rattle.together.specs.Calls.{doing_in, run_at, unit_in}
use Rattle.together.specs.Extra.{Move, moved_all, step, visit, watched}
use Rattle.together.proofs.ExtraProof.{extra_visits_lem}
use Rattle.together.proofs.Fits.{fits, fits_shares, visits_idle, visits_fit}
use Rattle.together.specs.Runs.{is_between}
use Rattle.together.proofs.RunsProof.{equal_on_bench_lem}

-- a script line of the first moment
abbrev line : ℕ → Verb → List ℕ
line u v = spell_line u (record { time = at 0; verb = v }) ++ (10 ∷ [])

-- both are switched on, and unit 1 pulls SDA
abbrev script : List ℕ
script = line 0 (Gate true) ++ line 1 (Gate true) ++ line 0 (Write 0 0x80) ++ line 1 (Write 0 0x80) ++ line 1 (Write 1 0x4d)

-- The first moment is its only one: unit 1 is told of its own SDA, and so is unit 0. After 13 steps the bench looks for the next moment, and the next step ends it.
last_is : is_between (doing_in (run_at still 2 1000 script 14)) ≡ true
unfolding Bench.next Bench.after Script.is_scripted Script.called_of Script.line_of Script.judged_as Script.judged_by Steps.turned_away Steps.unmarked Steps.goes_to Steps.seek_of Steps.look_of Steps.visits_of Steps.play_now_of Steps.play_of Steps.reports_of Steps.step_of Turns.visit_due_of Turns.visit_of Turns.play_line_of Turns.report_of Moments.fresh_bench Units.names_of Moments.named_by Moments.moment_of Units.is_named Moments.driven_by Moments.wires_of Numbers.glyph Numbers.decimal_in Numbers.hex_in Answers.answer_text Player.outcome_of Lines.lines_in Lines.lines_from Texts.digit_of Texts.closed_by Texts.scan Texts.seconds_of Texts.hex_from Texts.fraction_of Texts.bare_of Texts.single_of Texts.pair_of Texts.written_of Texts.five_of Texts.six_of Texts.verb_of Texts.fraction_at Texts.timed_of Time.earlier Time.same_time Clock.zero_in Clocks.has_zero Clocks.available_of Clocks.source_of Clocks.fed_by Counts.fits Domain.domain_ticks System.domain_deadline System.system_after System.system_started_at Wait.started_by Wait.edge_deadline Wait.wait_deadline Writing.control_set Writing.pull_sda_of Writing.redirected Registers.register_at Writing.stop_receive_of Writing.take_control_of Writing.write_at Writing.out_of_reset_of Writing.write_control_of Writing.write_command_of Iic.deadline_of Iic.earliest_of Iic.input_pins_of Iic.keep_stretched_of Iic.set_gate_of Iic.take_pins_of Iic.turn_gate_of Iic.turn_waits_of Iic.write_of Kick.clock_frame_of Kick.kick_of Ready.next_frame_of Shift.load_transmit_of State.initial Ends.due_of Ends.half_end Ends.sooner Ends.wait_end Waits.schedule_filter_of Waits.turn_clock_of Waits.turn_filter_of Waits.turn_monitor_of Waits.turn_setup_of Rates.rates_hold Rates.lengths_hold Rates.monitor_below Rates.monitor_halves Rates.period_of Rates.rate
last_is = refl

abbrev after_first : Bool
after_first =
    is_between (doing_in (run_at still 2 1000 script 13)) && not (has_ended (doing_in (run_at still 2 1000 script 13)))
    && has_ended (doing_in (run_at still 2 1000 script 14)) && not (unit_in (run_at still 2 1000 script 14) 0).lines.raw.sda
    && not (unit_in (run_at still 2 1000 script 14) 1).lines.raw.sda

run_is : after_first ≡ true
unfolding Bench.next Bench.after Script.is_scripted Script.called_of Script.line_of Script.judged_as Script.judged_by Steps.turned_away Steps.unmarked Steps.goes_to Steps.seek_of Steps.look_of Steps.visits_of Steps.play_now_of Steps.play_of Steps.reports_of Steps.step_of Turns.visit_due_of Turns.visit_of Turns.play_line_of Turns.report_of Moments.fresh_bench Units.names_of Moments.named_by Moments.moment_of Units.is_named Moments.driven_by Moments.wires_of Numbers.glyph Numbers.decimal_in Numbers.hex_in Answers.answer_text Player.outcome_of Lines.lines_in Lines.lines_from Texts.digit_of Texts.closed_by Texts.scan Texts.seconds_of Texts.hex_from Texts.fraction_of Texts.bare_of Texts.single_of Texts.pair_of Texts.written_of Texts.five_of Texts.six_of Texts.verb_of Texts.fraction_at Texts.timed_of Time.earlier Time.same_time Clock.zero_in Clocks.has_zero Clocks.available_of Clocks.source_of Clocks.fed_by Counts.fits Domain.domain_ticks System.domain_deadline System.system_after System.system_started_at Wait.started_by Wait.edge_deadline Wait.wait_deadline Writing.control_set Writing.pull_sda_of Writing.redirected Registers.register_at Writing.stop_receive_of Writing.take_control_of Writing.write_at Writing.out_of_reset_of Writing.write_control_of Writing.write_command_of Iic.deadline_of Iic.earliest_of Iic.input_pins_of Iic.keep_stretched_of Iic.set_gate_of Iic.take_pins_of Iic.turn_gate_of Iic.turn_waits_of Iic.write_of Kick.clock_frame_of Kick.kick_of Ready.next_frame_of Shift.load_transmit_of State.initial Ends.due_of Ends.half_end Ends.sooner Ends.wait_end Waits.schedule_filter_of Waits.turn_clock_of Waits.turn_filter_of Waits.turn_monitor_of Waits.turn_setup_of Rates.rates_hold Rates.lengths_hold Rates.monitor_below Rates.monitor_halves Rates.period_of Rates.rate
run_is = refl

-- what is asked of both units holds in all of its steps
both_fit : (fits still 2 1000 0 14 false (start script) && fits still 2 1000 1 14 false (start script)) ≡ true
unfolding Bench.next Bench.after Script.is_scripted Script.called_of Script.line_of Script.judged_as Script.judged_by Steps.turned_away Steps.unmarked Steps.goes_to Steps.seek_of Steps.look_of Steps.visits_of Steps.play_now_of Steps.play_of Steps.reports_of Steps.step_of Turns.visit_due_of Turns.visit_of Turns.play_line_of Turns.report_of Moments.fresh_bench Units.names_of Moments.named_by Moments.moment_of Units.is_named Moments.driven_by Moments.wires_of Numbers.glyph Numbers.decimal_in Numbers.hex_in Answers.answer_text Player.outcome_of Lines.lines_in Lines.lines_from Texts.digit_of Texts.closed_by Texts.scan Texts.seconds_of Texts.hex_from Texts.fraction_of Texts.bare_of Texts.single_of Texts.pair_of Texts.written_of Texts.five_of Texts.six_of Texts.verb_of Texts.fraction_at Texts.timed_of Time.earlier Time.same_time Clock.zero_in Clocks.has_zero Clocks.available_of Clocks.source_of Clocks.fed_by Counts.fits Domain.domain_ticks System.domain_deadline System.system_after System.system_started_at Wait.started_by Wait.edge_deadline Wait.wait_deadline Writing.control_set Writing.pull_sda_of Writing.redirected Registers.register_at Writing.stop_receive_of Writing.take_control_of Writing.write_at Writing.out_of_reset_of Writing.write_control_of Writing.write_command_of Iic.deadline_of Iic.earliest_of Iic.input_pins_of Iic.keep_stretched_of Iic.set_gate_of Iic.take_pins_of Iic.turn_gate_of Iic.turn_waits_of Iic.write_of Kick.clock_frame_of Kick.kick_of Ready.next_frame_of Shift.load_transmit_of State.initial Ends.due_of Ends.half_end Ends.sooner Ends.wait_end Waits.schedule_filter_of Waits.turn_clock_of Waits.turn_filter_of Waits.turn_monitor_of Waits.turn_setup_of Rates.rates_hold Rates.lengths_hold Rates.monitor_below Rates.monitor_halves Rates.period_of Rates.rate Hosts.outcome_of Calls.made Calls.asks
both_fit = refl

shown_alike : (unit_in (run_at still 2 1000 script 14) 0).lines.filtered ≡ (unit_in (run_at still 2 1000 script 14) 1).lines.filtered
shown_alike =
    equal_on_bench_lem still (lit< tt) 2 1000 (omega arith) script 14 0 1 (omega arith) (omega arith)
    (fits_shares still 2 1000 0 script 14 (and_left (fits still 2 1000 0 14 false (start script)) (fits still 2 1000 1 14 false (start script)) both_fit))
    (fits_shares still 2 1000 1 script 14 (and_right (fits still 2 1000 0 14 false (start script)) (fits still 2 1000 1 14 false (start script)) both_fit))
    last_is

-- with an extra visit of each unit, a second later each time, before each of so many steps
abbrev visited_steps : ℕ → List Move
visited_steps zero = []
visited_steps (suc n) = visit 0 (at n) ∷ visit 1 (at n) ∷ step ∷ visited_steps n

extra_fit : visits_fit still 2 1000 (visited_steps 14) (watched script) ≡ true
unfolding Bench.next Bench.after Script.is_scripted Script.called_of Script.line_of Script.judged_as Script.judged_by Steps.turned_away Steps.unmarked Steps.goes_to Steps.seek_of Steps.look_of Steps.visits_of Steps.play_now_of Steps.play_of Steps.reports_of Steps.step_of Turns.visit_due_of Turns.visit_of Turns.play_line_of Turns.report_of Moments.fresh_bench Units.names_of Moments.named_by Moments.moment_of Units.is_named Moments.driven_by Moments.wires_of Numbers.glyph Numbers.decimal_in Numbers.hex_in Answers.answer_text Player.outcome_of Lines.lines_in Lines.lines_from Texts.digit_of Texts.closed_by Texts.scan Texts.seconds_of Texts.hex_from Texts.fraction_of Texts.bare_of Texts.single_of Texts.pair_of Texts.written_of Texts.five_of Texts.six_of Texts.verb_of Texts.fraction_at Texts.timed_of Time.earlier Time.same_time Clock.zero_in Clocks.has_zero Clocks.available_of Clocks.source_of Clocks.fed_by Counts.fits Domain.domain_ticks System.domain_deadline System.system_after System.system_started_at Wait.started_by Wait.edge_deadline Wait.wait_deadline Writing.control_set Writing.pull_sda_of Writing.redirected Registers.register_at Writing.stop_receive_of Writing.take_control_of Writing.write_at Writing.out_of_reset_of Writing.write_control_of Writing.write_command_of Iic.deadline_of Iic.earliest_of Iic.input_pins_of Iic.keep_stretched_of Iic.set_gate_of Iic.take_pins_of Iic.turn_gate_of Iic.turn_waits_of Iic.write_of Kick.clock_frame_of Kick.kick_of Ready.next_frame_of Shift.load_transmit_of State.initial Ends.due_of Ends.half_end Ends.sooner Ends.wait_end Waits.schedule_filter_of Waits.turn_clock_of Waits.turn_filter_of Waits.turn_monitor_of Waits.turn_setup_of Rates.rates_hold Rates.lengths_hold Rates.monitor_below Rates.monitor_halves Rates.period_of Rates.rate Iic.advance_of Iic.visit_of Clocking.fire_clock_of Clocking.fire_filter_of Clocking.fire_monitor_of Clocking.fire_setup_of Hosts.after Hosts.any_due Hosts.idle Hosts.outcome_of Calls.made
extra_fit = refl

same_run : (moved_all still 2 1000 (visited_steps 14) (watched script)).run ≡ run_at still 2 1000 script 14
same_run = extra_visits_lem still 2 1000 (omega arith) script (visited_steps 14) (visits_idle still 2 1000 (visited_steps 14) (watched script) extra_fit)
