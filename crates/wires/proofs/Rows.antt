-- Laws: what the statement asks can be met. Two units over a clock set that stands still, one of which pulls SDA low, are on from the first moment, no call of theirs
-- is refused, and the moment is gone over again. Assumes nothing.
use Rattle.std.specs.Prelude.{Bool, true, false, List, [], ◌∷◌, ◌≡◌, refl}
use Rattle.std.proofs.lemmas.Bool.{false≢true}
use Rattle.std.proofs.Common.{lit<}
use Rattle.bus.specs.Bus.{levels}
use Rattle.bus.specs.declared.Levels.{Levels}
use Rattle.clocks.specs.Clocks as Clocks
use Rattle.counts.specs.Counts as Counts
use Rattle.domain.specs.Domain as Domain
use Rattle.clocks.specs.System as System
use Rattle.clocks.specs.Wait as Wait
use Rattle.hosts.specs.Calls as Hosts
use Rattle.hosts.specs.Rows.{at, still}
use Rattle.iic.specs.Calls as Iic
use Rattle.iic.specs.Kick as Kick
use Rattle.registers.specs.Registers as Registers
use Rattle.iic.specs.Ready as Ready
use Rattle.iic.specs.Shift as Shift
use Rattle.iic.specs.State as State
use Rattle.iic.specs.State.{default_iic}
use Rattle.iic.specs.Waiting as Waits
use Rattle.iic.specs.Writing as Writing
use Rattle.iic.specs.declared.Iic.{Iic}
use Rattle.time.specs.Clock as Clock
use Rattle.waits.specs.AheadLaws.{never_not_at}
use Rattle.waits.specs.Ends as Ends
use Rattle.rates.specs.Rates as Rates
use Rattle.wires.proofs.EqualFiltered.{equal_filtered_lem}
use Rattle.wires.specs.Statement.{Together, first, next}
use Rattle.wires.specs.Units.{First, Line, Next, gate, passed, turn, write}

-- switched on, and one of them pulls SDA
abbrev lines_of : Bool → List Line
lines_of true = gate true ∷ write 0 0x80 ∷ []
lines_of false = gate true ∷ write 0 0x80 ∷ write 1 0x4d ∷ []

-- as the wires then are
abbrev low : Levels
low = levels true false

abbrev once : Bool → Iic
once b = passed still (turn (at 0) (lines_of b) low) default_iic

first_met : (b : Bool) → First still (turn (at 0) (lines_of b) low)
unfolding Clock.zero_in Clocks.has_zero Counts.fits Domain.domain_ticks System.domain_deadline System.system_after System.system_started_at Wait.started_by Writing.control_set Writing.pull_sda_of Writing.redirected Registers.register_at Writing.stop_receive_of Writing.take_control_of Writing.write_at Writing.out_of_reset_of Writing.write_control_of Writing.write_command_of Iic.deadline_of Iic.input_pins_of Iic.keep_stretched_of Iic.set_gate_of Iic.take_pins_of Iic.turn_gate_of Iic.turn_waits_of Iic.write_of Kick.clock_frame_of Kick.kick_of Ready.next_frame_of Shift.load_transmit_of State.initial Ends.due_of Waits.schedule_filter_of Waits.turn_clock_of Waits.turn_filter_of Waits.turn_monitor_of Waits.turn_setup_of Hosts.outcome_of Rates.rates_hold Rates.lengths_hold Rates.monitor_below Rates.monitor_halves Rates.period_of Rates.rate
first_met true = record { unrefused = record { dated = refl; visit = λ e. absurd (false≢true e); lines = (refl, (refl, tt)); told = refl }; on = refl }
first_met false = record { unrefused = record { dated = refl; visit = λ e. absurd (false≢true e); lines = (refl, (refl, (refl, tt))); told = refl }; on = refl }

-- the filter waits, and nothing names a moment
next_met : (b : Bool) → Next still (at 0) (once b) (turn (at 0) [] low)
unfolding Clock.zero_in Clocks.has_zero Clocks.available_of Clocks.source_of Clocks.fed_by Counts.fits Domain.domain_ticks System.domain_deadline System.system_after System.system_started_at Wait.started_by Wait.edge_deadline Wait.wait_deadline Writing.control_set Writing.pull_sda_of Writing.redirected Registers.register_at Writing.stop_receive_of Writing.take_control_of Writing.write_at Writing.out_of_reset_of Writing.write_control_of Writing.write_command_of Iic.deadline_of Iic.earliest_of Iic.input_pins_of Iic.keep_stretched_of Iic.set_gate_of Iic.take_pins_of Iic.turn_gate_of Iic.turn_waits_of Iic.write_of Kick.clock_frame_of Kick.kick_of Ready.next_frame_of Shift.load_transmit_of State.initial Ends.due_of Ends.half_end Ends.sooner Ends.wait_end Waits.schedule_filter_of Waits.turn_clock_of Waits.turn_filter_of Waits.turn_monitor_of Waits.turn_setup_of Hosts.outcome_of Rates.rates_hold Rates.lengths_hold Rates.monitor_below Rates.monitor_halves Rates.period_of Rates.rate
next_met true = record { chosen = λ t e. absurd (never_not_at e); unrefused = record { dated = refl; visit = λ e. absurd (false≢true e); lines = tt; told = refl }; on = tt }
next_met false = record { chosen = λ t e. absurd (never_not_at e); unrefused = record { dated = refl; visit = λ e. absurd (false≢true e); lines = tt; told = refl }; on = tt }

abbrev twice : Bool → Iic
twice b = passed still (turn (at 0) [] low) (once b)

pub together : Together still (at 0) (twice true) (twice false)
together =
    next (at 0) (once true) (once false) (first (at 0) low (lines_of true) (lines_of false) (first_met true) (first_met false))
    (at 0) low [] [] (next_met true) (next_met false)

pub shown_alike : (twice true).lines.filtered ≡ (twice false).lines.filtered
shown_alike = equal_filtered_lem still (lit< tt) (at 0) (twice true) (twice false) together
