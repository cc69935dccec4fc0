-- Laws: what demand 3 gives. Lent calls count by their names, and two given lists that differ in idle calls agree.
use Rattle.std.specs.Prelude.{ℕ, cond, List, [], ◌∷◌, map, ◌≡◌, refl}
use Rattle.std.proofs.Common.{ap}
use Rattle.time.specs.declared.Time.{Time}
use Rattle.clocks.specs.declared.Clocks.{Clocks}
use Rattle.time.specs.Time as Time
use Rattle.time.specs.Clock as Clock
use Rattle.clocks.specs.Clocks as Clocks
use Rattle.domain.specs.Domain as Domain
use Rattle.counts.specs.Counts as Counts
use Rattle.clocks.specs.Tap as Tap
use Rattle.clocks.specs.System as System
use Rattle.clocks.specs.Wait as Wait
use Rattle.frames.specs.Mirror as Mirror
use Rattle.frames.specs.Parts as Parts
use Rattle.iic.specs.Calls as Iic
use Rattle.iic.specs.Clocking as Clocking
use Rattle.iic.specs.Kick as Kick
use Rattle.rates.specs.Rates as Rates
use Rattle.rates.specs.Rates.{default_rates}
use Rattle.iic.specs.State as State
use Rattle.iic.specs.Waiting as Waits
use Rattle.iic.specs.Reading as Reading
use Rattle.registers.specs.Registers as Registers
use Rattle.iic.specs.Writing as Writing
use Rattle.iic.specs.Ready as Ready
use Rattle.iic.specs.Shift as Shift
use Rattle.waits.specs.Ends as Ends
use Rattle.hosts.specs.Calls as Hosts
use Rattle.hosts.specs.Calls.{read, write, Made, by_value, lent_read, lent_write, call_of, Host, after, idle}
use Rattle.hosts.specs.Demand3 as Demand3
use Rattle.hosts.specs.Demand3.{Left, played, left, left_of, IsKth}
use Rattle.hosts.proofs.Agree.{two_hosts_agree_lem}
use Rattle.hosts.specs.Rows.{still, plain, visited}

-- ## Lent calls

-- document 01: a lent `read` or `write` counts as the call of its name
lent_read_lem : (a : ℕ) (now : Time) → call_of (lent_read a now) ≡ call_of (by_value (read a now))
lent_read_lem a now = refl

lent_write_lem : (a value : ℕ) (now : Time) → call_of (lent_write a value now) ≡ call_of (by_value (write a value now))
lent_write_lem a value now = refl

-- so a host that lends its peripheral has left what one has that hands it over and takes it back
pub names_count : (k : Clocks) (l : List Made) (h : Host) → left k h l ≡ left k h (map (λ (m : Made). by_value (call_of m)) l)
unfolding Demand3.left
names_count k [] h = refl
names_count k (m ∷ l) h =
    ap (λ (rest : List Left). cond (idle k (call_of m) h) rest (played k (call_of m) h ∷ rest)) (names_count k l (after k (call_of m) h))

-- ## Two given lists

-- `visited` has every kind of idle call before and after those of `plain`, and lends its peripheral for the last: at the sixth call left, the
-- last, both hosts have the same answer and the same state
pub plain_and_visited : (p q : Left) → IsKth 6 (left_of default_rates still plain) p → IsKth 6 (left_of default_rates still visited) q → (p.answer ≡ q.answer) × (p.state ≡ q.state)
unfolding Time.earlier Time.next_time Time.same_time Clock.edges_before_of Clock.zero_in Clocks.available_of Clocks.fed_by Clocks.has_zero Clocks.routed_ticks Clocks.source_of Clocks.tap_ticks Domain.domain_ticks Counts.fits Tap.route_of Tap.route_s Tap.route_w Tap.stage_below Tap.stage_of Wait.edge_deadline Wait.left_at Wait.paused_by System.domain_deadline Wait.started_by System.system_after System.system_started_at Wait.wait_deadline Wait.wait_pause Reading.continued_of Writing.control_set Writing.enter_reset_of Writing.give_data_of Reading.peek_at Writing.pull_sda_of Reading.read_at Reading.read_data_of Parts.redirect_frame Writing.redirected Registers.register_at Reading.resumed_of Writing.send_on_of Writing.stop_receive_of Writing.take_control_of Reading.taken_of Writing.write_address_of Writing.write_at Writing.out_of_reset_of Writing.write_control_of Writing.write_data_of Writing.write_enable_of Writing.write_mode_of Writing.write_command_of Writing.write_status_of Iic.advance_of Iic.input_pins_of Iic.keep_stretched_of Iic.peek_of Iic.read_of Iic.set_gate_of Iic.take_pins_of Iic.turn_gate_of Iic.turn_waits_of Iic.visit_of Iic.write_of Clocking.fire_clock_of Clocking.fire_filter_of Clocking.fire_monitor_of Clocking.fire_setup_of Kick.clock_frame_of Kick.kick_of Kick.launch_of Ready.next_frame_of Shift.begin_frame_of Shift.load_transmit_of Shift.set_hold_of State.initial State.stop_shifter_of Ends.due_of Ends.half_end Waits.schedule_filter_of Waits.turn_clock_of Waits.turn_filter_of Waits.turn_monitor_of Waits.turn_setup_of Ends.wait_end Hosts.after Hosts.any_due Hosts.idle Hosts.outcome_of Hosts.start Demand3.left Mirror.ordered Rates.rates_hold Rates.lengths_hold Rates.monitor_below Rates.monitor_halves Rates.period_of Rates.rate
plain_and_visited p q a b = two_hosts_agree_lem default_rates still plain visited 6 p q a b refl refl
