-- Laws: each step of the peripheral in time keeps the invariant, answered or refused. No length of a wait and no count of a clock is looked into.
-- Assumes nothing.
use Rattle.std.specs.Prelude.{ℕ, ◌+◌, ◌*◌, ◌-◌, Bool, ◌&&◌, cond, Err, None, Ok, Option, Result, Some, false, true, ⊤}
use Rattle.std.proofs.Math.Bool.{true, false, not}
use Rattle.std.specs.Int.Bits.{bit_and, bit_or}
use Rattle.bus.specs.Bits.{has}
use Rattle.bus.specs.declared.Levels.{Levels}
use Rattle.time.specs.declared.Time.{Time}
use Rattle.clocks.specs.declared.Clocks.{Clocks}
use Rattle.domain.specs.declared.Domain.{Domain}
use Rattle.counts.specs.Counts.{fits}
use Rattle.clocks.specs.System.{system_after}
use Rattle.frames.specs.Parts.{is_done, starved}
use Rattle.frames.specs.declared.Frame.{Frame}
use Rattle.frames.specs.declared.Phase.{Phase}
use Rattle.frames.specs.declared.Phase.TheVariants.{Ack, Data, Done}
use Rattle.waits.specs.Ends.{due_of, half_end, turn_half, turn_wait}
use Rattle.waits.specs.Half.{half_after, made_half}
use Rattle.rates.specs.Rates.{monitor_halves, period_of, setup_cycles}
use Rattle.rates.specs.declared.Rates.{Rates}
use Rattle.iic.specs.Answers.{Stepped, and_then, go_on}
use Rattle.registers.specs.Bits.{BBSY, IICRST, RDRF, TDRE, TEND}
use Rattle.iic.specs.Clocking.{clock_step_of, filter_fires_of, fire_clock_of, fire_filter_of, fire_monitor_of, fire_setup_of, firing, monitor_step_of, stretch_of, toggle_of}
use Rattle.iic.specs.Conditions.{begun_of, bus_edge_of, clocked_of, condition_high, is_start_hold, raised_of}
use Rattle.iic.specs.Edges.{condition_step_of, edges_from, fall_ack_of, fall_at, fall_in, fall_of, fall_on, falling_of, filtered_edges_of, insert_wait_of, longer, scl_edge_of, stretch_ends_of}
use Rattle.iic.specs.Falls.{end_frame_of, fall_taken_of, follow_of, inserts_wait}
use Rattle.iic.specs.Filter.{filter_pass_of}
use Rattle.iic.specs.Kick.{begin_condition_of, clock_frame_of, command_in, kick_of, launch_in, launch_of, release_hold_of, wait_after_hold_of}
use Rattle.iic.specs.Reading.{continued_of, read_data_of, resumed_of, taken_of}
use Rattle.iic.specs.Ready.{clock_due, command_ready, level_at, low_half_of, next_frame_of, ready}
use Rattle.iic.specs.Setters.{set_clock_wait, set_command, set_filter_wait, set_hold, set_monitor_wait, set_setup_wait, set_synchronized_hold}
use Rattle.iic.specs.Shift.{load_transmit_of}
use Rattle.iic.specs.State.{commanded, conditioned, drive_scl, enabled, held, is_transmit_hold, master, transmits}
use Rattle.iic.specs.Waiting.{at_wait, clock_from, filter_from, monitor_from, schedule_filter_of, setup_from, start_clock_of, start_monitor_of, start_setup_of, turn_clock_of, turn_filter_of, turn_monitor_of, turn_setup_of, wait_from, wants_filter}
use Rattle.iic.specs.Writing.{control_taken, give_data_of, out_of_reset_of, pull_sda_of, send_on_of, status_left, stop_receive_of, take_control_of, takes_command, write_address_of, write_at, write_command_of, write_control_of, write_data_of, write_enable_of, write_status_of}
use Rattle.iic.specs.declared.Hold.TheVariants.{NoHold, Transmit}
use Rattle.iic.specs.declared.Iic.{Iic}
use Rattle.registers.specs.declared.Register.{Register}
use Rattle.registers.specs.declared.Register.TheVariants.{ICCR1, ICCR2, ICDRR, ICDRT, ICIER, ICMR, ICSR, SAR}
use Rattle.flags.specs.Invariant.{Bound, Ends, Fact, Keeps, Kept, Within}
use Rattle.flags.specs.Masks.{masked_set}
use Rattle.flags.proofs.Untimed.{any_status, begun_kept, bus_kept, clocked_kept, continued_kept, control_kept, end_kept, fall_data_kept, fall_idle_kept, fall_taken_kept, follow_kept, hold_kept, load_kept, mode_kept, next_kept, pull_kept, raised_kept, reset_kept, rising_kept, show_kept, stop_kept}
use Rattle.clocks.specs.declared.wait.ClockWait.{ClockWait}
use Rattle.refusals.specs.declared.Refusal.{Refusal}
use Rattle.waits.specs.declared.HalfWait.{HalfWait}

-- ## How steps end

module _ {P : Fact} where
  -- with a state that keeps it
  pub left : {x : Stepped} → Kept P x.state → Ends P x
  left h = record { kept = h }

  pub if_ends : (b : Bool) {x y : Stepped} → Ends P x → Ends P y → Ends P (cond b x y)
  if_ends true h g = h
  if_ends false h g = g

  -- the Rust's `?`
  pub then_ends : {x : Stepped} {f : Iic → Stepped} → Ends P x → Keeps P f → Ends P (and_then x f)
  then_ends {x} {f} h g = go x.answer
    where
      go : (e : Result ⊤ Refusal) → Ends P (go_on e x f)
      go (Ok v) = g x.state h.kept
      go (Err n) = h

  -- what a wait brings
  firing_ends : (d : Result Bool Refusal) {x : Stepped} (u : Iic) → Kept P u → Ends P x → Ends P (firing d u x)
  firing_ends (Ok true) u h g = g
  firing_ends (Ok false) u h g = left h
  firing_ends (Err n) u h g = left h

  -- a wait that was made is the state's
  wait_from_lem : {W : Type 0} (set : Option W → Iic → Iic) → ((v : W) (u : Iic) → Kept P u → Kept P (set (Some v) u))
      → (w : Result W Refusal) → Keeps P (wait_from set w)
  wait_from_lem set keeps (Ok v) u h = left (keeps v u h)
  wait_from_lem set keeps (Err n) u h = left h

  clock_from_lem : (w : Result HalfWait Refusal) → Keeps P (clock_from w)
  clock_from_lem w u h = wait_from_lem set_clock_wait (λ v t g. g) w u h

  monitor_from_lem : (w : Result HalfWait Refusal) → Keeps P (monitor_from w)
  monitor_from_lem w u h = wait_from_lem set_monitor_wait (λ v t g. g) w u h

  filter_from_lem : (w : Result ClockWait Refusal) → Keeps P (filter_from w)
  filter_from_lem w u h = wait_from_lem set_filter_wait (λ v t g. g) w u h

  setup_from_lem : (w : Result ClockWait Refusal) → Keeps P (setup_from w)
  setup_from_lem w u h = wait_from_lem set_setup_wait (λ v t g. g) w u h

  -- a step of a wait, where there is one
  at_wait_lem : {W : Type 0} (w : Option W) (f : W → Iic → Stepped) → ((v : W) → Keeps P (f v)) → Keeps P (at_wait w f)
  at_wait_lem None f keeps u h = left h
  at_wait_lem (Some w) f keeps u h = keeps w u h

-- ## Waits, and `kick`: any fact that a raised TDRE keeps

module _ (P : Fact) (now : Time) (system : Domain) where
  start_clock : Keeps P (start_clock_of now system)
  unfolding start_clock_of
  start_clock u h = clock_from_lem (half_after now (period_of u.rates u.registers.control) system) u h

  start_monitor : Keeps P (start_monitor_of now system)
  unfolding start_monitor_of
  start_monitor u h = monitor_from_lem (half_after now (monitor_halves u.rates u.registers.control) system) u h

  start_setup : Keeps P (start_setup_of now system)
  unfolding start_setup_of
  start_setup u h = setup_from_lem (system_after now (setup_cycles u.rates u.registers.control) system) u h

  pub schedule_filter : Keeps P (schedule_filter_of now system)
  unfolding schedule_filter_of
  schedule_filter u h = if_ends (wants_filter u) (filter_from_lem (system_after now 1 system) u h) (left h)

  pub turn_clock : (gate : Bool) → Keeps P (turn_clock_of gate now system)
  unfolding turn_clock_of
  turn_clock gate u h = at_wait_lem u.clock_wait (λ w. clock_from (turn_half gate now system w)) (λ w. clock_from_lem (turn_half gate now system w)) u h

  pub turn_monitor : (gate : Bool) → Keeps P (turn_monitor_of gate now system)
  unfolding turn_monitor_of
  turn_monitor gate u h = at_wait_lem u.monitor_wait (λ w. monitor_from (turn_half gate now system w)) (λ w. monitor_from_lem (turn_half gate now system w)) u h

  module _ (tdre : (status seen : ℕ) (r : Rates) → P status seen r → P (bit_or status TDRE) seen r) where
    command_in_lem : (c : Option Bool) → Keeps P (command_in c now system)
    command_in_lem None u h = left h
    command_in_lem (Some start) u h = start_clock (begun_of start u) (begun_kept P start u h)

    launch : (f : Frame) → Keeps P (launch_of f now system)
    unfolding launch_of low_half_of
    launch f u h =
        if_ends (is_done f.phase) (left h)
        (if_ends (starved f) (left (hold_kept P Transmit u h)) (start_clock (low_half_of (level_at f.phase f u) u) h))

    launch_in_lem : (fr : Option Frame) → Keeps P (launch_in fr now system)
    launch_in_lem None u h = left h
    launch_in_lem (Some f) u h = launch f u h

    clock_frame : Keeps P (clock_frame_of now system)
    unfolding clock_frame_of
    clock_frame u h = if_ends (clock_due u) (launch_in_lem u.frame u h) (left h)

    pub kick : Keeps P (kick_of now system)
    unfolding kick_of begin_condition_of
    kick u h =
        if_ends (not (ready u)) (left h)
        (if_ends (command_ready u) (command_in_lem u.command u h)
        (clock_frame (load_transmit_of (next_frame_of u)) (load_kept P tdre (next_frame_of u) (next_kept P tdre u h))))

-- those that may be on any tap
module _ (P : Fact) (now : Time) (k : Clocks) where
  pub turn_filter : (gate : Bool) → Keeps P (turn_filter_of gate now k)
  unfolding turn_filter_of
  turn_filter gate u h = at_wait_lem u.filter_wait (λ w. filter_from (turn_wait gate now k w)) (λ w. filter_from_lem (turn_wait gate now k w)) u h

  pub turn_setup : (gate : Bool) → Keeps P (turn_setup_of gate now k)
  unfolding turn_setup_of
  turn_setup gate u h = at_wait_lem u.setup_wait (λ w. setup_from (turn_wait gate now k w)) (λ w. setup_from_lem (turn_wait gate now k w)) u h

-- ## The others, with `seen` within a byte and one rate set

module _ (b : Bound) (now : Time) (system : Domain) where
  abbrev Good : Iic → Type 0
  Good u = Kept (Within b) u

  pub kick_on : Keeps (Within b) (kick_of now system)
  kick_on u h = kick (Within b) now system (any_status b) u h

  load : (u : Iic) → Good u → Good (load_transmit_of u)
  load u h = load_kept (Within b) (any_status b) u h

  clock_on : Keeps (Within b) (start_clock_of now system)
  clock_on u h = start_clock (Within b) now system u h

  release_hold : Keeps (Within b) (release_hold_of now system)
  unfolding release_hold_of wait_after_hold_of
  release_hold u h =
      then_ends (if_ends (master u) (clock_on (set_hold NoHold u) h) (start_setup (Within b) now system (set_hold NoHold u) h))
      (λ v g. left (show_kept b v g))

  -- ## What filtered levels bring

  longer_ends : (w : Option HalfWait) → Keeps (Within b) (longer w)
  longer_ends None u h = left h
  longer_ends (Some w) u h = clock_from_lem (made_half w.paused (fits (w.count + 4 * period_of u.rates u.registers.control))) u h

  insert_wait : Keeps (Within b) insert_wait_of
  unfolding insert_wait_of
  insert_wait u h = if_ends (inserts_wait u) (longer_ends u.clock_wait u h) (left h)

  fall_at_lem : (p : Phase) (f : Frame) → Keeps (Within b) (fall_at p f now)
  unfolding fall_ack_of
  fall_at_lem Data f u h = left (fall_data_kept b (load_transmit_of u) (load u h))
  fall_at_lem Ack f u h = insert_wait (fall_taken_of f now u) (fall_taken_kept b f now u h)
  fall_at_lem Done f u h = left h

  fall_in_lem : (fr : Option Frame) → Keeps (Within b) (fall_in fr now)
  fall_in_lem None u h = left (fall_idle_kept b u h)
  fall_in_lem (Some f) u h = fall_at_lem f.phase f u h

  fall_on_lem : Keeps (Within b) (fall_on now)
  unfolding fall_of
  fall_on_lem u h = fall_in_lem (follow_of u).frame (follow_of u) (follow_kept b u h)

  falling : Keeps (Within b) (falling_of now system)
  unfolding falling_of
  falling u h =
      if_ends (conditioned u) (left h)
      (if_ends (commanded u) (kick_on u h) (then_ends (kick_on (end_frame_of u) (end_kept b u h)) fall_on_lem))

  stretch_ends : Keeps (Within b) (stretch_ends_of now system)
  unfolding stretch_ends_of
  stretch_ends u h =
      if_ends (u.flags.synchronized_hold && u.lines.filtered.scl)
      (turn_clock (Within b) now system true (set_synchronized_hold false u) h) (left h)

  condition_step : Keeps (Within b) (condition_step_of now system)
  unfolding condition_step_of
  condition_step u h = if_ends (condition_high u) (clock_on (raised_of u) (raised_kept b u h)) (left h)

  scl_edge : (was : Bool) → Keeps (Within b) (scl_edge_of was now system)
  unfolding scl_edge_of
  scl_edge was u h =
      if_ends (not was && u.lines.filtered.scl) (left (rising_kept b u.lines.filtered.sda u h))
      (if_ends (was && not u.lines.filtered.scl) (falling u h) (left h))

  edges_from_lem : (was : Bool) → Keeps (Within b) (edges_from was now system)
  edges_from_lem was u h = if_ends u.flags.reset (left h) (then_ends (then_ends (stretch_ends u h) condition_step) (scl_edge was))

  filtered_edges : (old : Levels) → Keeps (Within b) (filtered_edges_of old now system)
  unfolding filtered_edges_of
  filtered_edges old u h = edges_from_lem old.scl (bus_edge_of old u) (bus_kept b old u h)

  -- ## What each wait brings

  monitor_step : Keeps (Within b) (monitor_step_of now system)
  unfolding monitor_step_of
  monitor_step u h = if_ends u.lines.drive.scl (start_monitor (Within b) now system u h) (left h)

  toggle : Keeps (Within b) (toggle_of now system)
  unfolding toggle_of
  toggle u h =
      if_ends (master u && not (held u)) (then_ends (clock_on (drive_scl (not u.lines.drive.scl) u) h) monitor_step) (left h)

  clock_step : Keeps (Within b) (clock_step_of now system)
  unfolding clock_step_of
  clock_step u h =
      if_ends (not (conditioned u)) (toggle u h)
      (if_ends (is_start_hold u.condition) (clock_on (clocked_of u) (clocked_kept b u h)) (left (clocked_kept b u h)))

  filter_fires : Keeps (Within b) (filter_fires_of now system)
  unfolding filter_fires_of filter_pass_of
  filter_fires u h =
      then_ends (filtered_edges u.lines.filtered (set_filter_wait None (filter_pass_of u)) h) (schedule_filter (Within b) now system)

  pub fire_filter : (end : Result (Option Time) Refusal) → Keeps (Within b) (fire_filter_of end now system)
  unfolding fire_filter_of
  fire_filter end u h = firing_ends (due_of end now) u h (filter_fires u h)

  pub fire_setup : (end : Result (Option Time) Refusal) → Keeps (Within b) (fire_setup_of end now)
  unfolding fire_setup_of
  fire_setup end u h = firing_ends (due_of end now) u h (left h)

  stretch : Keeps (Within b) (stretch_of now system)
  unfolding stretch_of
  stretch u h = if_ends u.lines.filtered.scl (left h) (then_ends (turn_clock (Within b) now system false u h) (λ v g. left g))

  pub fire_monitor : Keeps (Within b) (fire_monitor_of now system)
  unfolding fire_monitor_of
  fire_monitor u h = firing_ends (due_of (half_end u.monitor_wait system) now) u h (stretch (set_monitor_wait None u) h)

  pub fire_clock : Keeps (Within b) (fire_clock_of now system)
  unfolding fire_clock_of
  fire_clock u h = firing_ends (due_of (half_end u.clock_wait system) now) u h (clock_step (set_clock_wait None u) h)

  -- ## Registers

  -- fewer flags in `seen`
  fewer : (u : Iic) (m : ℕ) → Good u → Within b u.registers.status (bit_and u.registers.seen m) u.rates
  fewer u m h = (λ f e. h.0.0 f (masked_set f u.registers.seen m e), h.0.1)

  resumed : Keeps (Within b) (resumed_of now system)
  unfolding resumed_of
  resumed u h = if_ends (held u) (release_hold u h) (left h)

  pub read_data : Keeps (Within b) (read_data_of now system)
  unfolding read_data_of taken_of
  read_data u h =
      if_ends (transmits (taken_of now u)) (left t)
      (then_ends (resumed (continued_of (taken_of now u)) (continued_kept b (taken_of now u) t)) kick_on)
    where
      t : Good (taken_of now u)
      t = (fewer u (0xff - RDRF) h, h.1, h.2)

  control_taken_lem : Keeps (Within b) (control_taken now system)
  unfolding stop_receive_of
  control_taken_lem u h =
      if_ends (enabled u) (then_ends (then_ends (schedule_filter (Within b) now system u h) (λ v g. left g)) kick_on)
      (left (stop_kept b u h))

  out_of_reset : (value : ℕ) → Keeps (Within b) (out_of_reset_of value now system)
  unfolding out_of_reset_of
  out_of_reset value u h =
      let p = pull_kept b value u h in
      if_ends (takes_command value (pull_sda_of value u)) (kick_on (set_command (Some (has value BBSY)) (pull_sda_of value u)) p) (left p)

  write_command : (value : ℕ) → Keeps (Within b) (write_command_of value now system)
  unfolding write_command_of
  write_command value u h =
      if_ends (has value IICRST) (left (reset_kept b u h)) (if_ends u.flags.reset (left h) (out_of_reset value u h))

  send_on : Keeps (Within b) (send_on_of now system)
  unfolding send_on_of
  send_on u h = if_ends (is_transmit_hold u.hold) (release_hold (load_transmit_of u) (load u h)) (left h)

  pub write_at_lem : (r : Register) (value : ℕ) → Keeps (Within b) (write_at r value now system)
  unfolding write_at write_control_of write_data_of write_enable_of write_status_of write_address_of give_data_of
  write_at_lem ICCR1 value u h = control_taken_lem (take_control_of value u) (control_kept b value u h)
  write_at_lem ICCR2 value u h = write_command value u h
  write_at_lem ICMR value u h = left (mode_kept b value u h)
  write_at_lem ICIER value u h = left h
  write_at_lem ICSR value u h = kick_on (write_status_of value u) (fewer u (status_left value u) h, h.1, h.2)
  write_at_lem SAR value u h = kick_on (write_address_of value u) h
  write_at_lem ICDRT value u h = then_ends (send_on (give_data_of value u) (fewer u (0xff - (TDRE + TEND)) h, h.1, h.2)) kick_on
  write_at_lem ICDRR value u h = left h
