-- Laws: over two clock sets that are alike, each step of the peripheral in time ends alike and keeps its waits ahead. A step asks the clocks only by starting,
-- pausing, resuming or looking at a wait. Assumes nothing.
use Rattle.std.specs.Prelude.{ℕ, ◌+◌, ◌*◌, ◌≤◌, Bool, ◌&&◌, cond, ◌≡◌, refl, Err, None, Ok, Option, Result, Some, false, true, ⊤}
use Rattle.std.proofs.Math.Bool.{true, false, not}
use Rattle.std.proofs.Common.{ap, subst, arith}
use Rattle.bus.specs.Bits.{has}
use Rattle.counts.specs.Counts.{fits}
use Rattle.frames.specs.Parts.{is_done, starved}
use Rattle.waits.specs.Ends.{due_of, wait_end}
use Rattle.waits.specs.Half.{made_half}
use Rattle.rates.specs.Rates.{monitor_halves, period_of, setup_cycles}
use Rattle.iic.specs.Answers.{Stepped, and_then, fine, go_on, refused}
use Rattle.registers.specs.Bits.{BBSY, IICRST}
use Rattle.iic.specs.Clocking.{clock_step_of, filter_fires_of, fire_clock_of, fire_filter_of, fire_monitor_of, fire_setup_of, firing, monitor_step_of, stretch_of, toggle_of}
use Rattle.iic.specs.Conditions.{begun_of, bus_edge_of, clocked_of, condition_high, is_start_hold, raised_of}
use Rattle.iic.specs.Edges.{condition_step_of, edges_from, fall_ack_of, fall_at, fall_in, fall_of, fall_on, falling_of, filtered_edges_of, insert_wait_of, longer, scl_edge_of, stretch_ends_of}
use Rattle.iic.specs.Falls.{end_frame_of, fall_data_of, fall_idle_of, fall_taken_of, follow_of, inserts_wait}
use Rattle.iic.specs.Filter.{filter_pass_of}
use Rattle.iic.specs.Kick.{begin_condition_of, clock_frame_of, command_in, kick_of, launch_in, launch_of, release_hold_of, wait_after_hold_of}
use Rattle.iic.specs.Reading.{continued_of, read_at, read_data_of, resumed_of, taken_of}
use Rattle.iic.specs.Ready.{clock_due, command_ready, level_at, low_half_of, next_frame_of, ready, show_of}
use Rattle.iic.specs.Setters.{set_clock_wait, set_command, set_filter_wait, set_hold, set_monitor_wait, set_reset, set_setup_wait, set_synchronized_hold}
use Rattle.iic.specs.Shift.{load_transmit_of, rising_of, set_hold_of}
use Rattle.iic.specs.State.{commanded, conditioned, drive_scl, enabled, held, is_transmit_hold, master, stop_shifter_of, transmits}
use Rattle.iic.specs.Timing.{Dropping}
use Rattle.iic.specs.TimingLaws.{begun, bus_edge, clocked, continued, end_frame, fall_data, fall_idle, fall_taken, follow, hold, load, next_frame, pull_sda, raised, rising, shown, take_control, write_mode}
use Rattle.iic.specs.Waiting.{at_wait, clock_from, filter_from, monitor_from, schedule_filter_of, setup_from, start_clock_of, start_monitor_of, start_setup_of, turn_clock_of, turn_filter_of, turn_monitor_of, turn_setup_of, wait_from, wants_filter}
use Rattle.iic.specs.Writing.{control_taken, enter_reset_of, give_data_of, out_of_reset_of, pull_sda_of, send_on_of, stop_receive_of, take_control_of, takes_command, write_address_of, write_at, write_command_of, write_control_of, write_data_of, write_enable_of, write_mode_of, write_status_of}
use Rattle.moves.specs.Waits.{half_after_lem, half_ends, half_turn, made_ahead, system_wait, wait_ends, wait_turn}
use Rattle.bus.specs.declared.Levels.{Levels}
use Rattle.time.specs.declared.Time.{Time}
use Rattle.clocks.specs.declared.Clocks.{Clocks}
use Rattle.clocks.specs.declared.wait.ClockWait.{ClockWait}
use Rattle.frames.specs.declared.Frame.{Frame}
use Rattle.frames.specs.declared.Phase.{Phase}
use Rattle.frames.specs.declared.Phase.TheVariants.{Ack, Data, Done}
use Rattle.waits.specs.declared.HalfWait.{HalfWait}
use Rattle.iic.specs.declared.Hold.TheVariants.{NoHold, Transmit}
use Rattle.registers.specs.declared.Register.{Register}
use Rattle.registers.specs.declared.Register.TheVariants.{ICCR1, ICCR2, ICDRR, ICDRT, ICIER, ICMR, ICSR, SAR}
use Rattle.iic.specs.declared.Iic.{Iic}
use Rattle.moves.specs.Statement.{From}
use Rattle.moves.specs.Alike.{Ahead, AheadHalf, AheadIn, AheadWait, Alike, Both, HalfAlike, Keeps, KeepsOver, NewAhead, NewAlike, WaitAlike}
use Rattle.refusals.specs.declared.Refusal.{Refusal}

-- the steps that ask no clock keep each wait or drop it
dropping : (k k' : Clocks) (o : ℕ) → Dropping (AheadIn k k' o)
dropping k k' o = record { monitor = λ x h t a. (a.0, tt, a.2, a.3); both = λ x h t a. (tt, tt, a.2, a.3) }

module _ {k k' : Clocks} {o : ℕ} where
  -- a step that asks no clock
  pub alone : (x : Stepped) → Ahead k k' o x.state → Both k k' o x x
  alone x h = record { same = refl; ahead = h }

  pub if_both : (b : Bool) {x x' y y' : Stepped} → Both k k' o x x' → Both k k' o y y' → Both k k' o (cond b x y) (cond b x' y')
  if_both true h g = h
  if_both false h g = g

  -- the Rust's `?`
  pub then_both : {x x' : Stepped} {f f' : Iic → Stepped} → Both k k' o x x' → ((u : Iic) → Ahead k k' o u → Both k k' o (f u) (f' u))
      → Both k k' o (and_then x f) (and_then x' f')
  then_both {x} {x'} {f} {f'} h g = subst (λ (z : Stepped). Both k k' o (and_then x f) (and_then z f')) h.same (go x.answer)
    where
      go : (e : Result ⊤ Refusal) → Both k k' o (go_on e x f) (go_on e x f')
      go (Ok v) = g x.state h.ahead
      go (Err n) = record { same = refl; ahead = h.ahead }

  -- what a wait brings
  pub firing_both : {d d' : Result Bool Refusal} {x x' : Stepped} (u : Iic) → d ≡ d' → Ahead k k' o u → Both k k' o x x' → Both k k' o (firing d u x) (firing d' u x')
  firing_both {d} {d'} {x} {x'} u e h g = subst (λ (z : Result Bool Refusal). Both k k' o (firing d u x) (firing z u x')) e (go d)
    where
      go : (d : Result Bool Refusal) → Both k k' o (firing d u x) (firing d u x')
      go (Ok true) = g
      go (Ok false) = alone (fine u) h
      go (Err n) = alone (refused n u) h

  -- a wait that was made is the state's
  wait_from_lem : {W : Type 0} (A : Option W → Type 0) (set : Option W → Iic → Iic) {w w' : Result W Refusal} (u : Iic) → NewAlike A w w' → Ahead k k' o u
      → ((v : W) → A (Some v) → Ahead k k' o (set (Some v) u)) → Both k k' o (wait_from set w u) (wait_from set w' u)
  wait_from_lem {W} A set {w} {w'} u a h keeps = record { same = ap (λ (z : Result W Refusal). wait_from set z u) a.same; ahead = go w a.new_ahead }
    where
      go : (w : Result W Refusal) → NewAhead A w → Ahead k k' o (wait_from set w u).state
      go (Ok v) g = keeps v g
      go (Err n) g = h

  clock_from_lem : {w w' : Result HalfWait Refusal} (u : Iic) → HalfAlike o w w' → Ahead k k' o u → Both k k' o (clock_from w u) (clock_from w' u)
  clock_from_lem u a h = wait_from_lem (AheadHalf o) set_clock_wait u a h (λ v g. (g, h.1, h.2, h.3))

  monitor_from_lem : {w w' : Result HalfWait Refusal} (u : Iic) → HalfAlike o w w' → Ahead k k' o u → Both k k' o (monitor_from w u) (monitor_from w' u)
  monitor_from_lem u a h = wait_from_lem (AheadHalf o) set_monitor_wait u a h (λ v g. (h.0, g, h.2, h.3))

  filter_from_lem : {w w' : Result ClockWait Refusal} (u : Iic) → WaitAlike k k' w w' → Ahead k k' o u → Both k k' o (filter_from w u) (filter_from w' u)
  filter_from_lem u a h = wait_from_lem (AheadWait k k') set_filter_wait u a h (λ v g. (h.0, h.1, g, h.3))

  setup_from_lem : {w w' : Result ClockWait Refusal} (u : Iic) → WaitAlike k k' w w' → Ahead k k' o u → Both k k' o (setup_from w u) (setup_from w' u)
  setup_from_lem u a h = wait_from_lem (AheadWait k k') set_setup_wait u a h (λ v g. (h.0, h.1, h.2, g))

  -- a step of a wait, where there is one
  at_wait_both : {W : Type 0} (A : Option W → Type 0) (w : Option W) (f f' : W → Iic → Stepped) (u : Iic) → A w → Ahead k k' o u
      → ((v : W) → A (Some v) → Both k k' o (f v u) (f' v u)) → Both k k' o (at_wait w f u) (at_wait w f' u)
  at_wait_both A None f f' u g h both = alone (fine u) h
  at_wait_both A (Some w) f f' u g h both = both w g

module _ (k k' : Clocks) (s : Time) (o : ℕ) (alike : Alike k k' s o) (now : Time) (from : From s now) where
  -- ## Waits start, pause and resume

  start_clock : KeepsOver k k' o (start_clock_of now)
  unfolding start_clock_of
  start_clock u h = clock_from_lem u (half_after_lem k k' s o alike now (period_of u.rates u.registers.control) from) h

  start_monitor : KeepsOver k k' o (start_monitor_of now)
  unfolding start_monitor_of
  start_monitor u h = monitor_from_lem u (half_after_lem k k' s o alike now (monitor_halves u.rates u.registers.control) from) h

  start_setup : KeepsOver k k' o (start_setup_of now)
  unfolding start_setup_of
  start_setup u h = setup_from_lem u (system_wait k k' s o alike now (setup_cycles u.rates u.registers.control) from) h

  pub schedule_filter : KeepsOver k k' o (schedule_filter_of now)
  unfolding schedule_filter_of
  schedule_filter u h = if_both (wants_filter u) (filter_from_lem u (system_wait k k' s o alike now 1 from) h) (alone (fine u) h)

  pub turn_clock : (gate : Bool) → KeepsOver k k' o (turn_clock_of gate now)
  unfolding turn_clock_of
  turn_clock gate u h = at_wait_both (AheadHalf o) u.clock_wait _ _ u h.0 h (λ w g. clock_from_lem u (half_turn k k' s o alike gate now w from g) h)

  pub turn_monitor : (gate : Bool) → KeepsOver k k' o (turn_monitor_of gate now)
  unfolding turn_monitor_of
  turn_monitor gate u h = at_wait_both (AheadHalf o) u.monitor_wait _ _ u h.1 h (λ w g. monitor_from_lem u (half_turn k k' s o alike gate now w from g) h)

  pub turn_filter : (gate : Bool) → Keeps k k' o (turn_filter_of gate now)
  unfolding turn_filter_of
  turn_filter gate u h = at_wait_both (AheadWait k k') u.filter_wait _ _ u h.2 h (λ w g. filter_from_lem u (wait_turn k k' s o alike gate now w from g) h)

  pub turn_setup : (gate : Bool) → Keeps k k' o (turn_setup_of gate now)
  unfolding turn_setup_of
  turn_setup gate u h = at_wait_both (AheadWait k k') u.setup_wait _ _ u h.3 h (λ w g. setup_from_lem u (wait_turn k k' s o alike gate now w from g) h)

  -- ## `kick`, `release_hold`

  command_in_lem : (c : Option Bool) → KeepsOver k k' o (command_in c now)
  command_in_lem None u h = alone (fine u) h
  command_in_lem (Some start) u h = start_clock (begun_of start u) (begun (dropping k k' o) start u h)

  launch : (f : Frame) → KeepsOver k k' o (launch_of f now)
  unfolding launch_of low_half_of
  launch f u h =
      if_both (is_done f.phase) (alone (fine u) h)
      (if_both (starved f) (alone (fine (set_hold_of Transmit u)) (hold (dropping k k' o) Transmit u h))
      (start_clock (low_half_of (level_at f.phase f u) u) h))

  launch_in_lem : (fr : Option Frame) → KeepsOver k k' o (launch_in fr now)
  launch_in_lem None u h = alone (fine u) h
  launch_in_lem (Some f) u h = launch f u h

  pub kick : KeepsOver k k' o (kick_of now)
  unfolding kick_of begin_condition_of clock_frame_of
  kick u h =
      if_both (not (ready u)) (alone (fine u) h)
      (if_both (command_ready u) (command_in_lem u.command u h) (framed (next) (load (dropping k k' o) (next_frame_of u) (next_frame (dropping k k' o) u h))))
    where
      next : Iic
      next = load_transmit_of (next_frame_of u)

      framed : KeepsOver k k' o (clock_frame_of now)
      framed v g = if_both (clock_due v) (launch_in_lem v.frame v g) (alone (fine v) g)

  release_hold : KeepsOver k k' o (release_hold_of now)
  unfolding release_hold_of wait_after_hold_of
  release_hold u h =
      then_both (if_both (master u) (start_clock (set_hold NoHold u) h) (start_setup (set_hold NoHold u) h))
      (λ v g. alone (fine (show_of v)) (shown (dropping k k' o) v g))

  -- ## What filtered levels bring

  longer_both : (w : Option HalfWait) (u : Iic) → AheadHalf o w → Ahead k k' o u → Both k k' o (longer w u) (longer w u)
  longer_both None u g h = alone (fine u) h
  longer_both (Some w) u g h =
      let n : ℕ = w.count + 4 * period_of u.rates u.registers.control in
      clock_from_lem {w = made_half w.paused (fits n)} u
      record { same = refl; new_ahead = made_ahead o w.paused n (λ e. let l : 2 * o ≤ w.count = g e in omega arith) } h

  insert_wait : KeepsOver k k' o (λ x. insert_wait_of)
  unfolding insert_wait_of
  insert_wait u h = if_both (inserts_wait u) (longer_both u.clock_wait u h.0 h) (alone (fine u) h)

  fall_at_lem : (p : Phase) (f : Frame) → KeepsOver k k' o (λ x. fall_at p f now)
  unfolding fall_ack_of
  fall_at_lem Data f u h = alone (fine (fall_data_of (load_transmit_of u))) (fall_data (dropping k k' o) (load_transmit_of u) (load (dropping k k' o) u h))
  fall_at_lem Ack f u h = insert_wait (fall_taken_of f now u) (fall_taken (dropping k k' o) f now u h)
  fall_at_lem Done f u h = alone (fine u) h

  fall_in_lem : (fr : Option Frame) → KeepsOver k k' o (λ x. fall_in fr now)
  fall_in_lem None u h = alone (fine (fall_idle_of u)) (fall_idle (dropping k k' o) u h)
  fall_in_lem (Some f) u h = fall_at_lem f.phase f u h

  fall_on_lem : KeepsOver k k' o (λ x. fall_on now)
  unfolding fall_of
  fall_on_lem u h = fall_in_lem (follow_of u).frame (follow_of u) (follow (dropping k k' o) u h)

  falling : KeepsOver k k' o (falling_of now)
  unfolding falling_of
  falling u h =
      if_both (conditioned u) (alone (fine u) h)
      (if_both (commanded u) (kick u h) (then_both (kick (end_frame_of u) (end_frame (dropping k k' o) u h)) fall_on_lem))

  stretch_ends : KeepsOver k k' o (stretch_ends_of now)
  unfolding stretch_ends_of
  stretch_ends u h =
      if_both (u.flags.synchronized_hold && u.lines.filtered.scl)
      (turn_clock true (set_synchronized_hold false u) h) (alone (fine u) h)

  condition_step : KeepsOver k k' o (condition_step_of now)
  unfolding condition_step_of
  condition_step u h =
      if_both (condition_high u) (start_clock (raised_of u) (raised (dropping k k' o) u (λ x. h))) (alone (fine u) h)

  scl_edge : (was : Bool) → KeepsOver k k' o (scl_edge_of was now)
  unfolding scl_edge_of
  scl_edge was u h =
      if_both (not was && u.lines.filtered.scl)
      (alone (fine (rising_of u.lines.filtered.sda u)) (rising (dropping k k' o) u.lines.filtered.sda u h))
      (if_both (was && not u.lines.filtered.scl) (falling u h) (alone (fine u) h))

  edges_from_lem : (was : Bool) → KeepsOver k k' o (edges_from was now)
  edges_from_lem was u h =
      if_both u.flags.reset (alone (fine u) h) (then_both (then_both (stretch_ends u h) condition_step) (scl_edge was))

  filtered_edges : (old : Levels) → KeepsOver k k' o (filtered_edges_of old now)
  unfolding filtered_edges_of
  filtered_edges old u h = edges_from_lem old.scl (bus_edge_of old u) (bus_edge (dropping k k' o) old u h)

  -- ## What each wait brings

  toggle : KeepsOver k k' o (toggle_of now)
  unfolding toggle_of monitor_step_of
  toggle u h =
      if_both (master u && not (held u))
      (then_both (start_clock (drive_scl (not u.lines.drive.scl) u) h)
      (λ v g. if_both v.lines.drive.scl (start_monitor v g) (alone (fine (set_monitor_wait None v)) (g.0, tt, g.2, g.3))))
      (alone (fine u) h)

  clock_step : KeepsOver k k' o (clock_step_of now)
  unfolding clock_step_of
  clock_step u h =
      if_both (not (conditioned u)) (toggle u h)
      (if_both (is_start_hold u.condition) (start_clock (clocked_of u) gone) (alone (fine (clocked_of u)) gone))
    where
      gone : Ahead k k' o (clocked_of u)
      gone = clocked (dropping k k' o) u (λ x. h)

  filter_fires : KeepsOver k k' o (filter_fires_of now)
  unfolding filter_fires_of filter_pass_of
  filter_fires u h =
      then_both (filtered_edges u.lines.filtered (set_filter_wait None (filter_pass_of u)) (h.0, h.1, tt, h.3)) schedule_filter

  pub fire_filter : Keeps k k' o (λ x u. fire_filter_of (wait_end u.filter_wait x) now x.system u)
  unfolding fire_filter_of
  fire_filter u h = firing_both u (ap (λ (d : Result (Option Time) Refusal). due_of d now) (wait_ends k k' s o alike u.filter_wait h.2)) h (filter_fires u h)

  pub fire_setup : Keeps k k' o (λ x u. fire_setup_of (wait_end u.setup_wait x) now u)
  unfolding fire_setup_of
  fire_setup u h =
      firing_both u (ap (λ (d : Result (Option Time) Refusal). due_of d now) (wait_ends k k' s o alike u.setup_wait h.3)) h
      (alone (fine (set_setup_wait None (drive_scl true u))) (h.0, h.1, h.2, tt))

  stretch : KeepsOver k k' o (stretch_of now)
  unfolding stretch_of
  stretch u h =
      if_both u.lines.filtered.scl (alone (fine u) h)
      (then_both (turn_clock false u h) (λ v g. alone (fine (set_synchronized_hold true v)) g))

  pub fire_monitor : KeepsOver k k' o (fire_monitor_of now)
  unfolding fire_monitor_of
  fire_monitor u h =
      firing_both u (ap (λ (d : Result (Option Time) Refusal). due_of d now) (half_ends k k' s o alike u.monitor_wait h.1)) h
      (stretch (set_monitor_wait None u) (h.0, tt, h.2, h.3))

  pub fire_clock : KeepsOver k k' o (fire_clock_of now)
  unfolding fire_clock_of
  fire_clock u h =
      firing_both u (ap (λ (d : Result (Option Time) Refusal). due_of d now) (half_ends k k' s o alike u.clock_wait h.0)) h
      (clock_step (set_clock_wait None u) (tt, h.1, h.2, h.3))

  -- ## Registers

  resumed : KeepsOver k k' o (resumed_of now)
  unfolding resumed_of
  resumed u h = if_both (held u) (release_hold u h) (alone (fine u) h)

  read_data : KeepsOver k k' o (read_data_of now)
  unfolding read_data_of taken_of
  read_data u h =
      if_both (transmits (taken_of now u)) (alone (fine (taken_of now u)) h)
      (then_both (resumed (continued_of (taken_of now u)) (continued (dropping k k' o) (taken_of now u) h)) kick)

  pub read_at_lem : (r : Register) → KeepsOver k k' o (read_at r now)
  unfolding read_at
  read_at_lem ICCR1 u h = alone (fine u) h
  read_at_lem ICCR2 u h = alone (fine u) h
  read_at_lem ICMR u h = alone (fine u) h
  read_at_lem ICIER u h = alone (fine u) h
  read_at_lem ICSR u h = alone (read_at ICSR now k.system u) h
  read_at_lem SAR u h = alone (fine u) h
  read_at_lem ICDRT u h = alone (fine u) h
  read_at_lem ICDRR u h = read_data u h

  control_taken_lem : KeepsOver k k' o (control_taken now)
  unfolding stop_receive_of stop_shifter_of
  control_taken_lem u h =
      if_both (enabled u) (then_both (then_both (schedule_filter u h) (λ v g. alone (fine (stop_receive_of v)) g)) kick)
      (alone (fine (set_filter_wait None (stop_shifter_of u))) (tt, tt, tt, tt))

  out_of_reset : (value : ℕ) → KeepsOver k k' o (out_of_reset_of value now)
  unfolding out_of_reset_of
  out_of_reset value u h =
      if_both (takes_command value (pull_sda_of value u)) (kick (set_command (Some (has value BBSY)) (pull_sda_of value u)) pulled)
      (alone (fine (pull_sda_of value u)) pulled)
    where
      pulled : Ahead k k' o (pull_sda_of value u)
      pulled = pull_sda (dropping k k' o) value u h

  write_command : (value : ℕ) → KeepsOver k k' o (write_command_of value now)
  unfolding write_command_of enter_reset_of stop_shifter_of
  write_command value u h =
      if_both (has value IICRST) (alone (fine (enter_reset_of u)) (tt, tt, h.2, tt))
      (if_both u.flags.reset (alone (fine (set_reset false u)) h) (out_of_reset value u h))

  send_on : KeepsOver k k' o (send_on_of now)
  unfolding send_on_of
  send_on u h = if_both (is_transmit_hold u.hold) (release_hold (load_transmit_of u) (load (dropping k k' o) u h)) (alone (fine u) h)

  pub write_at_lem : (r : Register) (value : ℕ) → KeepsOver k k' o (write_at r value now)
  unfolding write_at write_control_of write_data_of write_enable_of write_status_of write_address_of give_data_of
  write_at_lem ICCR1 value u h = control_taken_lem (take_control_of value u) (take_control (dropping k k' o) value u h)
  write_at_lem ICCR2 value u h = write_command value u h
  write_at_lem ICMR value u h = alone (fine (write_mode_of value u)) (write_mode (dropping k k' o) value u h)
  write_at_lem ICIER value u h = alone (fine (write_enable_of value u)) h
  write_at_lem ICSR value u h = kick (write_status_of value u) h
  write_at_lem SAR value u h = kick (write_address_of value u) h
  write_at_lem ICDRT value u h = then_both (send_on (give_data_of value u) h) kick
  write_at_lem ICDRR value u h = alone (fine u) h
