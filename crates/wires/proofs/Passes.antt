-- Laws: a pass over a moment makes of the view of a unit that is on what the moment and the levels say, whatever the unit's own lines are. Assumes nothing.
use Rattle.std.specs.Prelude.{ℕ, Bool, ◌&&◌, cond, List, [], ◌∷◌, ◌≡◌, Err, None, Ok, Option, Result, Some, false, true}
use Rattle.std.proofs.Math.Bool.{true, false, beq, and-false, true≢false}
use Rattle.std.proofs.lemmas.Bool.{false≢true}
use Rattle.std.proofs.Math.Path.{refl, subst}
use Rattle.std.proofs.Common.{sym, ap, ◌∙◌}
use Rattle.bus.specs.Bits.{has}
use Rattle.clocks.specs.Clocks.{has_zero}
use Rattle.clocks.specs.declared.Clocks.{Clocks}
use Rattle.domain.specs.declared.Domain.{Domain}
use Rattle.hosts.specs.Calls.{is_now, outcome_of}
use Rattle.hosts.specs.Calls as call
use Rattle.hosts.specs.Invariant.{Leaves}
use Rattle.hosts.proofs.Kept.{Ungated, waits_off}
use Rattle.hosts.specs.Left.{byte_refused, guarded_left, left, truth_refused}
use Rattle.iic.specs.Answers.{Stepped, guarded}
use Rattle.registers.specs.Bits.{ICE}
use Rattle.iic.specs.Calls.{advance_of, deadline_of, earliest_of, guard_by, input_pins_of, peek_of, read_of, set_gate_of, take_pins_of, turn_gate_of, visit_of, write_of}
use Rattle.iic.specs.Filter.{observes}
use Rattle.iic.specs.Reading.{read_at}
use Rattle.registers.specs.Registers.{register_at}
use Rattle.iic.specs.Setters.{set_gate}
use Rattle.iic.specs.State.{awake, enabled, stop_shifter_of}
use Rattle.iic.specs.Told.{is_refusal, of_deadline}
use Rattle.iic.specs.Writing.{take_control_of, write_at, write_control_of}
use Rattle.iic.specs.declared.Condition.{Condition}
use Rattle.iic.specs.declared.Hold.{Hold}
use Rattle.iic.specs.declared.Iic.{Iic}
use Rattle.registers.specs.declared.Register.{Register}
use Rattle.registers.specs.declared.Register.TheVariants.{ICCR1}
use Rattle.time.specs.Truths.{and_left, by_cases}
use Rattle.time.specs.declared.Time.{Time}
use Rattle.waits.specs.Ends.{due_of, half_end, sooner, wait_end}
use Rattle.rates.specs.Rates.{rates_hold}
use Rattle.rates.specs.declared.Rates.{Rates}
use Rattle.waits.specs.Ahead.{Ahead, NotRefused}
use Rattle.waits.specs.AheadLaws.{never_ahead}
use Rattle.waits.proofs.DueLaws.{ahead_both, sooner_ahead, sooner_due, sooner_unrefused}
use Rattle.wires.specs.Registers.{Allowed, control_is, read_keeps, write_keeps}
use Rattle.wires.specs.RuleLaws.{later_lawful}
use Rattle.wires.specs.Rules.{Keeps, LaterClock, Lawful, Monitored, Sound, Spaced, later}
use Rattle.wires.specs.Statement.{InWord}
use Rattle.wires.specs.Units.{Answered, Line, LinesAnswered, Next, NotPast, On, StaysOn, Turn, after, call_at, gate, named, passed, played, read, report, untold, visited, write}
use Rattle.wires.specs.Views.{View, clocked, fired, scheduled, told}
use Rattle.wires.specs.Visits.{told_sound, visit_sound}
use Rattle.clocks.specs.declared.wait.ClockWait.{ClockWait}
use Rattle.refusals.specs.declared.Refusal.{Refusal}
use Rattle.waits.specs.declared.HalfWait.{HalfWait}

-- ## Going to a moment

clock_ahead : (now : Time) (d : Domain) (c : Option HalfWait) → LaterClock now d c → Ahead now (half_end c d)
unfolding half_end
clock_ahead now d None h = never_ahead now
clock_ahead now d (Some w) h = h.ahead

monitor_ahead : (now : Time) (k : Clocks) (m c : Option HalfWait) (x : Condition) (h : Hold) → Monitored (later now k) m c x h → Ahead now (half_end m k.system)
unfolding half_end
monitor_ahead now k None c x h g = never_ahead now
monitor_ahead now k (Some w) None x h g = absurd g
monitor_ahead now k (Some w) (Some c) x h g = g.0.ahead

-- the same at another moment
clock_at : (was now : Time) (d : Domain) (c : Option HalfWait) → LaterClock was d c → Ahead now (half_end c d) → LaterClock now d c
unfolding half_end
clock_at was now d None h a = tt
clock_at was now d (Some w) h a = record { ahead = a; from = h.from; left = h.left }

monitor_at : (was now : Time) (k : Clocks) (m c : Option HalfWait) (x : Condition) (h : Hold) → Monitored (later was k) m c x h → Ahead now (half_end m k.system)
    → Monitored (later now k) m c x h
unfolding half_end
monitor_at was now k None c x h g a = tt
monitor_at was now k (Some w) None x h g a = g
monitor_at was now k (Some w) (Some c) x h g a = (record { ahead = a; from = g.0.from; left = g.0.left }, g.1)

due_is : (x : Result Bool Refusal) → is_now x ≡ true → x ≡ Ok true
due_is (Ok true) e = refl
due_is (Ok false) e = absurd (false≢true e)
due_is (Err n) e = absurd (false≢true e)

-- the four ends that it is taken from
abbrev filter_end : Clocks → Iic → Result (Option Time) Refusal
filter_end k s = wait_end s.filter_wait k

abbrev clock_end : Clocks → Iic → Result (Option Time) Refusal
clock_end k s = half_end s.clock_wait k.system

abbrev monitor_end : Clocks → Iic → Result (Option Time) Refusal
monitor_end k s = half_end s.monitor_wait k.system

abbrev setup_end : Clocks → Iic → Result (Option Time) Refusal
setup_end k s = wait_end s.setup_wait k

-- the earliest of the last three, and of all
abbrev rest_end : Clocks → Iic → Result (Option Time) Refusal
rest_end k s = sooner (clock_end k s) (sooner (monitor_end k s) (setup_end k s))

abbrev first_end : Clocks → Iic → Result (Option Time) Refusal
first_end k s = sooner (filter_end k s) (rest_end k s)

-- the deadline of a unit that is on
deadline_is : (k : Clocks) (s : Iic) → On s → Answered k call.deadline s → deadline_of s k ≡ first_end k s
unfolding deadline_of outcome_of earliest_of
deadline_is k s on a = go (has_zero k) refl
  where
    go : (b : Bool) → has_zero k ≡ b → deadline_of s k ≡ first_end k s
    go true e = absurd (true≢false (rw e at a))
    go false e = rw (e, on)

module _ (k : Clocks) (r : Rates) (was : Time) (v : View) (s : Iic) (sound : Sound was k r v s) (answers : Answered k call.deadline s) where
  parts : deadline_of s k ≡ first_end k s
  parts = deadline_is k s sound.keeps.on answers

  first_unrefused : NotRefused (first_end k s)
  unfolding outcome_of
  first_unrefused n e = true≢false (subst (λ (d : Result (Option Time) Refusal). is_refusal (of_deadline d) ≡ false) (parts ∙ e) answers)

  first_ahead : Ahead was (first_end k s)
  first_ahead =
      sooner_ahead was (filter_end k s) (rest_end k s) (subst (λ (w : Option ClockWait). Ahead was (wait_end w k)) (sym sound.keeps.filter) sound.ahead)
      (sooner_ahead was (clock_end k s) (sooner (monitor_end k s) (setup_end k s)) (clock_ahead was k.system s.clock_wait sound.keeps.clock)
      (sooner_ahead was (monitor_end k s) (setup_end k s) (monitor_ahead was k s.monitor_wait s.clock_wait s.condition s.hold sound.keeps.monitor) sound.keeps.setup))

  -- no wait's time lies before a moment that isn't past the deadline
  module _ (m : Time) (chosen : NotPast k was s m) where
    all : Ahead m (first_end k s)
    all t e = chosen t (parts ∙ e) (first_ahead t e)

    rest : NotRefused (rest_end k s) × Ahead m (rest_end k s)
    rest = ((sooner_unrefused (filter_end k s) (rest_end k s) first_unrefused).1, (ahead_both m (filter_end k s) (rest_end k s) first_unrefused all).1)

    four : Ahead m (filter_end k s) × Ahead m (clock_end k s) × Ahead m (monitor_end k s) × Ahead m (setup_end k s)
    four =
        let last : Result (Option Time) Refusal = sooner (monitor_end k s) (setup_end k s) in
        let two = ahead_both m (clock_end k s) last rest.0 rest.1 in
        let one = ahead_both m (monitor_end k s) (setup_end k s) (sooner_unrefused (clock_end k s) last rest.0).1 two.1 in
        ((ahead_both m (filter_end k s) (rest_end k s) first_unrefused all).0, two.0, one.0, one.1)

    pub sound_at : Sound m k r v s
    sound_at =
        let h = sound.keeps in
        record {
          keeps = record {
            on = h.on;
            raw = h.raw;
            latch = h.latch;
            filtered = h.filtered;
            filter = h.filter;
            clock = clock_at was m k.system s.clock_wait h.clock four.1;
            monitor = monitor_at was m k s.monitor_wait s.clock_wait s.condition s.hold h.monitor four.2;
            setup = four.3;
            rates = h.rates;
          };
          awaited = sound.awaited;
          ahead = subst (λ (w : Option ClockWait). Ahead m (wait_end w k)) h.filter four.0;
        }

    -- a unit whose filter is due is visited
    filter_named : is_now (due_of (wait_end v.filter k) m) ≡ true → named k m s ≡ true
    filter_named e =
        let d : due_of (filter_end k s) m ≡ Ok true = subst (λ (w : Option ClockWait). due_of (wait_end w k) m ≡ Ok true) (sym sound.keeps.filter) (due_is (due_of (wait_end v.filter k) m) e) in
        ap is_now (subst (λ (x : Result (Option Time) Refusal). due_of x m ≡ Ok true) (sym parts) (sooner_due m (filter_end k s) (rest_end k s) d rest.0 rest.1))

    -- visited or not, the filter fires where it is due
    pub visited_sound : Spaced r → InWord k → (named k m s ≡ true → Answered k (call.advance m) s) → Sound m k r (fired m k v) (visited k m s)
    unfolding outcome_of advance_of
    visited_sound spaced word fine =
        by_cases (Sound m k r (fired m k v)) (named k m s)
        (λ e. guarded_left (Sound m k r (fired m k v)) (guard_by (has_zero k) s) s (visit_of m k s) (visit_sound m k r spaced word v s sound_at) (fine e))
        (λ e. unfired e (is_now (due_of (wait_end v.filter k) m)) refl)
      where
        unfired : named k m s ≡ false → (b : Bool) → is_now (due_of (wait_end v.filter k) m) ≡ b → Sound m k r (cond b (scheduled m k (clocked v)) v) s
        unfired e true f = absurd (true≢false (sym (filter_named f) ∙ e))
        unfired e false f = sound_at

-- ## Lines

module _ (now : Time) (k : Clocks) (r : Rates) (holds : rates_hold r ≡ true) (v : View) (s : Iic) (sound : Sound now k r v s) where
  L : Lawful now k.system (later now k) r
  L = later_lawful now k r holds

  gated : s.flags.gate ≡ true
  gated = and_left s.flags.gate (enabled s) sound.keeps.on

  -- a write of ICCR1 without ICE switches the unit off
  off_by_control : (value : ℕ) → has value ICE ≡ false → awake (write_control_of value now k.system s).state ≡ false
  unfolding write_control_of stop_shifter_of
  off_by_control value e =
      let t : Iic = take_control_of value s in
      let off : enabled t ≡ false = subst (λ (n : ℕ). has n ICE ≡ false) (sym (control_is value s)) e in
      by_cases (λ (o : Stepped). awake o.state ≡ false) (enabled t)
      (λ f. absurd (true≢false (sym f ∙ off)))
      (λ f. subst (λ (b : Bool). (t.flags.gate && b) ≡ false) (sym off) (and-false t.flags.gate))

  -- so one after which it is on leaves it on
  allowed : (a value : ℕ) → Answered k (call.write a value now) s → On (after k (call.write a value now) s) → register_at a ≡ ICCR1 → Allowed L v value s
  unfolding outcome_of write_of write_at
  allowed a value fine on e = go (has value ICE) refl
    where
      Off : Iic → Type 0
      Off t = awake t ≡ false

      go : (b : Bool) → has value ICE ≡ b → Allowed L v value s
      go true f = record { stays = subst (λ (x : Bool). (x && has value ICE) ≡ true) (sym gated) f; drops = λ g. absurd (true≢false (sym f ∙ g)) }
      go false f =
          absurd (true≢false (sym on ∙ guarded_left Off (guard_by (has_zero k) s) s (write_at (register_at a) value now k.system s)
          (subst (λ (x : Register). Leaves Off (write_at x value now k.system s)) (sym e) (left Off (write_control_of value now k.system s) (off_by_control value f))) fine))

  -- the gate is on already, and a line that turns it off is none after which the unit is on
  still : Leaves (Keeps (later now k) r v) (turn_gate_of true now k s)
  unfolding turn_gate_of
  still =
      by_cases (Leaves (Keeps (later now k) r v)) (beq s.flags.gate true)
      (λ e. sound.keeps) (λ e. absurd (true≢false (subst (λ (g : Bool). beq g true ≡ false) gated e)))

  turned_off : Leaves Ungated (turn_gate_of false now k s)
  unfolding turn_gate_of
  turned_off =
      by_cases (Leaves Ungated) (beq s.flags.gate false)
      (λ e. absurd (false≢true (subst (λ (g : Bool). beq g false ≡ true) gated e)))
      (λ e. waits_off now k (set_gate false s) refl)

  line_keeps : (l : Line) → Answered k (call_at now l) s → On (after k (call_at now l) s) → Keeps (later now k) r v (after k (call_at now l) s)
  unfolding outcome_of read_of write_of set_gate_of
  line_keeps (read a) fine on =
      guarded_left (Keeps (later now k) r v) (guard_by (has_zero k) s) s (read_at (register_at a) now k.system s) (read_keeps L v (register_at a) s sound.keeps)
      (sym (byte_refused (guarded (guard_by (has_zero k) s) s (read_at (register_at a) now k.system s)).answer (peek_of s a)) ∙ fine)
  line_keeps (write a value) fine on =
      guarded_left (Keeps (later now k) r v) (guard_by (has_zero k) s) s (write_at (register_at a) value now k.system s)
      (write_keeps L v (register_at a) value s sound.awaited (allowed a value fine on) sound.keeps) fine
  line_keeps (gate true) fine on = guarded_left (Keeps (later now k) r v) (guard_by (has_zero k) s) s (turn_gate_of true now k s) still fine
  line_keeps (gate false) fine on =
      absurd (true≢false (sym (and_left _ _ on) ∙ guarded_left Ungated (guard_by (has_zero k) s) s (turn_gate_of false now k s) turned_off fine))

  pub line_sound : (l : Line) → Answered k (call_at now l) s → On (after k (call_at now l) s) → Sound now k r v (after k (call_at now l) s)
  line_sound l fine on = record { keeps = line_keeps l fine on; awaited = sound.awaited; ahead = sound.ahead }

lines_sound : (now : Time) (k : Clocks) (r : Rates) → rates_hold r ≡ true → (v : View) (ls : List Line) (s : Iic) → Sound now k r v s → LinesAnswered k now ls s → StaysOn k now ls s
    → Sound now k r v (played k now ls s)
lines_sound now k r holds v [] s h fine on = h
lines_sound now k r holds v (l ∷ ls) s h fine on =
    lines_sound now k r holds v ls (after k (call_at now l) s) (line_sound now k r holds v s h l fine.0 on.0) fine.1 on.1

-- ## A report, and the whole pass

pub report_sound : (k : Clocks) (r : Rates) → Spaced r → (v : View) (p : Turn) (s : Iic) → Sound p.moment k r v s → Answered k (report p) s
    → Sound p.moment k r (told p.wires p.moment k v) (after k (report p) s)
unfolding outcome_of input_pins_of
report_sound k r spaced v p s h fine =
    let o : Stepped = take_pins_of p.wires p.moment k.system s in
    guarded_left (Sound p.moment k r (told p.wires p.moment k v)) (guard_by (has_zero k) s) s o (told_sound p.moment k r spaced p.wires v s h)
    (sym (truth_refused (guarded (guard_by (has_zero k) s) s o).answer (observes s p.wires)) ∙ fine)

pub pass_sound : (k : Clocks) → InWord k → (r : Rates) → Spaced r → (was : Time) (v : View) (p : Turn) (s : Iic) → Sound was k r v s → Next k was s p
    → Sound p.moment k r (told p.wires p.moment k (fired p.moment k v)) (passed k p s)
pass_sound k word r spaced was v p s h g =
    report_sound k r spaced (fired p.moment k v) p (untold k p s)
    (lines_sound p.moment k r spaced.accepted (fired p.moment k v) p.lines (visited k p.moment s)
    (visited_sound k r was v s h g.unrefused.dated p.moment g.chosen spaced word g.unrefused.visit) g.unrefused.lines g.on) g.unrefused.told
