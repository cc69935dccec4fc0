-- Definitions: what a unit keeps through the steps of a moment, the invariant of the proof: in the first pass, where it may be switched on and off, and later, when
-- it is on. No paper has it.
use Rattle.std.specs.Prelude.{ℕ, ◌+◌, ◌*◌, ◌≤◌, ◌<◌, Bool, true, false, ◌≡◌, None, Ok, Option, Some}
use Rattle.domain.specs.Domain.{domain_half_ticks, domain_ticks}
use Rattle.clocks.specs.System.{system_after}
use Rattle.clocks.specs.Tap.{system_tap}
use Rattle.clocks.specs.declared.Clocks.{Clocks}
use Rattle.domain.specs.declared.Domain.{Domain}
use Rattle.clocks.specs.declared.wait.ClockWait.{ClockWait}
use Rattle.clocks.specs.declared.wait.WaitState.{WaitState}
use Rattle.clocks.specs.declared.wait.WaitState.TheVariants.{Running, Paused, Ready}
use Rattle.iic.specs.State.{is_condition, is_hold}
use Rattle.iic.specs.declared.Condition.{Condition}
use Rattle.iic.specs.declared.Hold.{Hold}
use Rattle.iic.specs.declared.Iic.{Iic}
use Rattle.time.specs.declared.Time.{Time}
use Rattle.waits.specs.Ends.{wait_end}
use Rattle.waits.specs.Half.{half_after, half_deadline}
use Rattle.rates.specs.Rates.{default_rates, monitor_halves, period_of, rates_hold}
use Rattle.waits.specs.declared.HalfWait.{HalfWait}
use Rattle.rates.specs.declared.Rates.{Rates}
use Rattle.waits.specs.Ahead.{Ahead}
use Rattle.iic.specs.Timing.{Timing, timing_of}
use Rattle.wires.specs.Views.{View, unawaited}

-- ## Rules

-- what is asked, at a moment, of being on, of the clock's wait, of the setup's, and of the monitor's with the clock's wait, the condition and the hold beside it
pub record Rules : Type 1 where
  pub On : Bool → Type 0
  pub Clock : Option HalfWait → Type 0
  pub Setup : Option ClockWait → Type 0
  pub Monitor : HalfWait → Option HalfWait → Condition → Hold → Type 0

abbrev pub Monitored : Rules → Option HalfWait → Option HalfWait → Condition → Hold → Type 0
Monitored R None c x h = Unit {0}
Monitored R (Some w) c x h = R.Monitor w c x h

-- of a unit with the view v and the rate set r
pub record Held (R : Rules) (r : Rates) (v : View) (t : Timing) : Type 0 where
  pub on : R.On t.on
  pub raw : t.raw ≡ v.raw
  pub latch : t.latch ≡ v.latch
  pub filtered : t.filtered ≡ v.filtered
  pub filter : t.filter ≡ v.filter
  pub clock : R.Clock t.clock
  pub monitor : Monitored R t.monitor t.clock t.condition t.hold
  pub setup : R.Setup t.setup
  pub rates : t.rates ≡ r

abbrev pub Keeps : Rules → Rates → View → Iic → Type 0
Keeps R r v s = Held R r v (timing_of s)

-- The steps need this much of them: nothing is asked where there is no wait, a wait that is started now will do, and beside the monitor's wait there are a clock's,
-- no condition and no hold, so that the monitor doesn't wait where a step starts the clock's wait anew. Of the rate set they need that it isn't refused.
pub record Lawful (now : Time) (system : Domain) (R : Rules) (r : Rates) : Type 0 where
  pub accepted : rates_hold r ≡ true
  pub no_clock : R.Clock None
  pub clock : (n : ℕ) (w : HalfWait) → 0 < n → half_after now n system ≡ Ok w → R.Clock (Some w)
  pub no_setup : R.Setup None
  pub setup : (n : ℕ) (w : ClockWait) → 0 < n → system_after now n system ≡ Ok w → R.Setup (Some w)
  pub clocked : (w : HalfWait) (x : Condition) (h : Hold) → R.Monitor w None x h → ⊥
  pub uncalled : (w : HalfWait) (c : Option HalfWait) (x : Condition) (h : Hold) → R.Monitor w c x h → (is_condition x ≡ false) × (is_hold h ≡ false)

-- ## A unit that is on: no wait's time is before the moment, since one that is would be the unit's deadline and the filter's wait would name no moment any more; a
-- paused clock wait has something left, and the monitor's wait ends well before the clock's, with no condition and no hold

-- a running wait is for a half edge from that of the ordinal on: one below it has no time
pub record LaterHalf (now : Time) (system : Domain) (w : HalfWait) : Type 0 where
  pub ahead : Ahead now (half_deadline w system)
  pub from : w.paused ≡ false → 2 * system.clock.ordinal ≤ w.count
  pub left : w.paused ≡ true → 0 < w.count

abbrev pub LaterClock : Time → Domain → Option HalfWait → Type 0
LaterClock now system None = Unit {0}
LaterClock now system (Some w) = LaterHalf now system w

-- 3 apart, since at the monitor's time at most 2 more than its own half count are counted: then something of the clock's wait is left, where it is paused there
pub record Beside (w c : HalfWait) (x : Condition) (h : Hold) : Type 0 where
  pub runs : w.paused ≡ false
  pub clock_runs : c.paused ≡ false
  pub apart : w.count + 3 ≤ c.count
  pub no_condition : is_condition x ≡ false
  pub no_hold : is_hold h ≡ false

abbrev pub LaterMonitor : Time → Domain → HalfWait → Option HalfWait → Condition → Hold → Type 0
LaterMonitor now system w None x h = ⊥
LaterMonitor now system w (Some c) x h = LaterHalf now system w × Beside w c x h

abbrev pub later : Time → Clocks → Rules
later now k = record {
  On = λ b. b ≡ true;
  Clock = LaterClock now k.system;
  Setup = λ w. Ahead now (wait_end w k);
  Monitor = LaterMonitor now k.system;
}

-- a rate set under which the monitor's wait can be so
pub record Spaced (r : Rates) : Type 0 where
  pub accepted : rates_hold r ≡ true
  pub apart : (control : ℕ) → monitor_halves r control + 3 ≤ period_of r control

-- with the view: a level on its way is waited for, and that wait isn't over
pub record Sound (now : Time) (k : Clocks) (r : Rates) (v : View) (s : Iic) : Type 0 where
  pub keeps : Keeps (later now k) r v s
  pub awaited : unawaited v ≡ false
  pub ahead : Ahead now (wait_end v.filter k)

-- two units with one view, and the rate set that both begin with
pub record Alike (now : Time) (k : Clocks) (a b : Iic) : Type 0 where
  pub view : View
  pub one : Sound now k default_rates view a
  pub other : Sound now k default_rates view b

-- ## The first pass, from the default: each wait of it is started, paused and resumed in that moment, so a running one is to a count above the present one, and a
-- paused one has something left

abbrev pub FirstHalf : Time → Domain → Bool → ℕ → Type 0
FirstHalf now system true n = 0 < n
FirstHalf now system false n = (t : ℕ) × (domain_half_ticks system now ≡ Ok t) × (t < n)

abbrev pub FirstClock : Time → Domain → Option HalfWait → Type 0
FirstClock now system None = Unit {0}
FirstClock now system (Some w) = FirstHalf now system w.paused w.count

abbrev pub FirstState : Time → Domain → WaitState → Type 0
FirstState now system (Running n) = (t : ℕ) × (domain_ticks system now ≡ Ok t) × (t < n)
FirstState now system (Paused n) = 0 < n
FirstState now system (Ready at) = ⊥

-- on the system clock itself
abbrev pub FirstWait : Time → Domain → ClockWait → Type 0
FirstWait now system w = (w.tap ≡ system_tap 1) × FirstState now system w.state

abbrev pub FirstSetup : Time → Domain → Option ClockWait → Type 0
FirstSetup now system None = Unit {0}
FirstSetup now system (Some w) = FirstWait now system w

-- the monitor's wait starts only in a visit, and the default isn't visited
abbrev pub starting : Time → Domain → Rules
starting now system = record {
  On = λ b. Unit {0};
  Clock = FirstClock now system;
  Setup = FirstSetup now system;
  Monitor = λ w c x h. ⊥;
}
