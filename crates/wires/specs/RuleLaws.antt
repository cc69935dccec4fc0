-- Laws: the rules of a unit that is on and those of the first pass are lawful, and what holds in the first pass holds later. In the rate set of
-- document 01 the monitor's wait is 3 or more below half a clock. Assumes nothing.
use Rattle.std.specs.Prelude.{ℕ, ◌+◌, ◌≤◌, ◌<◌, Bool, true, false, ◌≡◌, refl, None, Ok, Option, Some}
use Rattle.std.proofs.Common.{true≢false, sym, ap, ◌∙◌, subst, arith}
use Rattle.clocks.specs.Clocks.{has_zero}
use Rattle.domain.specs.Domain.{domain_half_ticks}
use Rattle.clocks.specs.System.{system_after}
use Rattle.clocks.specs.Tap.{system_tap}
use Rattle.clocks.specs.Wait.{wait_deadline, wait_of}
use Rattle.clocks.specs.declared.Clocks.{Clocks}
use Rattle.domain.specs.declared.Domain.{Domain}
use Rattle.clocks.specs.declared.tap.Tap.{Tap}
use Rattle.clocks.specs.declared.wait.ClockWait.{ClockWait}
use Rattle.clocks.specs.declared.wait.WaitState.{WaitState}
use Rattle.clocks.specs.declared.wait.WaitState.TheVariants.{Running, Paused, Ready}
use Rattle.iic.specs.State.{is_condition, is_hold}
use Rattle.iic.specs.declared.Condition.{Condition}
use Rattle.iic.specs.declared.Hold.{Hold}
use Rattle.time.specs.declared.Time.{Time}
use Rattle.waits.specs.Ends.{wait_end}
use Rattle.waits.specs.Half.{half_after}
use Rattle.rates.specs.Rates.{default_rates, rates_hold}
use Rattle.waits.specs.declared.HalfWait.{HalfWait}
use Rattle.rates.specs.declared.Rates.{Rates}
use Rattle.waits.specs.Ahead.{Ahead}
use Rattle.waits.specs.AheadLaws.{above_ahead, half_started, never_ahead, paused_ahead, refused_ahead, running_ahead, started_ahead, wait_started}
use Rattle.refusals.specs.declared.Refusal.TheVariants.{ZeroFrequency}
use Rattle.time.specs.Truths.{either}
use Rattle.domain.specs.HalfLaws.{half_ordinal}
use Rattle.rates.proofs.LengthLaws.{default_accepted, default_apart}
use Rattle.wires.specs.Rules.{FirstClock, FirstHalf, FirstSetup, FirstState, FirstWait, LaterClock, LaterHalf, LaterMonitor, Lawful, Monitored, Spaced, later, starting}

pub default_spaced : Spaced default_rates
default_spaced = record { accepted = default_accepted; apart = default_apart }

more : (t : ℕ) {n : ℕ} → 0 < n → t < t + n
more t h = omega arith

-- ## A unit that is on

-- a running half wait to a count above the present one
pub above_later : (now : Time) (d : Domain) (t : ℕ) (w : HalfWait) → w.paused ≡ false → domain_half_ticks d now ≡ Ok t → t < w.count → LaterHalf now d w
above_later now d t w runs f less = record {
  ahead = above_ahead d now t w f less;
  from = λ p. higher (half_ordinal d now t f) less;
  left = λ p. absurd (true≢false (sym p ∙ runs));
}
  where
    higher : {a b c : ℕ} → a ≤ b → b < c → a ≤ c
    higher p q = omega arith

pub started_later : (now : Time) (d : Domain) (n : ℕ) (w : HalfWait) → 0 < n → half_after now n d ≡ Ok w → LaterHalf now d w
started_later now d n w pos e =
    let told = half_started d now n w e in
    above_later now d told.0 w (ap (λ (x : HalfWait). x.paused) told.2) told.1
    (subst (λ (m : ℕ). told.0 < m) (sym (ap (λ (x : HalfWait). x.count) told.2)) (more told.0 pos))

pub no_wait_ahead : (now : Time) (k : Clocks) → Ahead now (wait_end None k)
unfolding wait_end
no_wait_ahead now k = never_ahead now

pub waiting_ahead : (now : Time) (k : Clocks) (n : ℕ) (w : ClockWait) → 0 < n → system_after now n k.system ≡ Ok w → Ahead now (wait_end (Some w) k)
unfolding wait_end
waiting_ahead now k n w pos e = started_ahead k now n w pos e

uncalled : (now : Time) (d : Domain) (w : HalfWait) (c : Option HalfWait) (x : Condition) (h : Hold) → LaterMonitor now d w c x h → (is_condition x ≡ false) × (is_hold h ≡ false)
uncalled now d w None x h g = absurd g
uncalled now d w (Some c) x h g = (g.1.no_condition, g.1.no_hold)

pub later_lawful : (now : Time) (k : Clocks) (r : Rates) → rates_hold r ≡ true → Lawful now k.system (later now k) r
later_lawful now k r holds = record {
  accepted = holds;
  no_clock = tt;
  clock = started_later now k.system;
  no_setup = no_wait_ahead now k;
  setup = waiting_ahead now k;
  clocked = λ w x h g. g;
  uncalled = uncalled now k.system;
}

-- ## The first pass

pub first_clock_lem : (now : Time) (d : Domain) (n : ℕ) (w : HalfWait) → 0 < n → half_after now n d ≡ Ok w → FirstClock now d (Some w)
first_clock_lem now d n w pos e =
    let told = half_started d now n w e in
    subst (λ (x : HalfWait). FirstHalf now d x.paused x.count) (sym told.2) (told.0, told.1, more told.0 pos)

pub first_wait_lem : (now : Time) (d : Domain) (n : ℕ) (w : ClockWait) → 0 < n → system_after now n d ≡ Ok w → FirstWait now d w
first_wait_lem now d n w pos e =
    let told = wait_started d now n w pos e in
    subst (FirstWait now d) (sym told.2) (refl, (told.0, told.1, more told.0 pos))

pub starting_lawful : (now : Time) (d : Domain) (r : Rates) → rates_hold r ≡ true → Lawful now d (starting now d) r
starting_lawful now d r holds = record {
  accepted = holds;
  no_clock = tt;
  clock = first_clock_lem now d;
  no_setup = tt;
  setup = first_wait_lem now d;
  clocked = λ w x h g. g;
  uncalled = λ w c x h g. absurd g;
}

-- ## From the first pass on

pub clock_later : (now : Time) (d : Domain) (c : Option HalfWait) → FirstClock now d c → LaterClock now d c
clock_later now d None h = tt
clock_later now d (Some w) h = go w.paused refl
  where
    go : (p : Bool) → w.paused ≡ p → LaterHalf now d w
    go true p = record {
      ahead = paused_ahead d now w p;
      from = λ q. absurd (true≢false (sym p ∙ q));
      left = λ q. subst (λ (b : Bool). FirstHalf now d b w.count) p h;
    }
    go false p =
        let above : FirstHalf now d false w.count = subst (λ (b : Bool). FirstHalf now d b w.count) p h in
        above_later now d above.0 w p above.1 above.2

pub setup_later : (now : Time) (k : Clocks) (w : Option ClockWait) → FirstSetup now k.system w → Ahead now (wait_end w k)
unfolding wait_end wait_deadline
setup_later now k None h = never_ahead now
setup_later now k (Some w) h = subst (λ (t : Tap). Ahead now (wait_deadline (wait_of t w.state) k)) (sym h.0) (go w.state h.1)
  where
    go : (x : WaitState) → FirstState now k.system x → Ahead now (wait_deadline (wait_of (system_tap 1) x) k)
    go (Running n) g = running_ahead k now g.0 n g.1 g.2
    go (Paused n) g = either (Ahead now) (has_zero k) (refused_ahead now ZeroFrequency) (never_ahead now)
    go (Ready at) g = absurd g

pub monitor_later : (now : Time) (k : Clocks) (m c : Option HalfWait) (x : Condition) (h : Hold) → Monitored (starting now k.system) m c x h → Monitored (later now k) m c x h
monitor_later now k None c x h g = tt
monitor_later now k (Some w) c x h g = absurd g
