-- Laws: what is asked of a unit at a moment goes by the moment's number of units alone, and not by how its two words are written. Assumes nothing.
use Rattle.std.specs.Prelude.{ℕ, ◌+◌, ◌-◌, ◌^◌, ◌≤◌, Bool, not, ◌&&◌, ◌≡◌, eqb, Err, None, Ok, Option, Result, Some}
use Rattle.std.proofs.Math.Bool.{true, false, cond}
use Rattle.std.proofs.Math.Path.{refl, ap}
use Rattle.std.proofs.Common.{sym, ◌∙◌, subst}
use Rattle.std.proofs.Math.Dec.{ltb}
use Rattle.refusals.specs.Refusals.{and_then}
use Rattle.domain.specs.Domain.{domain_half_ticks, domain_ticks, edge_or_last, halves, halves_of, high_between, level_high, shown}
use Rattle.clocks.specs.declared.Clocks.{Clocks}
use Rattle.domain.specs.declared.Domain.{Domain}
use Rattle.clocks.specs.declared.wait.WaitState.{WaitState}
use Rattle.clocks.specs.declared.wait.WaitState.TheVariants.{Running, Paused, Ready}
use Rattle.time.specs.Clock.{edges_before, edges_before_of, zero_in}
use Rattle.time.specs.Time.{earlier, midway, next_time, time_from, time_of}
use Rattle.time.specs.declared.Time.{Time}
use Rattle.waits.specs.Ahead.{Ahead}
use Rattle.waits.specs.Ends.{wait_end}
use Rattle.waits.specs.Half.{half_deadline}
use Rattle.waits.specs.declared.HalfWait.{HalfWait}
use Rattle.rates.specs.declared.Rates.{Rates}
use Rattle.iic.specs.declared.Condition.{Condition}
use Rattle.iic.specs.declared.Hold.{Hold}
use Rattle.iic.specs.declared.Iic.{Iic}
use Rattle.wires.specs.Rules.{FirstClock, FirstHalf, FirstSetup, FirstState, Keeps, LaterClock, LaterHalf, Monitored, Sound, later, starting}
use Rattle.wires.specs.Views.{View}
use Rattle.clocks.specs.declared.wait.ClockWait.{ClockWait}
use Rattle.refusals.specs.declared.Refusal.{Refusal}
use Rattle.refusals.specs.declared.Refusal.TheVariants.{ZeroFrequency, Overflow}

-- ## Counts

module _ (t u : Time) (same : time_of t ≡ time_of u) where
  next_same : time_of (next_time t) ≡ time_of (next_time u)
  unfolding next_time
  next_same =
      ap (λ (b : Bool). time_of (cond b (time_from (time_of t + 1)) t)) (ap (λ (n : ℕ). ltb (n + 1) (2 ^ 128)) same) ∙ go (ltb (time_of u + 1) (2 ^ 128))
    where
      go : (b : Bool) → time_of (cond b (time_from (time_of t + 1)) t) ≡ time_of (cond b (time_from (time_of u + 1)) u)
      go true = ap (λ (n : ℕ). time_of (time_from (n + 1))) same
      go false = same

  ticks_same : (d : Domain) → domain_ticks d t ≡ domain_ticks d u
  unfolding domain_ticks edges_before_of
  ticks_same d =
      ap (λ (n : ℕ). cond (zero_in d.clock) (Err ZeroFrequency)
      (cond d.running (cond (zero_in d.clock) (Err ZeroFrequency) (Ok (edges_before d.clock n))) (Ok d.clock.ordinal))) next_same

  shown_same : (d : Domain) → time_of (shown d t) ≡ time_of (shown d u)
  shown_same d = go d.running
    where
      go : (b : Bool) → time_of (cond b t d.held_at) ≡ time_of (cond b u d.held_at)
      go true = same
      go false = refl

high_same : (t u a b : Time) → time_of t ≡ time_of u → high_between t a b ≡ high_between u a b
unfolding high_between earlier
high_same t u a b e = ap (λ (n : ℕ). not (ltb n (time_of a)) && ltb n (time_of (midway a b))) e

module _ (t u : Time) (same : time_of t ≡ time_of u) where
  level_same : (d : Domain) (n : ℕ) → level_high d t n ≡ level_high d u n
  unfolding level_high
  level_same d n =
      ap (λ (h : Bool). cond (eqb n (2 ^ 64 - 1)) (Err Overflow) (Ok h))
      (high_same (shown d t) (shown d u) (edge_or_last d.clock n) (edge_or_last d.clock (n + 1)) (shown_same t u same d))

  halves_same : (d : Domain) (n : ℕ) → halves_of d t n ≡ halves_of d u n
  unfolding halves_of
  halves_same d n = ap (λ (x : Result Bool Refusal). cond (ltb n (2 ^ 63)) (halves n x) (Err Overflow)) (level_same d n)

  half_same : (d : Domain) → domain_half_ticks d t ≡ domain_half_ticks d u
  unfolding domain_half_ticks
  half_same d = go (domain_ticks d t) ∙ ap (λ (c : Result ℕ Refusal). and_then c (halves_of d u)) (ticks_same t u same d)
    where
      go : (c : Result ℕ Refusal) → and_then c (halves_of d t) ≡ and_then c (halves_of d u)
      go (Ok n) = halves_same d n
      go (Err n) = refl

  -- ## A unit that is on

  ahead_same : (d : Result (Option Time) Refusal) → Ahead t d → Ahead u d
  ahead_same d h x e = subst (λ (n : ℕ). n ≤ time_of x) same (h x e)

  later_half : (d : Domain) (w : HalfWait) → LaterHalf t d w → LaterHalf u d w
  later_half d w h = record { ahead = ahead_same (half_deadline w d) h.ahead; from = h.from; left = h.left }

  later_clock_lem : (d : Domain) (c : Option HalfWait) → LaterClock t d c → LaterClock u d c
  later_clock_lem d None h = tt
  later_clock_lem d (Some w) h = later_half d w h

  later_monitor_lem : (k : Clocks) (m c : Option HalfWait) (x : Condition) (h : Hold) → Monitored (later t k) m c x h → Monitored (later u k) m c x h
  later_monitor_lem k None c x h g = tt
  later_monitor_lem k (Some w) None x h g = g
  later_monitor_lem k (Some w) (Some c) x h g = (later_half k.system w g.0, g.1)

  pub sound_same : (k : Clocks) (r : Rates) (v : View) (s : Iic) → Sound t k r v s → Sound u k r v s
  sound_same k r v s h =
      let g = h.keeps in
      record {
        keeps = record {
          on = g.on;
          raw = g.raw;
          latch = g.latch;
          filtered = g.filtered;
          filter = g.filter;
          clock = later_clock_lem k.system s.clock_wait g.clock;
          monitor = later_monitor_lem k s.monitor_wait s.clock_wait s.condition s.hold g.monitor;
          setup = ahead_same (wait_end s.setup_wait k) g.setup;
          rates = g.rates;
        };
        awaited = h.awaited;
        ahead = ahead_same (wait_end v.filter k) h.ahead;
      }

  -- ## A unit in its first pass

  first_half_lem : (d : Domain) (p : Bool) (n : ℕ) → FirstHalf t d p n → FirstHalf u d p n
  first_half_lem d true n h = h
  first_half_lem d false n h = (h.0, sym (half_same d) ∙ h.1, h.2)

  first_clock_lem : (d : Domain) (c : Option HalfWait) → FirstClock t d c → FirstClock u d c
  first_clock_lem d None h = tt
  first_clock_lem d (Some w) h = first_half_lem d w.paused w.count h

  first_state_lem : (d : Domain) (x : WaitState) → FirstState t d x → FirstState u d x
  first_state_lem d (Running n) h = (h.0, sym (ticks_same t u same d) ∙ h.1, h.2)
  first_state_lem d (Paused n) h = h
  first_state_lem d (Ready at) h = h

  first_setup_lem : (d : Domain) (w : Option ClockWait) → FirstSetup t d w → FirstSetup u d w
  first_setup_lem d None h = tt
  first_setup_lem d (Some w) h = (h.0, first_state_lem d w.state h.1)

  first_monitor : (d : Domain) (m c : Option HalfWait) (x : Condition) (h : Hold) → Monitored (starting t d) m c x h → Monitored (starting u d) m c x h
  first_monitor d None c x h g = tt
  first_monitor d (Some w) c x h g = g

  pub starting_same : (k : Clocks) (r : Rates) (v : View) (s : Iic) → Keeps (starting t k.system) r v s → Keeps (starting u k.system) r v s
  starting_same k r v s h = record {
    on = tt;
    raw = h.raw;
    latch = h.latch;
    filtered = h.filtered;
    filter = h.filter;
    clock = first_clock_lem k.system s.clock_wait h.clock;
    monitor = first_monitor k.system s.monitor_wait s.clock_wait s.condition s.hold h.monitor;
    setup = first_setup_lem k.system s.setup_wait h.setup;
    rates = h.rates;
  }
