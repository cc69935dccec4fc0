-- Definitions for the proof of `MovedRuns`: what the peripheral can see of a clock set from a time on, the states whose waits don't reach back, and runs over two
-- clock sets that look alike.
use Rattle.std.specs.Prelude.{ℕ, ◌*◌, ◌≤◌, ◌<◌, false, List, [], ◌∷◌, ◌≡◌, Err, None, Ok, Option, Result, Some}
use Rattle.time.specs.declared.Time.{Time}
use Rattle.time.specs.Time.{time_of, next_time}
use Rattle.clocks.specs.Clocks.{has_zero, tap_ticks}
use Rattle.domain.specs.Domain.{domain_half_edge, domain_half_ticks}
use Rattle.clocks.specs.Wait.{edge_deadline}
use Rattle.hosts.specs.Calls.{Call, outcome_of}
use Rattle.clocks.specs.declared.Clocks.{Clocks}
use Rattle.clocks.specs.declared.tap.Tap.{Tap}
use Rattle.clocks.specs.declared.wait.WaitState.{WaitState}
use Rattle.clocks.specs.declared.wait.WaitState.TheVariants.{Running, Paused, Ready}
use Rattle.iic.specs.Timing.{Timing, timing_of}
use Rattle.iic.specs.declared.Iic.{Iic}
use Rattle.time.specs.declared.Clock.{Clock}
use Rattle.time.specs.Clock.{after_of, edges_before_of}
use Rattle.clocks.specs.declared.tap.Source.{Source}
use Rattle.clocks.specs.declared.tap.Source.TheVariants.{System, Cpu, Watch, OnChip, Oscillator, Subclock}
use Rattle.clocks.specs.declared.wait.Waited.{Waited}
use Rattle.domain.specs.declared.Domain.{Domain}
use Rattle.moves.specs.Statement.{AllFrom, From, outcomes}
use Rattle.clocks.specs.declared.wait.ClockWait.{ClockWait}
use Rattle.refusals.specs.declared.Refusal.{Refusal}
use Rattle.refusals.specs.declared.Refusal.TheVariants.{Reversed}
use Rattle.waits.specs.declared.HalfWait.{HalfWait}
use Rattle.iic.specs.Answers.{Stepped}

-- ## Clock sets

-- All that the eleven calls ask of a clock set, alike in two sets from the time s on, where the system clock has the ordinal o: at times not before s, and for
-- edges that a wait started or resumed then can be for.
pub record Alike (k k' : Clocks) (s : Time) (o : ℕ) : Type 0 where
  -- neither draws 1
  pub free : has_zero k ≡ false
  pub free' : has_zero k' ≡ false
  -- whether the system clock runs
  pub runs : k.system.running ≡ k'.system.running
  -- counts, of any tap
  pub ticks : (t : Tap) (now : Time) → From s now → tap_ticks k now t ≡ tap_ticks k' now t
  -- the times of the edges after those counted, while the tap is available
  pub later : (t : Tap) (now : Time) (n m : ℕ) → From s now → tap_ticks k now t ≡ Ok n → n < m → edge_deadline t k m ≡ edge_deadline t k' m
  -- half counts of the system clock, none below that of the ordinal, and the times of half edges from there on
  pub halves : (now : Time) → From s now → domain_half_ticks k.system now ≡ domain_half_ticks k'.system now
  pub halves_from : (now : Time) (n : ℕ) → From s now → domain_half_ticks k.system now ≡ Ok n → 2 * o ≤ n
  pub half_edges : (m : ℕ) → 2 * o ≤ m → domain_half_edge k.system m ≡ domain_half_edge k'.system m

-- ## States

-- a half wait that runs is for a half edge from that of the ordinal on; a paused one may have any number left
abbrev pub AheadHalf : ℕ → Option HalfWait → Type 0
AheadHalf o None = Unit {0}
AheadHalf o (Some w) = w.paused ≡ false → 2 * o ≤ w.count

-- a wait that runs is for an edge whose time is the same over both sets: of system/1, an edge from the ordinal on
abbrev pub AheadState : Clocks → Clocks → Tap → WaitState → Type 0
AheadState k k' t (Running n) = edge_deadline t k n ≡ edge_deadline t k' n
AheadState k k' t (Paused n) = Unit {0}
AheadState k k' t (Ready at) = Unit {0}

abbrev pub AheadWait : Clocks → Clocks → Option ClockWait → Type 0
AheadWait k k' None = Unit {0}
AheadWait k k' (Some w) = AheadState k k' w.tap w.state

-- all four: the clock's, the monitor's, the filter's and the setup's
abbrev pub AheadIn : Clocks → Clocks → ℕ → Timing → Type 0
AheadIn k k' o t = AheadHalf o t.clock × AheadHalf o t.monitor × AheadWait k k' t.filter × AheadWait k k' t.setup

abbrev pub Ahead : Clocks → Clocks → ℕ → Iic → Type 0
Ahead k k' o s = AheadIn k k' o (timing_of s)

-- ## New waits: a refused one is none

abbrev pub NewAhead : {W : Type 0} → (Option W → Type 0) → Result W Refusal → Type 0
NewAhead ahead (Ok w) = ahead (Some w)
NewAhead ahead (Err n) = Unit {0}

-- the same wait over both sets, and ahead: a half wait, or one for edges of a tap
pub record NewAlike {W : Type 0} (ahead : Option W → Type 0) (w w' : Result W Refusal) : Type 0 where
  pub same : w ≡ w'
  pub new_ahead : NewAhead ahead w

abbrev pub HalfAlike : ℕ → Result HalfWait Refusal → Result HalfWait Refusal → Type 0
HalfAlike o = NewAlike (AheadHalf o)

abbrev pub WaitAlike : Clocks → Clocks → Result ClockWait Refusal → Result ClockWait Refusal → Type 0
WaitAlike k k' = NewAlike (AheadWait k k')

-- a paused or resumed one
pub record WaitedAlike (k k' : Clocks) (x x' : Waited) : Type 0 where
  pub same : x ≡ x'
  pub ahead : AheadWait k k' (Some x.wait)

-- ## A step over each of two sets

-- it ends alike, and leaves its waits ahead, refused or not
pub record Both (k k' : Clocks) (o : ℕ) (x x' : Stepped) : Type 0 where
  pub same : x ≡ x'
  pub ahead : Ahead k k' o x.state

-- from every state whose waits are ahead
abbrev pub Keeps : Clocks → Clocks → ℕ → (Clocks → Iic → Stepped) → Type 0
Keeps k k' o f = (u : Iic) → Ahead k k' o u → Both k k' o (f k u) (f k' u)

-- of a step that takes the system domain alone
abbrev pub KeepsOver : Clocks → Clocks → ℕ → (Domain → Iic → Stepped) → Type 0
KeepsOver k k' o f = Keeps k k' o (λ x. f x.system)

-- ## Runs

-- the state after the last
unfoldable pub last_state : Clocks → Iic → List Call → Iic
last_state k u [] = u
last_state k u (x ∷ l) = last_state k (outcome_of k x u).state l

-- Over two clock sets that are alike from s on, from a state whose waits are ahead, any list of calls at times from s on has the same answers and the
-- same states, call by call; and the waits are ahead after it.
abbrev pub AlikeAgree : Type 0
AlikeAgree =
    (k k' : Clocks) (s : Time) (o : ℕ) → Alike k k' s o
    → (u : Iic) → Ahead k k' o u
    → (l : List Call) → AllFrom s l
    → (outcomes k u l ≡ outcomes k' u l) × Ahead k k' o (last_state k u l)

-- ## Clocks

-- an edge before the time s, or one below the clock's ordinal
abbrev pub Early : Time → Result Time Refusal → Type 0
Early s (Ok t) = time_of t < time_of s
Early s (Err r) = r ≡ Reversed

-- `edge` and `counted` of one clock, `edge'` and `counted'` of the clock that starts at s with the ordinal o
pub record EdgesAlike (edge edge' : ℕ → Result Time Refusal) (counted counted' : Time → Result ℕ Refusal) (s : Time) (o : ℕ) : Type 0 where
  pub edges : (m : ℕ) → o ≤ m → edge m ≡ edge' m
  pub counts : (now : Time) → From s now → counted now ≡ counted' now
  pub counts_from : (now : Time) (n : ℕ) → From s now → counted now ≡ Ok n → o ≤ n
  pub start : edge o ≡ Ok s
  pub before : (m : ℕ) → m < o → Early s (edge m)

-- two clocks that are alike, as the set asks for their edges and counts
abbrev pub ClocksAlike : Clock → Clock → Time → ℕ → Type 0
ClocksAlike c c' s o = EdgesAlike (after_of c) (after_of c') (λ now. edges_before_of c (next_time now)) (λ now. edges_before_of c' (next_time now)) s o

-- a source other than the system clock
abbrev pub Other : Source → Type 0
Other System = ⊥
Other Cpu = Unit {0}
Other Watch = Unit {0}
Other OnChip = Unit {0}
Other Oscillator = Unit {0}
Other Subclock = Unit {0}
