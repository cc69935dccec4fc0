-- Definitions: document 02, (k), on runs before and after the system clock's start is moved up. The proof is `moved_runs_lem` in proofs/MovedRuns.antt.
use Rattle.std.specs.Prelude.{ℕ, ◌+◌, ◌≤◌, ◌<◌, ◌^◌, true, List, [], ◌∷◌, ◌≡◌, Err, None, Ok, Option, Result, Some}
use Rattle.time.specs.declared.Time.{Time}
use Rattle.time.specs.Time.{time_of}
use Rattle.clocks.specs.declared.Clocks.{Clocks}
use Rattle.clocks.specs.declared.tap.Source.{Source}
use Rattle.clocks.specs.declared.tap.Source.TheVariants.{System, Cpu, Watch, OnChip, Oscillator, Subclock}
use Rattle.clocks.specs.declared.tap.Tap.{Tap}
use Rattle.clocks.specs.declared.wait.WaitState.{WaitState}
use Rattle.clocks.specs.declared.wait.WaitState.TheVariants.{Running, Paused, Ready}
use Rattle.clocks.specs.Moves.{move_system}
use Rattle.clocks.specs.Tap.{system_tap}
use Rattle.clocks.specs.Wait.{edge_deadline}
use Rattle.waits.specs.Half.{half_deadline}
use Rattle.iic.specs.declared.Iic.{Iic}
use Rattle.hosts.specs.Calls.{Call, Outcome, outcome_of}
use Rattle.hosts.specs.Calls as call
use Rattle.clocks.specs.declared.wait.ClockWait.{ClockWait}
use Rattle.refusals.specs.declared.Refusal.{Refusal}
use Rattle.refusals.specs.declared.Refusal.TheVariants.{Reversed}
use Rattle.waits.specs.declared.HalfWait.{HalfWait}

-- a time not before the start s
abbrev pub From : Time → Time → Type 0
From s now = time_of s ≤ time_of now

-- ## A state with no wait due before s: each of its running waits on the system clock has its own time not before s

-- none, a time not before s, or a refusal other than 8: 8 is drawn by an edge below the clock's ordinal, which lies before its start
abbrev pub NotBefore : Time → Result (Option Time) Refusal → Type 0
NotBefore s (Ok None) = Unit {0}
NotBefore s (Ok (Some t)) = From s t
NotBefore s (Err r) = r ≡ Reversed → ⊥

abbrev pub OwnHalf : Clocks → Time → Option HalfWait → Type 0
OwnHalf k s None = Unit {0}
OwnHalf k s (Some w) = NotBefore s (half_deadline w k.system)

-- a wait on a tap of the system clock, divided or not; one for another clock may lie before s
abbrev pub OwnEdge : Clocks → Time → Source → ℕ → ℕ → Type 0
OwnEdge k s System d n = NotBefore s (edge_deadline (system_tap d) k n)
OwnEdge k s Cpu d n = Unit {0}
OwnEdge k s Watch d n = Unit {0}
OwnEdge k s OnChip d n = Unit {0}
OwnEdge k s Oscillator d n = Unit {0}
OwnEdge k s Subclock d n = Unit {0}

-- one that is over may lie before it too
abbrev pub OwnState : Clocks → Time → Tap → WaitState → Type 0
OwnState k s t (Running n) = OwnEdge k s t.source t.divide n
OwnState k s t (Paused n) = Unit {0}
OwnState k s t (Ready at) = Unit {0}

abbrev pub OwnWait : Clocks → Time → Option ClockWait → Type 0
OwnWait k s None = Unit {0}
OwnWait k s (Some w) = OwnState k s w.tap w.state

-- the own times of the four waits: gate, ICE and reset don't matter
abbrev pub NoneBefore : Clocks → Time → Iic → Type 0
NoneBefore k s u =
    OwnHalf k s u.clock_wait × OwnHalf k s u.monitor_wait × OwnWait k s u.filter_wait × OwnWait k s u.setup_wait

-- ## Runs

-- the call's time, where it takes one, isn't before s
abbrev pub CallFrom : Time → Call → Type 0
CallFrom s (call.peek a) = Unit {0}
CallFrom s (call.read a now) = From s now
CallFrom s (call.write a value now) = From s now
CallFrom s (call.input_pins scl sda now) = From s now
CallFrom s (call.set_gate gate now) = From s now
CallFrom s call.deadline = Unit {0}
CallFrom s (call.advance now) = From s now
CallFrom s call.pins = Unit {0}
CallFrom s call.interrupt = Unit {0}
CallFrom s (call.interrupt_with_enable retained) = Unit {0}
CallFrom s (call.validate now) = From s now

abbrev pub AllFrom : Time → List Call → Type 0
AllFrom s [] = Unit {0}
AllFrom s (x ∷ l) = CallFrom s x × AllFrom s l

-- the answer of each call, and the state after it: each gets the state that the one before it returned or left, refused or not
unfoldable pub outcomes : Clocks → Iic → List Call → List Outcome
outcomes k u [] = []
outcomes k u (x ∷ l) = outcome_of k x u ∷ outcomes k (outcome_of k x u).state l

-- ## The statement

-- the set k, moved by n, is k': neither 1 nor 7 was drawn
abbrev pub Moved : Clocks → ℕ → Clocks → Type 0
Moved k n k' = move_system n k ≡ record { ended = Ok tt; clocks = k' }

-- the new start
abbrev pub new_start : Clocks → Time
new_start k' = k'.system.clock.start

-- Document 02, (k): "From a state with no wait due before the new start, runs at times not before it share all answers before and after the move, provided the new
-- start is also an edge of the system domain where that domain counts the clock moved" (the domain runs, and its own clock is the one moved), "the new start is earlier than the last time, 2^128 - 1".
-- The proviso on counts isn't needed for the eleven calls. The states are the same too. A numerator is a word, as every field of the record is.
abbrev pub MovedRuns : Type 0
MovedRuns =
    (k k' : Clocks) (n : ℕ) → Moved k n k'
    → k.system.running ≡ true
    → time_of (new_start k') + 1 < 2 ^ 128
    → k.system.clock.numerator < 2 ^ 64
    → (u : Iic) → NoneBefore k (new_start k') u
    → (l : List Call) → AllFrom (new_start k') l
    → outcomes k u l ≡ outcomes k' u l
