-- Definitions: waits for edges of the system clock itself, on the tap system/1 (document 01, module 4; `ClockWait`). They look at the system
-- domain alone: SystemLaws.antt says that in a set without a zero they are the waits of Wait.antt on that tap.
use Rattle.std.specs.Prelude.{ℕ, ◌+◌, Bool, cond, eqb, Option, Some, None, Result, Ok, Err}
use Rattle.time.specs.declared.Time.{Time}
use Rattle.refusals.specs.declared.Refusal.{Refusal}
use Rattle.refusals.specs.declared.Refusal.TheVariants.{ZeroFrequency}
use Rattle.refusals.specs.Refusals.{and_then}
use Rattle.time.specs.Clock.{after_of, zero_in}
use Rattle.domain.specs.declared.Domain.{Domain}
use Rattle.clocks.specs.declared.wait.ClockWait.{ClockWait}
use Rattle.clocks.specs.declared.wait.WaitState.{WaitState}
use Rattle.clocks.specs.declared.wait.WaitState.TheVariants.{Paused, Ready, Running}
use Rattle.counts.specs.Counts.{fits}
use Rattle.domain.specs.Domain.{domain_ticks}
use Rattle.clocks.specs.Tap.{same_tap, system_tap}
use Rattle.clocks.specs.Wait.{dated, started_by, wait_of}

-- the time of the edge of that number of a domain's own clock, while it runs
unfoldable pub domain_deadline : Domain → ℕ → Result (Option Time) Refusal
domain_deadline d n = cond d.running (dated (and_then (fits n) (after_of d.clock))) (Ok None)

-- a running wait to the edge of that number
unfoldable pub system_started_at : Domain → ℕ → Result ClockWait Refusal
system_started_at d n = started_by (wait_of (system_tap 1) (Running n)) (domain_deadline d n)

-- `ClockWait::after`: a wait for n edges after now, one for none being over at once
unfoldable pub system_after : Time → ℕ → Domain → Result ClockWait Refusal
system_after now n d =
    cond (zero_in d.clock) (Err ZeroFrequency)
    (cond (eqb n 0) (Ok (wait_of (system_tap 1) (Ready now)))
    (and_then (domain_ticks d now) (λ m. and_then (fits (m + n)) (system_started_at d))))

-- whether a wait is for edges of the system clock itself
abbrev pub on_system : ClockWait → Bool
on_system w = same_tap w.tap (system_tap 1)

abbrev pub system_state_deadline : Domain → WaitState → Result (Option Time) Refusal
system_state_deadline d (Running n) = domain_deadline d n
system_state_deadline d (Paused n) = Ok None
system_state_deadline d (Ready at) = Ok (Some at)

-- `ClockWait::deadline` of such a wait
unfoldable pub system_deadline : ClockWait → Domain → Result (Option Time) Refusal
system_deadline w d = cond (zero_in d.clock) (Err ZeroFrequency) (system_state_deadline d w.state)
