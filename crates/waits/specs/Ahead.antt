-- Definitions: deadlines that don't lie before a time, for laws on when waits end. No definition of a call cites them.
use Rattle.std.specs.Prelude.{◌≤◌, ◌≡◌, Err, Ok, Option, Result, Some}
use Rattle.time.specs.declared.Time.{Time}
use Rattle.time.specs.Time.{time_of}
use Rattle.refusals.specs.declared.Refusal.{Refusal}

-- its time, if it has one, isn't before now
abbrev pub Ahead : Time → Result (Option Time) Refusal → Type 0
Ahead now d = (t : Time) → d ≡ Ok (Some t) → time_of now ≤ time_of t

-- it isn't refused
abbrev pub NotRefused : Result (Option Time) Refusal → Type 0
NotRefused d = (r : Refusal) → d ≡ Err r → ⊥
