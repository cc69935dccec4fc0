-- Definitions: the clock and the time that plain words are, and where an answer is put. A refused call writes nothing.
use Rattle.std.specs.Prelude.{ℕ, set, List, Err, Ok, Result}
use Rattle.time.specs.declared.Clock.{Clock}
use Rattle.time.specs.declared.Time.{Time}
use Rattle.refusals.specs.declared.Refusal.{Refusal}

abbrev pub time_from : ℕ → ℕ → Time
time_from seconds fraction = record { seconds = seconds; fraction = fraction }

abbrev pub clock_of : ℕ → ℕ → ℕ → ℕ → Clock
clock_of seconds fraction numerator denominator =
    record { start = time_from seconds fraction; numerator = numerator; denominator = denominator; ordinal = 0; fraction = 0 }

-- seconds, then the fraction
abbrev pub moment_in : Result Time Refusal → List ℕ → List ℕ
moment_in (Ok t) w = set (set w 0 t.seconds) 1 t.fraction
moment_in (Err n) w = w

abbrev pub count_in : Result ℕ Refusal → List ℕ → List ℕ
count_in (Ok m) w = set w 0 m
count_in (Err n) w = w
