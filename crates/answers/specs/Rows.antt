-- Laws: rows of what is written, computed from the definitions: the answer lines of document 01's example, times and signals.
-- Assumes nothing.
use Rattle.std.specs.Prelude.{◌≡◌, refl, true, false, [], ◌∷◌, ℕ, ◌-◌, ◌^◌, Option, None, Some, Ok}
use Rattle.bus.specs.Bus.{levels}
use Rattle.lines.specs.Numbers.{glyph, decimal_in, hex_in}
use Rattle.answers.specs.declared.Line.{Line}
use Rattle.answers.specs.declared.Shown.TheVariants.{Alone}
use Rattle.answers.specs.declared.Value.{Value}
use Rattle.answers.specs.declared.Value.TheVariants.{Byte}
use Rattle.answers.specs.Answers.{answer_text}
use Rattle.answers.specs.Wave.{nanoseconds_in, signals_of, changes_from}
use Rattle.bus.specs.declared.Levels.{Levels}

-- an answer line of a trace, of a call that isn't refused
abbrev shows : ℕ → Option Value → Option Levels → ℕ → Line
shows n v p s = record { number = n; answer = Ok v; shown = Alone p s }

-- document 01's answer lines
answers_written : (answer_text (shows 1 None None 0) ≡ 49 ∷ 9 ∷ 48 ∷ 9 ∷ 45 ∷ 9 ∷ 45 ∷ 9 ∷ 48 ∷ 48 ∷ 10 ∷ [])
    × (answer_text (shows 2 None (Some (levels true true)) 0x80) ≡ 50 ∷ 9 ∷ 48 ∷ 9 ∷ 45 ∷ 9 ∷ 49 ∷ 49 ∷ 9 ∷ 56 ∷ 48 ∷ 10 ∷ [])
    × (answer_text (shows 3 (Some (Byte 0x80)) (Some (levels true true)) 0x80) ≡ 51 ∷ 9 ∷ 48 ∷ 9 ∷ 56 ∷ 48 ∷ 9 ∷ 49 ∷ 49 ∷ 9 ∷ 56 ∷ 48 ∷ 10 ∷ [])
    × (answer_text (shows 4 None (Some (levels false true)) 0x80) ≡ 52 ∷ 9 ∷ 48 ∷ 9 ∷ 45 ∷ 9 ∷ 48 ∷ 49 ∷ 9 ∷ 56 ∷ 48 ∷ 10 ∷ [])
    × (answer_text (shows 5 (Some (Byte 0x75)) (Some (levels false true)) 0x80) ≡ 53 ∷ 9 ∷ 48 ∷ 9 ∷ 55 ∷ 53 ∷ 9 ∷ 48 ∷ 49 ∷ 9 ∷ 56 ∷ 48 ∷ 10 ∷ [])
unfolding glyph decimal_in hex_in answer_text
answers_written = (refl, refl, refl, refl, refl)

-- a second, half of it, the units just below and above a nanosecond, and the last time
nanoseconds_counted : (nanoseconds_in (2 ^ 64) ≡ 1000000000)
    × (nanoseconds_in (2 ^ 63) ≡ 500000000)
    × (nanoseconds_in 18446744073 ≡ 0)
    × (nanoseconds_in 18446744074 ≡ 1)
    × (nanoseconds_in (2 ^ 128 - 1) ≡ 18446744073000000000)
unfolding nanoseconds_in
nanoseconds_counted = (refl, refl, refl, refl, refl)

-- the signals after document 01's fourth line, where SCL is driven low; and of a peripheral that is off, with SCL reported low and the gate closed
signals_written : (changes_from 33 (signals_of (levels true true) (Some (levels false true)) 0x80 true) ≡ 48 ∷ 33 ∷ 10 ∷ 49 ∷ 34 ∷ 10 ∷ 49 ∷ 35 ∷ 10 ∷ 49 ∷ 36 ∷ 10 ∷ 48 ∷ 37 ∷ 10 ∷ 49 ∷ 38 ∷ 10 ∷ 49 ∷ 39 ∷ 10 ∷ 48 ∷ 40 ∷ 10 ∷ 48 ∷ 41 ∷ 10 ∷ 48 ∷ 42 ∷ 10 ∷ 48 ∷ 43 ∷ 10 ∷ 48 ∷ 44 ∷ 10 ∷ 48 ∷ 45 ∷ 10 ∷ 48 ∷ 46 ∷ 10 ∷ 49 ∷ 47 ∷ 10 ∷ [])
    × (changes_from 33 (signals_of (levels false true) None 0x55 false) ≡ 48 ∷ 33 ∷ 10 ∷ 49 ∷ 34 ∷ 10 ∷ 48 ∷ 35 ∷ 10 ∷ 49 ∷ 36 ∷ 10 ∷ 122 ∷ 37 ∷ 10 ∷ 122 ∷ 38 ∷ 10 ∷ 48 ∷ 39 ∷ 10 ∷ 49 ∷ 40 ∷ 10 ∷ 48 ∷ 41 ∷ 10 ∷ 49 ∷ 42 ∷ 10 ∷ 48 ∷ 43 ∷ 10 ∷ 49 ∷ 44 ∷ 10 ∷ 48 ∷ 45 ∷ 10 ∷ 49 ∷ 46 ∷ 10 ∷ 48 ∷ 47 ∷ 10 ∷ [])
unfolding changes_from signals_of
signals_written = (refl, refl)
