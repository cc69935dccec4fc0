-- Laws: rows of the format, computed from the definitions: the lines of document 01's example, a line at the last time, lines that no call
-- spells, and where lines end.
-- Assumes nothing.
use Rattle.std.specs.Prelude.{◌≡◌, refl, true, false, [], ◌∷◌, ℕ, ◌-◌, ◌^◌, None}
use Rattle.lines.specs.declared.Verb.{Verb}
use Rattle.lines.specs.declared.Verb.TheVariants.{Read, Write, Pins, Gate}
use Rattle.lines.specs.declared.Call.{Call}
use Rattle.lines.specs.Numbers.{glyph, decimal_in, hex_in}
use Rattle.lines.specs.Format.{spell}
use Rattle.lines.specs.Lines.{lines_from, lines_in}
use Rattle.lines.specs.Reading.{digit_of, closed_by, scan, seconds_of, timed_of, call_of}

-- a call in the first second
abbrev at : ℕ → Verb → Call
at n v = record { time = record { seconds = 0; fraction = n }; verb = v }

-- document 01's lines
lines_spelled : (spell (at 1 (Gate true)) ≡ 48 ∷ 9 ∷ 48 ∷ 48 ∷ 48 ∷ 48 ∷ 48 ∷ 48 ∷ 48 ∷ 48 ∷ 48 ∷ 48 ∷ 48 ∷ 48 ∷ 48 ∷ 48 ∷ 48 ∷ 49 ∷ 9 ∷ 103 ∷ 9 ∷ 49 ∷ [])
    × (spell (at 2 (Write 0 0xb0)) ≡ 48 ∷ 9 ∷ 48 ∷ 48 ∷ 48 ∷ 48 ∷ 48 ∷ 48 ∷ 48 ∷ 48 ∷ 48 ∷ 48 ∷ 48 ∷ 48 ∷ 48 ∷ 48 ∷ 48 ∷ 50 ∷ 9 ∷ 119 ∷ 9 ∷ 48 ∷ 9 ∷ 98 ∷ 48 ∷ [])
    × (spell (at 3 (Read 4)) ≡ 48 ∷ 9 ∷ 48 ∷ 48 ∷ 48 ∷ 48 ∷ 48 ∷ 48 ∷ 48 ∷ 48 ∷ 48 ∷ 48 ∷ 48 ∷ 48 ∷ 48 ∷ 48 ∷ 48 ∷ 51 ∷ 9 ∷ 114 ∷ 9 ∷ 52 ∷ [])
    × (spell (at 4 (Write 1 0x90)) ≡ 48 ∷ 9 ∷ 48 ∷ 48 ∷ 48 ∷ 48 ∷ 48 ∷ 48 ∷ 48 ∷ 48 ∷ 48 ∷ 48 ∷ 48 ∷ 48 ∷ 48 ∷ 48 ∷ 48 ∷ 52 ∷ 9 ∷ 119 ∷ 9 ∷ 49 ∷ 9 ∷ 57 ∷ 48 ∷ [])
    × (spell (at 5 (Read 1)) ≡ 48 ∷ 9 ∷ 48 ∷ 48 ∷ 48 ∷ 48 ∷ 48 ∷ 48 ∷ 48 ∷ 48 ∷ 48 ∷ 48 ∷ 48 ∷ 48 ∷ 48 ∷ 48 ∷ 48 ∷ 53 ∷ 9 ∷ 114 ∷ 9 ∷ 49 ∷ [])
    × (spell (record { time = record { seconds = 2 ^ 64 - 1; fraction = 2 ^ 64 - 1 }; verb = Pins true false }) ≡ 49 ∷ 56 ∷ 52 ∷ 52 ∷ 54 ∷ 55 ∷ 52 ∷ 52 ∷ 48 ∷ 55 ∷ 51 ∷ 55 ∷ 48 ∷ 57 ∷ 53 ∷ 53 ∷ 49 ∷ 54 ∷ 49 ∷ 53 ∷ 9 ∷ 102 ∷ 102 ∷ 102 ∷ 102 ∷ 102 ∷ 102 ∷ 102 ∷ 102 ∷ 102 ∷ 102 ∷ 102 ∷ 102 ∷ 102 ∷ 102 ∷ 102 ∷ 102 ∷ 9 ∷ 112 ∷ 9 ∷ 49 ∷ 9 ∷ 48 ∷ [])
unfolding glyph decimal_in hex_in
lines_spelled = (refl, refl, refl, refl, refl, refl)

-- a needless leading zero, 2^64 seconds, none
malformed : (call_of (48 ∷ 48 ∷ 9 ∷ 48 ∷ 48 ∷ 48 ∷ 48 ∷ 48 ∷ 48 ∷ 48 ∷ 48 ∷ 48 ∷ 48 ∷ 48 ∷ 48 ∷ 48 ∷ 48 ∷ 48 ∷ 49 ∷ 9 ∷ 118 ∷ []) ≡ None)
    × (call_of (48 ∷ 49 ∷ 9 ∷ 48 ∷ 48 ∷ 48 ∷ 48 ∷ 48 ∷ 48 ∷ 48 ∷ 48 ∷ 48 ∷ 48 ∷ 48 ∷ 48 ∷ 48 ∷ 48 ∷ 48 ∷ 49 ∷ 9 ∷ 118 ∷ []) ≡ None)
    × (call_of (49 ∷ 56 ∷ 52 ∷ 52 ∷ 54 ∷ 55 ∷ 52 ∷ 52 ∷ 48 ∷ 55 ∷ 51 ∷ 55 ∷ 48 ∷ 57 ∷ 53 ∷ 53 ∷ 49 ∷ 54 ∷ 49 ∷ 54 ∷ 9 ∷ 48 ∷ 48 ∷ 48 ∷ 48 ∷ 48 ∷ 48 ∷ 48 ∷ 48 ∷ 48 ∷ 48 ∷ 48 ∷ 48 ∷ 48 ∷ 48 ∷ 48 ∷ 49 ∷ 9 ∷ 118 ∷ []) ≡ None)
    × (call_of (9 ∷ 48 ∷ 48 ∷ 48 ∷ 48 ∷ 48 ∷ 48 ∷ 48 ∷ 48 ∷ 48 ∷ 48 ∷ 48 ∷ 48 ∷ 48 ∷ 48 ∷ 48 ∷ 49 ∷ 9 ∷ 118 ∷ []) ≡ None)
unfolding call_of timed_of seconds_of scan closed_by digit_of
malformed = (refl, refl, refl, refl)

-- a last line may lack its newline; an empty line before a newline is one; the end of a trace after a newline is none
lines_parted : (lines_in true (120 ∷ 10 ∷ 121 ∷ []) ≡ (120 ∷ []) ∷ (121 ∷ []) ∷ [])
    × (lines_in true (10 ∷ 10 ∷ []) ≡ [] ∷ [] ∷ [])
    × (lines_in true (120 ∷ 10 ∷ []) ≡ (120 ∷ []) ∷ [])
    × (lines_in true [] ≡ [])
    × (lines_in false (120 ∷ 10 ∷ 121 ∷ []) ≡ (120 ∷ []) ∷ [])
unfolding lines_in lines_from
lines_parted = (refl, refl, refl, refl, refl)
