-- Definitions: a place in a script, by which the functions of a bench say where it stands.
use Rattle.std.specs.Prelude.{Bool, true, cond, List, ℕ, ◌+◌, ◌-◌, min, length, take, drop, Option}
use Rattle.lines.specs.Lines.{lines_in, line_length}
use Rattle.script.specs.Script.{next_of}
use Rattle.bench.specs.declared.cursor.Cursor.{Cursor}
use Rattle.lines.specs.declared.Call.{Call}

-- the lines from a place on, after so many lines; limits as in the player: after 1,000,000 lines no more is read
abbrev pub left : List ℕ → ℕ → ℕ → List (List ℕ)
left script at lines = take (1000000 - lines) (lines_in true (drop at script))

unfoldable pub next_at : List ℕ → ℕ → ℕ → Option (Option (ℕ × Call))
next_at script at lines = next_of (left script at lines)

abbrev pub cursor_at : List ℕ → ℕ → ℕ → Cursor
cursor_at script at lines = record { at = at; lines = lines; next = next_at script at lines }

-- past the line, where it was answered
abbrev pub cursor_after : Bool → List ℕ → Cursor → Cursor
cursor_after answered script c =
    cond answered (cursor_at script (min (length script) (c.at + line_length (drop c.at script) + 1)) (c.lines + 1)) c
