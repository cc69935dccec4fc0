-- Definitions: what the reports on a whole trace count (document 02, (d) and (l)): the lines themselves, each with its status before and after.
use Rattle.std.specs.Prelude.{◌≡◌, true, List, [], ◌∷◌, ℕ, Ok}
use Rattle.clocks.specs.declared.Clocks.{Clocks}
use Rattle.window.specs.Lines.{Line, rises, latest}
use Rattle.window.specs.Window.{report_of}
use Rattle.answers.specs.declared.Host.{Host}
use Rattle.answers.specs.declared.Output.{Output}
use Rattle.lines.specs.Lines.{lines_in}
use Rattle.answers.specs.Calls.{answer_of}
use Rattle.answers.specs.Calls.{trace_clocks}
use Rattle.player.specs.Trace.{fresh_host, fresh_player, lines_left, run_of}

-- the status register that a host's lines show
abbrev pub status_of : Host → ℕ
status_of h = h.state.registers.status

-- of each line the status before and after it; lines refused 4 or 5 leave it as it was
unfoldable pub statuses : Clocks → Host → List (List ℕ) → List Line
statuses k h [] = []
statuses k h (l ∷ ls) =
    let after = (answer_of k h l).host in
    record { before = status_of h; after = status_of after } ∷ statuses k after ls

-- the lines of a whole trace
abbrev pub statuses_in : List ℕ → List Line
statuses_in trace = statuses trace_clocks fresh_host (lines_left fresh_player (lines_in true trace))

-- "exactly the number of lines with a rising flag among the latest 64, or all lines while fewer were played": after a whole trace that had room
abbrev pub ReportsCount : Type 0
ReportsCount =
    (o : Output) (trace : List ℕ) (free : ℕ) → (run_of o trace free).ended ≡ Ok tt
    → report_of (run_of o trace free).player.seen.window ≡ rises (latest 64 (statuses_in trace))
