-- Definitions: request (l) of document 02, the statement on what a window reports after any lines. Its proof is `counts_latest_lem` in proofs/ReportLaws.antt.
use Rattle.std.specs.Prelude.{◌≡◌, List}
use Rattle.window.specs.Lines.{Line, rises, latest}
use Rattle.window.specs.Window.{report_of, window_of}

-- "exactly the number of lines with a rising flag among the latest 64, or all lines while fewer were played"
abbrev pub CountsLatest : Type 0
CountsLatest = (lines : List Line) → report_of (window_of lines) ≡ rises (latest 64 lines)
