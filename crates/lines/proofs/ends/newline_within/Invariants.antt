use Rattle.std.proofs.Common.{◌≡◌, ltb, drop}
use Rattle.lines.specs.Lines.{line_length}
use Rattle.lines.proofs.ends.newline_within.Given as goal

abbrev pub invariant-loop-b : goal.invariant-loop-b
invariant-loop-b l = l.found ≡ ltb (line_length (drop l.at l.s)) l.b-index
