use Rattle.std.proofs.Common.{◌≡◌, ◌+◌, ◌-◌, ◌≤◌, drop}
use Rattle.lines.specs.Lines.{line_length}
use Rattle.lines.proofs.ends.line_end.Given as goal

abbrev pub invariant-loop-i : goal.invariant-loop-i
invariant-loop-i l = (l.from ≤ l.i) × (line_length (drop l.from l.s) ≡ (l.i - l.from) + line_length (drop l.i l.s))
