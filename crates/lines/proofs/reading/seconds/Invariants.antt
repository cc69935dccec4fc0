use Rattle.std.proofs.Common.{◌≡◌, drop}
use Rattle.lines.specs.Reading.{scan, seconds_of}
use Rattle.lines.proofs.reading.seconds.Given as goal

abbrev pub invariant-loop-i : goal.invariant-loop-i
invariant-loop-i l = seconds_of l.line ≡ scan l.n l.i (drop l.i l.line)
