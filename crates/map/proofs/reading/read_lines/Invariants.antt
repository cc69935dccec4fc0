use Rattle.std.proofs.Common.{◌≡◌, ◌-◌, ◌≤◌, true, length, drop}
use Rattle.lines.specs.Lines.{lines_in}
use Rattle.map.specs.Reading.{read_of, read_from}
use Rattle.map.proofs.reading.read_lines.Given as goal

abbrev pub invariant-loop-at : goal.invariant-loop-at
invariant-loop-at l = (l.map.count ≤ 64) × (read_of l.text ≡ read_from l.map (lines_in true (drop l.at l.text)))

abbrev pub decreases-loop-at : goal.decreases-loop-at
decreases-loop-at l = length l.text - l.at
