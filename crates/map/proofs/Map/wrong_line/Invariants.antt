use Rattle.std.proofs.Common.{◌≡◌, suc, drop}
use Rattle.map.specs.Map.{wrong_from}
use Rattle.map.proofs.Map.wrong_line.Given as goal

abbrev pub invariant-loop-i : goal.invariant-loop-i
invariant-loop-i l = wrong_from 1 l.range-items ≡ wrong_from (suc l.i) (drop l.i l.range-items)
