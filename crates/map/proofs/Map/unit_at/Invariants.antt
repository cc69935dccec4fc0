use Rattle.std.proofs.Common.{◌≡◌, drop}
use Rattle.map.specs.Map.{unit_at}
use Rattle.map.proofs.Map.unit_at.Given as goal

abbrev pub invariant-loop-range : goal.invariant-loop-range
invariant-loop-range l = unit_at l.range-items l.address ≡ unit_at (drop l.range-index l.range-items) l.address
