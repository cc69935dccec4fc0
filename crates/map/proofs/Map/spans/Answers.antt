-- `map::Map::spans` meets its contract: the ranges so far stand in the lists, and the places after them hold no address.
-- Assumes nothing.
use Rattle.std.proofs.Common.{arith, refl}
use Rattle.map.proofs.SpanLaws.{filled_none, filled_on}
use Rattle.map.proofs.Map.spans.Goals as goal

pub loop-i-init : goal.loop-i-init
loop-i-init c = filled_none _

pub loop-i-preserved : goal.loop-i-preserved
loop-i-preserved c = filled_on c.loop-i.invariant _ _ (omega (arith, c.lines-range-items.ensures.few, c.loop-i-test.true)) c.loop-i-test.true refl
