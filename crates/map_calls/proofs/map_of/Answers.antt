use mathlib.Core.List.{List}
use mathlib.Core.Path.{ap}
use lib.ListN.{length-replicate}
use Rattle.map.specs.declared.Range.{Range}
use Rattle.map.specs.Reading.{no_range}
use Rattle.map_calls.specs.Made.{made_map}
use Rattle.map_calls.specs.MadeLaws.{making_none, making_on, making_all}
use Rattle.map_calls.proofs.map_of.Goals as goal

pub loop-i-init : goal.loop-i-init
loop-i-init c = making_none _ no_range _ (length-replicate {A = Range} 64 no_range)

pub loop-i-preserved : goal.loop-i-preserved
loop-i-preserved c = making_on c.loop-i.invariant _ c.loop-i-test.true c.range_of.ensures

pub returns : goal.returns
unfolding made_map
returns c = ap (λ (l : List Range). record { ranges = l; count = c.args.count }) (making_all c.loop-i.invariant c.loop-i-test.false)
