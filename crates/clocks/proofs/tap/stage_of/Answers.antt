-- `clocks::tap::stage_of` meets its contract. Assumes nothing.
use Rattle.clocks.proofs.Powers.{stage_at, stage_none}
use Rattle.clocks.specs.Tap.{stage_of}
use Rattle.words.specs.Powers.{one_set}
use lib.Count.{count_trailing_zeros}
use Rattle.clocks.proofs.tap.stage_of.Goals as goal

pub returns-then-divide-eq1 : goal.returns-then-divide-eq1
unfolding stage_of
returns-then-divide-eq1 c =
    let d = c.args.divide in
    let one = one_set 32 d c.ranges.divide.fits c.if-divide-eq1.true in
    stage_at 32 (count_trailing_zeros 32 d) d one.1 one.0

pub returns : goal.returns
unfolding stage_of
returns c = stage_none 32 c.args.divide c.if-divide-eq1.false
