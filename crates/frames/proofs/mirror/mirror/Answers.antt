use Rattle.frames.proofs.Table.{table, mirrors}
use Rattle.frames.proofs.mirror.mirror.Goals as goal

pub returns : goal.returns
unfolding table
returns c = mirrors c.args.byte c.ranges.byte.fits
