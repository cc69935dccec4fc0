use Rattle.window.specs.RiseLaws.{rise_by_mask}
use Rattle.window.proofs.rise.Goals as goal

pub returns : goal.returns
returns c = rise_by_mask c.args.before c.args.after c.ranges.before.fits c.ranges.after.fits
