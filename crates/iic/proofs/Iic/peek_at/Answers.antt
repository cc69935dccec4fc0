use Rattle.iic.proofs.Laws.{shown_is}
use Rattle.iic.proofs.Iic.peek_at.Goals as goal

pub returns : goal.returns
returns c = simp (c.shown.ensures, c.shown_count-count.ensures) (shown_is c.args.register c.args.self)
