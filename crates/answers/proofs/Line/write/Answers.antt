use borrow.Author.Tests.{lt-ltb, le-ltb}
use Rattle.answers.proofs.Puts.{put_none}
use Rattle.answers.proofs.Line.write.Goals as goal

pub returns-then-out-lt80 : goal.returns-then-out-lt80
returns-then-out-lt80 c = simp (lt-ltb _ 80 c.if-out-lt80.true) (put_none _ 0)

pub returns : goal.returns
returns c = simp (le-ltb _ 80 c.if-out-lt80.false) c.put.ensures
