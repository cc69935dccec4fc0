use Rattle.std.proofs.Common.{arith}
use Rattle.map.proofs.SpanLaws.{two_lowest}
use Rattle.map.proofs.checks.Spans.lowest_in_two.Goals as goal

pub returns : goal.returns
returns c = let s = c.args.self.now in two_lowest s.firsts s.lasts _ _ (omega (arith, c.loop-at-test.false)) c.loop-at.invariant
