use Rattle.std.proofs.Common.{suc}
use Rattle.map.specs.Spans.{in_none_of}
use Rattle.map.proofs.SpanLaws.{Tried, after_at}
use Rattle.map.proofs.checks.Spans.lowest_in_none.Given as goal

abbrev pub invariant-loop-last : goal.invariant-loop-last
invariant-loop-last l = Tried (in_none_of l.self.firsts l.self.lasts) (after_at l.self.lasts) (suc l.last-index) l.least
