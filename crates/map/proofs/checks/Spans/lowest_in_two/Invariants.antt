use Rattle.map.specs.Spans.{in_two_of}
use Rattle.map.proofs.SpanLaws.{Tried, first_at}
use Rattle.map.proofs.checks.Spans.lowest_in_two.Given as goal

abbrev pub invariant-loop-at : goal.invariant-loop-at
invariant-loop-at l = Tried (in_two_of l.self.firsts l.self.lasts) (first_at l.self.firsts) l.at-index l.least
