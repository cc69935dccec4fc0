use Rattle.map.proofs.SpanLaws.{Filled}
use Rattle.map.proofs.Map.spans.Given as goal

abbrev pub invariant-loop-i : goal.invariant-loop-i
invariant-loop-i l = Filled l.firsts l.lasts l.range-items l.i
