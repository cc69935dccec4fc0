use Rattle.answers.specs.Calls.{trace_clocks}
use Rattle.answers.proofs.trace_clocks.Goals as goal

pub returns : goal.returns
unfolding trace_clocks
returns c = simp (c.new.ensures, c.default.ensures)
