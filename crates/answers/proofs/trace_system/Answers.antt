use Rattle.clocks.specs.Clocks.{new_clocks, clock_set}
use Rattle.answers.specs.Calls.{trace_clocks}
use Rattle.answers.proofs.trace_system.Goals as goal

pub returns : goal.returns
unfolding trace_clocks new_clocks clock_set
returns c = simp c.default.ensures
