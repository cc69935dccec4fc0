use mathlib.Core.Path.{ap}
use Rattle.bench.specs.declared.Summary.{Summary}
use Rattle.bench.proofs.bench_script.Goals as goal

pub returns : goal.returns
returns c = simp (← c.trace_clocks.ensures) (ap (λ (x : Summary). x.written) c.play.ensures.0, c.play.ensures.1)
