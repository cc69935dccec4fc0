use Rattle.std.specs.Prelude.{◌≡◌}
use Rattle.bench.specs.Moments.{driven_by}
use Rattle.bench.proofs.Units.{wired_below}
use Rattle.bench.proofs.Bench.wires.Given as goal

abbrev pub invariant-loop-u : goal.invariant-loop-u
invariant-loop-u l = l.wires ≡ wired_below (driven_by l.all.count l.self) l.u
