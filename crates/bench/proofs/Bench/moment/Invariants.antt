use Rattle.std.specs.Prelude.{◌≡◌}
use Rattle.bench.specs.Moments.{named_by}
use Rattle.bench.proofs.Units.{soonest_from}
use Rattle.bench.proofs.Bench.moment.Given as goal

abbrev pub invariant-loop-u : goal.invariant-loop-u
invariant-loop-u l = l.moment ≡ soonest_from (named_by l.all.clocks l.all.count l.present l.self) l.fn.line l.u
