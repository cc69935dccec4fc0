use Rattle.bench.specs.Measure.{steps_left}
use Rattle.bench.specs.Cursor.{left}
use Rattle.bench.proofs.Loops.{Going}
use Rattle.bench.proofs.run.Given as goal

abbrev pub invariant-loop-all : goal.invariant-loop-all
invariant-loop-all l = Going l.all.clocks l.all.count l.script l.initial.out l.out l.bench l.cursor l.written

abbrev pub decreases-loop-all : goal.decreases-loop-all
decreases-loop-all l = steps_left l.all.clocks l.all.count l.bench (left l.script l.cursor.at l.cursor.lines)
