use Rattle.std.proofs.Common.{length, ◌≤◌}
use Rattle.play.proofs.run.Given as goal

abbrev pub invariant-loop : goal.invariant-loop
invariant-loop g l = (l.begun.have ≤ 65) × (65 ≤ length l.input)
