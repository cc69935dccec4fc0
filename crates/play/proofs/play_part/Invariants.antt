use Rattle.std.proofs.Common.{length, ◌-◌, ◌≤◌}
use Rattle.play.proofs.play_part.Given as goal

abbrev pub invariant-loop-used : goal.invariant-loop-used
invariant-loop-used g l = l.used ≤ length l.part

abbrev pub decreases-loop-used : goal.decreases-loop-used
decreases-loop-used g l = length l.part - l.used
