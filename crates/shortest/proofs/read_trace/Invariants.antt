use Rattle.std.proofs.Common.{length, ◌≤◌}
use Rattle.shortest.proofs.read_trace.Given as goal

abbrev pub invariant-loop : goal.invariant-loop
invariant-loop g l = l.held.used ≤ length l.room
