use Rattle.std.proofs.Common.{length, ◌≤◌}
use Rattle.shortest.proofs.hold.Given as goal

abbrev pub invariant-loop-byte : goal.invariant-loop-byte
invariant-loop-byte l = l.used ≤ length l.trace
