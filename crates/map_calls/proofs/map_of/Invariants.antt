-- The ranges so far are those of their words.
use Rattle.map.specs.Reading.{no_range}
use Rattle.map_calls.specs.MadeLaws.{Making}
use Rattle.map_calls.proofs.map_of.Given as goal

abbrev pub invariant-loop-i : goal.invariant-loop-i
invariant-loop-i l = Making l.words no_range l.ranges l.i
