use Rattle.std.proofs.Common.{◌≡◌, ◌+◌, ◌*◌, take}
use Rattle.answers.specs.Puts.{Put}
use Rattle.answers.specs.Wave.{changes_from}
use Rattle.answers.proofs.wave.put_changes.Given as goal

-- the lines of the signals before i stand there
abbrev pub invariant-loop-i : goal.invariant-loop-i
invariant-loop-i l = record {
  put : Put l.initial.out l.out l.at l.next (changes_from 33 (take l.i l.values));
  next_is : l.next ≡ l.at + 3 * l.i;
}
