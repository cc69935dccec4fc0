use Rattle.std.proofs.Common.{◌≡◌, ◌+◌, ◌≤◌, length, drop}
use Rattle.map.specs.Spans.{held_in}
use Rattle.map.proofs.checks.Spans.holders.Given as goal

abbrev pub invariant-loop-i : goal.invariant-loop-i
invariant-loop-i l = record {
  firsts : length l.self.firsts ≡ 64;
  lasts : length l.self.lasts ≡ 64;
  few : l.n ≤ l.i;
  counted : l.n + held_in (drop l.i l.self.firsts) (drop l.i l.self.lasts) l.address ≡ held_in l.self.firsts l.self.lasts l.address;
}
