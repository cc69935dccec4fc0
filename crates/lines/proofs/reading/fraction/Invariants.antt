use Rattle.std.specs.Prelude.{None}
use Rattle.std.proofs.Common.{◌≡◌, ◌-◌, ◌<◌, ◌^◌, cond, drop}
use Rattle.lines.specs.Reading.{hex_from, fraction_of}
use Rattle.lines.proofs.reading.fraction.Given as goal

abbrev pub invariant-loop-b : goal.invariant-loop-b
invariant-loop-b l = (l.n < 16 ^ l.b-index) × (fraction_of l.rest ≡ cond l.fine (hex_from (16 - l.b-index) l.n (drop l.b-index l.rest)) None)
