use mathlib.Core.Path.{ap, sym, ◌∙◌}
use native.Mathlib.Omega.{arith}
use Rattle.std.specs.Prelude.{Err}
use Rattle.bench.proofs.Below.{below}
use Rattle.bench.proofs.Bench.look.Goals as goal

pub invariant_of-shown : goal.invariant_of-shown
invariant_of-shown c =
    let small = below _ _ _ _ (sym c.judge.ensures ∙ c.in-Err-Early.is ∙ ap Err c.in-Err-Early.field-0-is) in
    record { there = omega (arith, small, c.args.all.few, c.in-Err-Early.u-is) }
