use Prim.Native.Nat.{◌<◌, ◌^◌}
use native.Mathlib.Omega.{arith}
use Rattle.answers.specs.WaveLaws.{nanoseconds_are, nanoseconds_most}
use borrow.Author.Rules.{rules}
use Rattle.answers.proofs.wave.nanoseconds.Goals as goal

pub returns-then-time-lt18446744073 : goal.returns-then-time-lt18446744073
returns-then-time-lt18446744073 c =
    let t = c.args.time in
    let h : t.fraction < 2 ^ 64 = search rules in
    nanoseconds_are t.seconds t.fraction c.if-time-lt18446744073.true h

pub returns : goal.returns
returns c = let t = c.args.time in nanoseconds_most t.seconds t.fraction (omega (arith, c.if-time-lt18446744073.false))
