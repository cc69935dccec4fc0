-- `lines::ends::line_end` meets its contract: the bytes from the start to i are no newline.
-- Assumes nothing.
use Rattle.std.proofs.Common.{arith, ◌≡◌, ℕ, ◌+◌, ◌-◌, ◌≤◌, drop, length, ⊎_elim}
use Rattle.lines.specs.Lines.{line_length}
use Rattle.lines.specs.NumberLaws.{below_or_not}
use Rattle.lines.proofs.Scans.{end_here, end_on, end_last}
use Rattle.lines.proofs.ends.line_end.Goals as goal

pub returns-then-s-i-eq10 : goal.returns-then-s-i-eq10
returns-then-s-i-eq10 c =
    let l = c.loop-i in
    let a = c.args in
    let e : line_length (drop l.i a.s.now) ≡ 0 = end_here a.s.now l.i c.loop-i-test.true c.if-s-i-eq10.true in
    omega (arith, l.invariant.0, l.invariant.1, e)

pub loop-i-preserved : goal.loop-i-preserved
loop-i-preserved c =
    let l = c.loop-i in
    let e = end_on c.args.s.now l.i c.loop-i-test.true c.if-s-i-eq10.false in
    (omega (arith, l.invariant.0), omega (arith, l.invariant.0, l.invariant.1, e))

pub returns : goal.returns
returns c =
    let l = c.loop-i in
    let s = c.args.s.now in
    let k = c.skipped-start in
    let m = c.max.ensures in
    ⊎_elim
    (λ h. omega (arith, m, h, k.ensures.0, k.ensures.1, end_last s k.result (omega (arith, h))))
    (λ h. omega (arith, m, h, l.auto.i-end h, c.loop-i-test.false, l.invariant.0, l.invariant.1, end_last s l.i c.loop-i-test.false))
    (below_or_not (length s) k.result)
