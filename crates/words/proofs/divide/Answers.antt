-- `words::divide` meets its contract: long division in digits of 64 bits, whose first is 0 where the high word is below the divisor.
-- Assumes nothing.
use Rattle.std.proofs.Common.{◌^◌, sym, arith, eq-eqb}
use Rattle.words.specs.Words.{divided_of}
use Rattle.words.specs.Laws.{divided_at}
use Rattle.words.proofs.Quotients.{machine, small, steps}
use Rattle.words.proofs.divide.Goals as goal

pub returns-then-n-by : goal.returns-then-n-by
returns-then-n-by c =
    let a = c.args in
    divided_at (steps (2 ^ 64) a.n.low (small a.n.high a.by c.if-n-by.true) c.divide_part-part.ensures) (omega arith)

pub returns-then-by-eq0 : goal.returns-then-by-eq0
unfolding divided_of
returns-then-by-eq0 c = sym (rw (eq-eqb c.args.by 0 c.if-by-eq0.true))

pub divide_part-part-requires-2 : goal.divide_part-part-requires-2
divide_part-part-requires-2 c =
    let a = c.args in
    (machine a.n.high a.by (omega arith)).less

pub returns : goal.returns
returns c =
    let a = c.args in
    divided_at (steps (2 ^ 64) a.n.low (machine a.n.high a.by (omega arith)) c.divide_part-part-2.ensures) (omega arith)
