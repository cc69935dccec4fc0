-- `words::divide_long` meets its contract: two digits of the shifted number by the shifted divisor, as Shifts.antt has them.
-- Assumes nothing.
use Rattle.std.proofs.Common.{◌^◌, ◌<◌, arith}
use Rattle.words.proofs.Quotients.{quotient_lt, digit_below}
use Rattle.words.proofs.Shifts.{short, divisor_top, top_lt, top_fits, shifted_back}
use Rattle.words.proofs.divide_long.Goals as goal

pub overflow_cast-scaled : goal.overflow_cast-scaled
overflow_cast-scaled c = omega (arith, short c.args.n.high c.args.n.low c.args.by c.requires (omega arith) (omega arith))

pub overflow_shl-scaled : goal.overflow_shl-scaled
overflow_shl-scaled c = short c.args.n.high c.args.n.low c.args.by c.requires (omega arith) (omega arith)

pub overflow_cast-top : goal.overflow_cast-top
overflow_cast-top c = omega (arith, short c.args.n.high c.args.n.low c.args.by c.requires (omega arith) (omega arith))

pub overflow_shl-top : goal.overflow_shl-top
overflow_shl-top c = short c.args.n.high c.args.n.low c.args.by c.requires (omega arith) (omega arith)

pub overflow_sub-top : goal.overflow_sub-top
overflow_sub-top c = omega (arith, short c.args.n.high c.args.n.low c.args.by c.requires (omega arith) (omega arith))

pub overflow_add-top : goal.overflow_add-top
overflow_add-top c = record { fits = top_fits c.args.n.high c.args.n.low c.args.by c.requires (omega arith) (omega arith) }

pub overflow_cast-rest : goal.overflow_cast-rest
overflow_cast-rest c = omega (arith, short c.args.n.high c.args.n.low c.args.by c.requires (omega arith) (omega arith))

pub overflow_shl-rest : goal.overflow_shl-rest
overflow_shl-rest c = short c.args.n.high c.args.n.low c.args.by c.requires (omega arith) (omega arith)

pub digit-first-requires : goal.digit-first-requires
digit-first-requires c = (divisor_top c.args.n.high c.args.n.low c.args.by c.requires (omega arith) (omega arith), top_lt c.args.n.high c.args.n.low c.args.by c.requires (omega arith) (omega arith), omega arith)

pub digit-second-requires : goal.digit-second-requires
digit-second-requires c = (divisor_top c.args.n.high c.args.n.low c.args.by c.requires (omega arith) (omega arith), c.digit-first.ensures.less, omega arith)

pub overflow_mul-result : goal.overflow_mul-result
overflow_mul-result c =
    let first : c.digit-first.result.quotient < 2 ^ 32 = quotient_lt (2 ^ 32) c.digit-first.ensures (digit_below _ _ _ (top_lt c.args.n.high c.args.n.low c.args.by c.requires (omega arith) (omega arith)) (omega arith)) in
    omega (arith, first)

pub overflow_add-result : goal.overflow_add-result
overflow_add-result c =
    let first : c.digit-first.result.quotient < 2 ^ 32 = quotient_lt (2 ^ 32) c.digit-first.ensures (digit_below _ _ _ (top_lt c.args.n.high c.args.n.low c.args.by c.requires (omega arith) (omega arith)) (omega arith)) in
    let second : c.digit-second.result.quotient < 2 ^ 32 = quotient_lt (2 ^ 32) c.digit-second.ensures (digit_below _ _ _ c.digit-first.ensures.less (omega arith)) in
    omega (arith, first, second)

pub overflow_cast-result : goal.overflow_cast-result
overflow_cast-result c = omega (arith, short c.args.n.high c.args.n.low c.args.by c.requires (omega arith) (omega arith))

pub overflow_shr-result : goal.overflow_shr-result
overflow_shr-result c = short c.args.n.high c.args.n.low c.args.by c.requires (omega arith) (omega arith)

pub returns : goal.returns
returns c = shifted_back c.args.n.high c.args.n.low c.args.by c.requires (omega arith) (omega arith) c.digit-first.ensures c.digit-second.ensures
