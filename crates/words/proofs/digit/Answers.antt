-- `words::digit` meets its contract: the laws of Quotients.antt on an estimate that is right, or one or two too large.
-- Assumes nothing.
use Rattle.std.proofs.Common.{arith}
use Rattle.words.proofs.Quotients.{have_lt, take_lt, exact, one_over, once, two_over, lack_lt, twice}
use Rattle.words.proofs.digit.Goals as goal

pub overflow_mul-have : goal.overflow_mul-have
overflow_mul-have c = omega (arith, have_lt c.args.high c.args.next c.args.by c.requires.0 c.ranges.by.fits c.requires.1 c.requires.2)

pub overflow_add-have : goal.overflow_add-have
overflow_add-have c = omega (arith, have_lt c.args.high c.args.next c.args.by c.requires.0 c.ranges.by.fits c.requires.1 c.requires.2)

pub overflow_mul-take : goal.overflow_mul-take
overflow_mul-take c = record { fits = take_lt c.args.high c.args.next c.args.by c.requires.0 c.ranges.by.fits c.requires.1 c.requires.2 }

pub returns-then-take-have : goal.returns-then-take-have
returns-then-take-have c =
    exact c.args.high c.args.next c.args.by c.requires.0 c.ranges.by.fits c.requires.1 c.requires.2 c.if-take-have.true

pub overflow_sub-result-then-lack-by : goal.overflow_sub-result-then-lack-by
overflow_sub-result-then-lack-by c =
    one_over c.args.high c.args.next c.args.by c.requires.0 c.ranges.by.fits c.requires.1 c.requires.2 c.if-take-have.false

pub returns-then-lack-by : goal.returns-then-lack-by
returns-then-lack-by c =
    once c.args.high c.args.next c.args.by c.requires.0 c.ranges.by.fits c.requires.1 c.requires.2 c.if-take-have.false c.if-lack-by.true

pub overflow_sub-result-2 : goal.overflow_sub-result-2
overflow_sub-result-2 c =
    two_over c.args.high c.args.next c.args.by c.requires.0 c.ranges.by.fits c.requires.1 c.requires.2 c.if-take-have.false c.if-lack-by.false

pub overflow_sub-result-4 : goal.overflow_sub-result-4
overflow_sub-result-4 c =
    omega (arith, lack_lt c.args.high c.args.next c.args.by c.requires.0 c.ranges.by.fits c.requires.1 c.requires.2)

pub returns : goal.returns
returns c =
    twice c.args.high c.args.next c.args.by c.requires.0 c.ranges.by.fits c.requires.1 c.requires.2 c.if-take-have.false c.if-lack-by.false
