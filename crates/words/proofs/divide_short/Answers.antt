-- `words::divide_short` meets its contract: two steps of a long division in digits of 32 bits.
-- Assumes nothing.
use Rattle.std.proofs.Common.{ℕ, ◌+◌, ◌*◌, ◌/◌, ◌%◌, ◌^◌, ◌<◌, arith}
use Rattle.words.specs.Words.{Divides}
use Rattle.words.proofs.Quotients.{machine, steps, quotient_lt, digit_below}
use Rattle.words.proofs.divide_short.Goals as goal

-- the number h * 2 ^ 64 + l by m
module _ (h l m : ℕ) (less : h < m) where
  abbrev upper : ℕ
  upper = h * 2 ^ 32 + l / 2 ^ 32

  abbrev lower : ℕ
  lower = upper % m * 2 ^ 32 + l % 2 ^ 32

  first : Divides upper m (upper / m) (upper % m)
  first = machine upper m (omega (arith, less))

  second : Divides lower m (lower / m) (lower % m)
  second = machine lower m (omega (arith, less))

  first_lt : l < 2 ^ 64 → upper / m < 2 ^ 32
  first_lt word = quotient_lt (2 ^ 32) first (digit_below h (l / 2 ^ 32) m less (omega (arith, word)))

  second_lt : lower / m < 2 ^ 32
  second_lt = quotient_lt (2 ^ 32) second (digit_below (upper % m) (l % 2 ^ 32) m first.less (omega arith))

pub overflow_mul-lower : goal.overflow_mul-lower
overflow_mul-lower c = omega (arith, (first c.args.n.high c.args.n.low c.args.by c.requires.0).less)

pub overflow_add-lower : goal.overflow_add-lower
overflow_add-lower c = omega (arith, (first c.args.n.high c.args.n.low c.args.by c.requires.0).less)

pub overflow_mul-result : goal.overflow_mul-result
overflow_mul-result c = omega (arith, first_lt c.args.n.high c.args.n.low c.args.by c.requires.0 (omega arith))

pub overflow_add-result : goal.overflow_add-result
overflow_add-result c = omega (arith, first_lt c.args.n.high c.args.n.low c.args.by c.requires.0 (omega arith), second_lt c.args.n.high c.args.n.low c.args.by c.requires.0)

pub returns : goal.returns
returns c =
    let both = steps (2 ^ 32) (c.args.n.low % 2 ^ 32) (first c.args.n.high c.args.n.low c.args.by c.requires.0) (second c.args.n.high c.args.n.low c.args.by c.requires.0) in
    record { whole = omega (arith, both.whole); less = both.less }
