-- `words::product` meets its contract: `whole` of Numbers.antt adds the four products of the halves.
-- Assumes nothing.
-- a product of two halves fits a word
-- the high word
use Rattle.std.proofs.Common.{ℕ, ◌+◌, ◌*◌, ◌/◌, ◌%◌, ◌^◌, ◌<◌, arith, w64, Fits}
use Rattle.words.proofs.Numbers.{below, top_fits, whole}
use Rattle.words.proofs.product.Goals as goal

fits : {x y : ℕ} → x < 2 ^ 32 → y < 2 ^ 32 → Fits w64 (x * y)
fits hx hy = record { fits = below 32 hx hy }

high_fits : (k : goal.After-struct_known-1) →
    let a = k.args.a in
    let b = k.args.b in
    let w = k.sum-across.result in
    a / 2 ^ 32 * (b / 2 ^ 32) + w.high * 2 ^ 32 + w.low / 2 ^ 32 + (a % 2 ^ 32 * (b % 2 ^ 32) / 2 ^ 32 + w.low % 2 ^ 32) / 2 ^ 32 < 2 ^ 64
high_fits k =
    top_fits k.args.a k.args.b k.sum-across.result.high k.sum-across.result.low k.sum-across.ensures k.ranges.a.fits k.ranges.b.fits

second : (s u v w : ℕ) → s + u + v + w < 2 ^ 64 → u < 2 ^ 64
second s u v w h = omega arith

both : (s u v w : ℕ) → s + u + v + w < 2 ^ 64 → s + u < 2 ^ 64
both s u v w h = omega arith

three : (s u v w : ℕ) → s + u + v + w < 2 ^ 64 → s + u + v < 2 ^ 64
three s u v w h = omega arith

halves_fit : (p m : ℕ) → p < 2 ^ 64 → p / 2 ^ 32 + m % 2 ^ 32 < 2 ^ 64
halves_fit p m h = omega arith

pub overflow_mul-bottom : goal.overflow_mul-bottom
overflow_mul-bottom c = fits (omega arith) (omega arith)

pub overflow_mul-a1 : goal.overflow_mul-a1
overflow_mul-a1 c = fits (omega arith) (omega arith)

pub overflow_mul-a0 : goal.overflow_mul-a0
overflow_mul-a0 c = fits (omega arith) (omega arith)

pub overflow_add-middle : goal.overflow_add-middle
overflow_add-middle c = record { fits = halves_fit _ _ (below 32 (omega arith) (omega arith)) }

pub overflow_mul-result : goal.overflow_mul-result
overflow_mul-result c = fits (omega arith) (omega arith)

pub overflow_mul-result-2 : goal.overflow_mul-result-2
overflow_mul-result-2 c = record { fits = second _ _ _ _ (high_fits c.before) }

pub overflow_add-result : goal.overflow_add-result
overflow_add-result c = record { fits = both _ _ _ _ (high_fits c.before) }

pub overflow_add-result-2 : goal.overflow_add-result-2
overflow_add-result-2 c = record { fits = three _ _ _ _ (high_fits c.before.before) }

pub overflow_add-result-3 : goal.overflow_add-result-3
overflow_add-result-3 c = record { fits = high_fits c.before.before }

pub returns : goal.returns
returns c =
    whole c.args.a c.args.b c.sum-across.result.high c.sum-across.result.low c.sum-across.ensures
