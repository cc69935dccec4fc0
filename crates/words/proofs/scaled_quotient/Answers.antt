-- `words::scaled_quotient` meets its contract: `scaled_words` of Quotients.antt adds a multiple of the quotient of 2 ^ 64 and what its remainder makes.
-- Assumes nothing.
use Rattle.std.proofs.Common.{ℕ, ◌*◌, ◌/◌, ◌^◌, sym, ap, ◌∙◌, arith}
use native.Mathlib.Nat.{div-zero}
use Rattle.words.proofs.Quotients.{rest_le, left_below, scaled_words, scaled_fit}
use Rattle.words.proofs.scaled_quotient.Goals as goal

pub returns-then-by-eq0 : goal.returns-then-by-eq0
returns-then-by-eq0 c =
    let a = c.args in
    sym (ap (λ (m : ℕ). a.n * 2 ^ 64 / m) c.if-by-eq0.true ∙ div-zero (a.n * 2 ^ 64))

pub overflow_add-by : goal.overflow_add-by
overflow_add-by c =
    let a = c.args in
    omega (arith, rest_le a.n a.by (omega arith))

pub one_word_quotient-requires : goal.one_word_quotient-requires
one_word_quotient-requires c =
    let a = c.args in
    left_below a.n a.by (omega arith) c.product-left.result.high c.product-left.result.low c.ranges.n.fits c.product-left.ensures

pub overflow_add-result : goal.overflow_add-result
overflow_add-result c =
    let a = c.args in
    record { fits = scaled_fit a.n a.by (omega arith) c.product-times.result.high c.product-times.result.low c.one_word_quotient.result c.sum-low.result.high c.sum-low.result.low c.product-times.ensures (c.one_word_quotient.ensures ∙ ap (λ (x : ℕ). x / a.by) c.product-left.ensures) c.sum-low.ensures c.ranges.n.fits }

pub returns : goal.returns
returns c =
    let a = c.args in
    scaled_words a.n a.by (omega arith) c.product-times.result.high c.product-times.result.low c.one_word_quotient.result c.sum-low.result.high c.sum-low.result.low c.product-times.ensures (c.one_word_quotient.ensures ∙ ap (λ (x : ℕ). x / a.by) c.product-left.ensures) c.sum-low.ensures
