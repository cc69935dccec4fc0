-- `words::Divisor::wide_quotient` meets its contract: the laws of Quotients.antt on what a number near the quotient leaves.
-- Assumes nothing.
use Rattle.std.proofs.Common.{ℕ, ◌+◌, ◌*◌, ◌/◌, ◌^◌, ◌<◌, ap, ◌∙◌, le_of_eq, lt_of_le_of_lt, arith}
use Rattle.words.proofs.Quotients.{high_times_fits, wide_near_fits, left_is, wide_is, wide_fits}
use Rattle.words.proofs.Divisor.wide_quotient.Goals as goal

pub overflow_mul-near : goal.overflow_mul-near
overflow_mul-near c =
    let a = c.args in
    record { fits = high_times_fits a.n.high a.self.by a.self.reciprocal c.requires.0 a.self.is_reciprocal }

pub overflow_add-near : goal.overflow_add-near
overflow_add-near c =
    let a = c.args in
    record { fits = wide_near_fits a.n.high a.self.by a.self.reciprocal c.requires.0 a.self.is_reciprocal a.n.low c.product-lower.result.high c.product-lower.result.low c.requires.1 omega arith omega arith c.product-lower.ensures }

pub returns : goal.returns
returns c =
    let a = c.args in
    let hx : a.n.low < 2 ^ 64 = omega arith in
    let hl : c.product-lower.result.low < 2 ^ 64 = omega arith in
    let near = a.n.high * a.self.reciprocal + c.product-lower.result.high in
    let left = left_is a.n.high a.self.by a.self.reciprocal c.requires.0 a.self.is_reciprocal a.n.low c.product-lower.result.high c.product-lower.result.low c.requires.1 hx hl c.product-lower.ensures c.product-taken.result.high c.product-taken.result.low c.product-taken.ensures (omega arith) in
    ap (λ (y : ℕ). near + y) (c.quotient.ensures ∙ ap (λ (y : ℕ). y / a.self.by) left)
    ∙ wide_is a.n.high a.self.by a.self.reciprocal c.requires.0 a.self.is_reciprocal a.n.low c.product-lower.result.high c.product-lower.result.low c.requires.1 hx hl c.product-lower.ensures

pub overflow_add-result : goal.overflow_add-result
overflow_add-result c =
    let a = c.args in
    let hx : a.n.low < 2 ^ 64 = omega arith in
    let hl : c.product-lower.result.low < 2 ^ 64 = omega arith in
    record { fits = lt_of_le_of_lt (le_of_eq (returns c)) (wide_fits a.n.high a.self.by a.self.reciprocal c.requires.0 a.self.is_reciprocal a.n.low c.product-lower.result.high c.product-lower.result.low c.requires.1 hx hl c.product-lower.ensures) }
