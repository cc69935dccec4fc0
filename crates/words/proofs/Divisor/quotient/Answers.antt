-- `words::Divisor::quotient` meets its contract: the laws of Quotients.antt on a number near the quotient.
-- Assumes nothing.
use Rattle.std.proofs.Common.{◌≡◌, ℕ, ◌+◌, ◌-◌, ◌*◌, ◌/◌, ◌^◌, ◌<◌, ◌≤◌, ap, ◌∙◌, le_trans, le_of_eq, lt_of_le_of_lt, div-le_self, arith}
use Rattle.words.proofs.Quotients.{near, near_is, near_less}
use Rattle.words.proofs.Divisor.quotient.Goals as goal

-- the high word of the product is near the quotient
near_of : (x m r e l : ℕ) → 0 < m → r ≡ (2 ^ 64 - 1) / m → x < 2 ^ 64 → l < 2 ^ 64 → e * 2 ^ 64 + l ≡ x * r → (e * m ≤ x) × (x < e * m + m + m)
near_of x m r e l pos is hx hl words = near x m e l pos hx hl (words ∙ ap (λ (y : ℕ). x * y) is)

pub overflow_mul-rest : goal.overflow_mul-rest
overflow_mul-rest c =
    let both = near_of c.args.x c.args.self.by c.args.self.reciprocal c.product-times.result.high c.product-times.result.low c.args.self.some c.args.self.is_reciprocal (omega arith) (omega arith) c.product-times.ensures in
    record { fits = lt_of_le_of_lt both.0 c.ranges.x.fits }

pub overflow_sub-rest : goal.overflow_sub-rest
overflow_sub-rest c = (near_of c.args.x c.args.self.by c.args.self.reciprocal c.product-times.result.high c.product-times.result.low c.args.self.some c.args.self.is_reciprocal (omega arith) (omega arith) c.product-times.ensures).0

pub returns-then-rest-self : goal.returns-then-rest-self
returns-then-rest-self c =
    let both = near_of c.args.x c.args.self.by c.args.self.reciprocal c.product-times.result.high c.product-times.result.low c.args.self.some c.args.self.is_reciprocal (omega arith) (omega arith) c.product-times.ensures in
    near_is c.args.x c.args.self.by c.product-times.result.high both.0 c.if-rest-self.true

pub returns : goal.returns
returns c =
    let both = near_of c.args.x c.args.self.by c.args.self.reciprocal c.product-times.result.high c.product-times.result.low c.args.self.some c.args.self.is_reciprocal (omega arith) (omega arith) c.product-times.ensures in
    near_less c.args.x c.args.self.by c.product-times.result.high both c.if-rest-self.false

pub overflow_add-result : goal.overflow_add-result
overflow_add-result c =
    record { fits = lt_of_le_of_lt (le_trans (le_of_eq (returns c)) (div-le_self c.args.x c.args.self.by)) c.ranges.x.fits }
