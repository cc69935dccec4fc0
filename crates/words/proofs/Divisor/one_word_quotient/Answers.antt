-- `words::Divisor::one_word_quotient` meets its contract: a high word of 0 leaves the low word alone, and else the quotient is that of a division.
-- Assumes nothing.
use Rattle.std.proofs.Common.{ℕ, ◌+◌, ◌*◌, ◌/◌, ◌^◌, sym, ap, ◌∙◌, zero-add, arith}
use Rattle.words.specs.Laws.{quotient_is}
use Rattle.words.proofs.Quotients.{reciprocal_pos}
use Rattle.words.proofs.Divisor.one_word_quotient.Goals as goal

pub returns-then-n-eq0 : goal.returns-then-n-eq0
returns-then-n-eq0 c =
    let a = c.args in
    c.quotient.ensures
    ∙ ap (λ (x : ℕ). x / a.self.by) (sym (ap (λ (h : ℕ). h * 2 ^ 64 + a.n.low) c.if-n-eq0.true ∙ zero-add a.n.low))

pub overflow_sub-self : goal.overflow_sub-self
overflow_sub-self c =
    let pos = reciprocal_pos c.args.n.low c.args.self.by (omega arith) (omega arith) in
    omega (arith, pos, c.args.self.is_reciprocal)

pub wide_quotient-requires : goal.wide_quotient-requires
wide_quotient-requires c =
    (c.requires, omega arith)

pub returns : goal.returns
returns c = sym (quotient_is c.divide_part.ensures)
