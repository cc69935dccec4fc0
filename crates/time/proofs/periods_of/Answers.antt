-- `time::periods_of` meets its contract: by a denominator of 1 the product is the number of edges.
-- Assumes nothing.
use Rattle.std.proofs.Common.{ℕ, ◌*◌, sym, ap, ◌∙◌, zero-add, mul-one}
use Rattle.time.proofs.periods_of.Goals as goal

pub returns-then-denominator-eq1 : goal.returns-then-denominator-eq1
returns-then-denominator-eq1 c =
    let n = c.args.edges in
    zero-add n ∙ sym (ap (λ (x : ℕ). n * x) c.if-denominator-eq1.true ∙ mul-one n)
