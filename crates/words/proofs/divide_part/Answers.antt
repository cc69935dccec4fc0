-- `words::divide_part` meets its contract: a number of one word by the machine's division, any other by one of the two functions.
-- Assumes nothing.
use Rattle.std.proofs.Common.{ℕ, ◌+◌, ◌*◌, ◌^◌, sym, ap, ◌∙◌, zero-add, arith}
use Rattle.words.proofs.Quotients.{machine}
use Rattle.words.proofs.divide_part.Goals as goal

pub returns-then-n-eq0 : goal.returns-then-n-eq0
returns-then-n-eq0 c =
    let a = c.args in
    let one = machine a.n.low a.by (omega arith) in
    record { whole = one.whole ∙ sym (ap (λ (h : ℕ). h * 2 ^ 64 + a.n.low) c.if-n-eq0.true ∙ zero-add a.n.low); less = one.less }
