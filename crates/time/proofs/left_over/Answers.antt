-- `time::left_over` meets its contract: the remainder of the second of two divisions.
-- Assumes nothing.
use Rattle.std.proofs.Common.{ℕ, ◌+◌, ◌*◌, ◌%◌, ◌^◌, sym, ap, ◌∙◌}
use Rattle.words.specs.Words.{value_of}
use Rattle.words.specs.declared.Divided.{Divided}
use Rattle.words.specs.declared.Wide.{Wide}
use Rattle.words.specs.Laws.{remainder_of}
use Rattle.time.proofs.Edges.{fraction_parts}
use Rattle.time.proofs.left_over.Goals as goal

pub returns : goal.returns
returns c =
    let a = c.args in
    let h = a.numerator in
    ap (λ (r : Divided Wide). r.remainder) c.divide.ensures
    ∙ remainder_of (c.divide-whole.result.remainder * 2 ^ 64 + a.part) h c.requires
    ∙ ap (λ (x : ℕ). (x * 2 ^ 64 + a.part) % h) (ap (λ (r : Divided Wide). r.remainder) c.divide-whole.ensures ∙ remainder_of (value_of a.periods) h c.requires)
    ∙ sym (fraction_parts (value_of a.periods) a.part h)
