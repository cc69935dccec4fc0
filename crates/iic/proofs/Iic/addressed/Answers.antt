use mathlib.Core.Bool.{Bool, false, true}
use mathlib.Core.Path.{◌∙◌, ap, sym}
use Rattle.iic.specs.Setters.{set_selected}
use Rattle.iic.specs.Shift.{addressed_of, select_of}
use Rattle.iic.proofs.Steps.{matched_as}
use Rattle.iic.proofs.Iic.addressed.Goals as goal

pub returns-then-hit : goal.returns-then-hit
unfolding addressed_of
returns-then-hit c =
    let a = c.args in
    c.select-self.ensures ∙ ap (λ (h : Bool). select_of a.f.shift (set_selected h a.self)) c.if-hit.true
    ∙ matched_as a.f.shift a.self true (rw c.is_general_call.ensures at c.if-hit.true)
    ∙ sym (rw c.if-asked.true)

pub returns-else-hit : goal.returns-else-hit
unfolding addressed_of
returns-else-hit c =
    let a = c.args in
    ap (λ (h : Bool). set_selected h a.self) c.if-hit.false
    ∙ matched_as a.f.shift a.self false (rw c.is_general_call.ensures at c.if-hit.false)
    ∙ sym (rw c.if-asked.true)

pub returns-else-asked : goal.returns-else-asked
unfolding addressed_of
returns-else-asked c = simp c.if-asked.false
