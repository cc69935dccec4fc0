-- `iic::kick::Answered+unit::kick` meets its contract. Assumes nothing.
use mathlib.Core.Path.{◌∙◌, sym}
use Rattle.iic.specs.AnswerLaws.{due_unsettled, kicked, unkicked}
use Rattle.iic.proofs.kick.Answered+unit.kick.Goals as goal

pub start_due-self-requires : goal.start_due-self-requires
start_due-self-requires c =
    let a = c.args in
    due_unsettled a.now a.system a.self (sym c.kicks.ensures ∙ c.if-kicks.true)

pub returns-then-kicks : goal.returns-then-kicks
returns-then-kicks c =
    let a = c.args in
    c.start_due-self.ensures ∙ kicked a.now a.system a.self (sym c.kicks.ensures ∙ c.if-kicks.true)

pub returns-else-kicks : goal.returns-else-kicks
returns-else-kicks c =
    let a = c.args in
    unkicked a.now a.system a.self (sym c.kicks.ensures ∙ c.if-kicks.false)
