-- `iic::waiting::Answered+unit::schedule_filter` meets its contract. Assumes nothing.
use mathlib.Core.Path.{◌∙◌, sym}
use Rattle.iic.specs.AnswerLaws.{scheduled, unscheduled}
use Rattle.iic.proofs.waiting.Answered+unit.schedule_filter.Goals as goal

pub returns-then-wants_filter : goal.returns-then-wants_filter
returns-then-wants_filter c =
    let a = c.args in
    c.start_filter-self.ensures ∙ scheduled a.now a.system a.self (sym c.wants_filter.ensures ∙ c.if-wants_filter.true)

pub returns-else-wants_filter : goal.returns-else-wants_filter
returns-else-wants_filter c =
    let a = c.args in
    unscheduled a.now a.system a.self (sym c.wants_filter.ensures ∙ c.if-wants_filter.false)
