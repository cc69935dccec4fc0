use Rattle.rates.specs.Rates.{period_of}
use borrow.Author.Rules.{rules}
use Rattle.rates.proofs.Rates.period.Goals as goal

pub returns-then-slow : goal.returns-then-slow
unfolding period_of
returns-then-slow c = search rules

pub returns-else-slow : goal.returns-else-slow
unfolding period_of
returns-else-slow c = simp (c.if-slow.false, ← c.rate-n.ensures)
