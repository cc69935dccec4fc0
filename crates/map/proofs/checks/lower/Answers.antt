use Rattle.map.proofs.checks.lower.Goals as goal

pub returns-then-better : goal.returns-then-better
returns-then-better c = simp c.if-better.true

pub returns-else-better : goal.returns-else-better
returns-else-better c = simp c.if-better.false
