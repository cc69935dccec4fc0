use Rattle.answers.proofs.Answer.line.Goals as goal

pub returns : goal.returns
returns c = simp c.pins.ensures
