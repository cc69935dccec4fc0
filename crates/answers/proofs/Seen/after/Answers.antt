use Rattle.answers.proofs.Seen.after.Goals as goal

pub returns : goal.returns
returns c = simp (c.began_by.ensures, c.take.ensures)
