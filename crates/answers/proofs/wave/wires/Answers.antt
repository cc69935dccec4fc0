use Rattle.answers.proofs.wave.wires.Goals as goal

pub returns-in-Some : goal.returns-in-Some
returns-in-Some c = simp (c.wired.ensures, c.in-Some.is)
