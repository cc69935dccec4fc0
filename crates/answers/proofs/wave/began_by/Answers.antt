use Rattle.answers.proofs.wave.began_by.Goals as goal

pub returns-in-Waves : goal.returns-in-Waves
returns-in-Waves c = simp (c.or.ensures, c.in-Waves.is)
