use Rattle.answers.proofs.wave.since.Goals as goal

pub returns-in-Some : goal.returns-in-Some
returns-in-Some c = simp (c.nanoseconds_from.ensures, c.in-Some.is)
