use Rattle.answers.proofs.wave.driven.Goals as goal

pub returns-in-None : goal.returns-in-None
returns-in-None c = simp c.in-None.is

pub returns-in-Some : goal.returns-in-Some
returns-in-Some c = simp (c.bit_glyph-in-Some.ensures, c.bit_glyph.ensures, c.in-Some.is)
