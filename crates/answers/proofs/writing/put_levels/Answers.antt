use Rattle.answers.proofs.writing.put_levels.Goals as goal

pub returns-in-None : goal.returns-in-None
returns-in-None c = simp c.in-None.is c.put_byte.ensures

pub returns-in-Some : goal.returns-in-Some
returns-in-Some c =
    simp (c.in-Some.is, ← c.bit_glyph-in-Some.ensures, ← c.bit_glyph.ensures) c.put_two.ensures
