use Rattle.answers.specs.Wave.{signals_of}
use Rattle.answers.proofs.wave.signals.Goals as goal

pub returns : goal.returns
unfolding signals_of
returns c =
    simp (c.bit_glyph-13.ensures, c.bit_glyph-12.ensures, c.bit_glyph-11.ensures, c.bit_glyph-10.ensures, c.bit_glyph-9.ensures, c.bit_glyph-8.ensures, c.bit_glyph-7.ensures, c.bit_glyph-6.ensures, c.bit_glyph-5.ensures, c.bit_glyph-4.ensures, c.bit_glyph-3.ensures, c.bit_glyph-2.ensures, c.bit_glyph.ensures, c.driven-driven.ensures, c.wires-wires.ensures)
