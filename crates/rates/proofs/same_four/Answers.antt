use mathlib.Core.Path.{◌∙◌, ap₂}
use lib.Dec.{eqb}
use Rattle.rates.specs.RateLaws.{same_words}
use Rattle.rates.proofs.same_four.Goals as goal

pub returns : goal.returns
returns c =
    let f = c.ranges in
    ap₂ eqb c.word.ensures c.word-2.ensures
    ∙ same_words _ _ _ _ _ _ _ _ f.a.fits f.b.fits f.c.fits f.d.fits f.e.fits f.f.fits f.g.fits f.h.fits
