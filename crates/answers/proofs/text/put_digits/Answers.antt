use mathlib.Core.Path.{ap₂, ◌∙◌}
use mathlib.Core.List.{[], ◌∷◌}
use Prim.Native.Nat.{ℕ}
use native.Mathlib.Omega.{arith}
use Rattle.answers.proofs.Puts.{put_as, hex_two}
use Rattle.answers.proofs.text.put_digits.Goals as goal

pub glyph_of-requires : goal.glyph_of-requires
glyph_of-requires c = omega arith

pub glyph_of-requires-2 : goal.glyph_of-requires-2
glyph_of-requires-2 c = omega arith

pub returns : goal.returns
returns c =
    put_as (ap₂ (λ (x y : ℕ). x ∷ y ∷ []) c.glyph_of.ensures c.glyph_of-2.ensures ∙ hex_two c.args.b c.ranges.b.fits)
    c.put_two.ensures
