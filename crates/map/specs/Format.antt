-- Definitions: the line of a range, by writing it (document 02, (n)): "first address, last address (four lower-case hexadecimal digits each), and unit 0
-- to 3 or `-` for none, parted by tabs". `ReadingLaws` shows that the reading definition agrees, both ways.
use Rattle.std.specs.Prelude.{true, List, [], ◌∷◌, ◌++◌, ◌≡◌, Option, None, Some, ℕ, ◌<◌}
use Rattle.lines.specs.Numbers.{glyph, hex_in}
use Rattle.lines.specs.Format.{dash}
use Rattle.lines.specs.Format.{tab}
use Rattle.map.specs.declared.Range.{Range}
use Rattle.map.specs.Map.{addresses, range_sound}

abbrev pub unit_glyph : Option ℕ → ℕ
unit_glyph None = dash
unit_glyph (Some n) = glyph n

abbrev pub spell_range : Range → List ℕ
spell_range r = hex_in 4 r.first ++ tab ∷ (hex_in 4 r.last ++ tab ∷ unit_glyph r.unit ∷ [])

-- the lines of some ranges
unfoldable pub spell_ranges : List Range → List (List ℕ)
spell_ranges [] = []
spell_ranges (r ∷ rs) = spell_range r ∷ spell_ranges rs

-- 16-bit addresses, and a range that is sound
pub record InRange (r : Range) : Type 0 where
  pub first : r.first < addresses
  pub last : r.last < addresses
  pub sound : range_sound r ≡ true
