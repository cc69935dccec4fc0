use mathlib.Core.Path.{ap}
use mathlib.Core.List.{[], ◌∷◌}
use Prim.Native.Nat.{ℕ}
use Rattle.answers.proofs.Puts.{put_as}
use Rattle.answers.proofs.writing.put_value.Goals as goal

pub returns-in_default : goal.returns-in_default
returns-in_default c = simp c.in_default.is c.put_byte.ensures

pub returns-in-Byte : goal.returns-in-Byte
returns-in-Byte c = simp (c.in-Byte.is, c.in-Some.is) c.put_digits.ensures

pub returns-in-Bit : goal.returns-in-Bit
returns-in-Bit c = simp (c.in-Bit.is, c.in-Some.is) (put_as (ap (λ (x : ℕ). x ∷ []) c.bit_glyph.ensures) c.put_byte-in-Bit.ensures)

pub returns-in-Moment : goal.returns-in-Moment
returns-in-Moment c = simp (c.in-Moment.is, c.in-Some.is) c.put_time.ensures
