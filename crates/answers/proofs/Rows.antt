-- How many bytes each field of an answer line has at most.
-- Assumes nothing.
use mathlib.Core.List.{◌∷◌}
use Rattle.std.specs.Prelude.{Option, None, Some}
use Prim.Native.Nat.{ℕ, ◌≤◌}
use native.Mathlib.Omega.{arith}
use lib.ListN.{length, length-append}
use Rattle.answers.specs.declared.Value.{Value}
use Rattle.answers.specs.declared.Value.TheVariants.{Byte, Bit, Moment}
use Rattle.answers.specs.declared.Shown.{Shown}
use Rattle.answers.specs.declared.Shown.TheVariants.{Alone, Unit, Nobody}
use Rattle.lines.specs.Numbers.{decimal_in, hex_in}
use Rattle.answers.specs.Answers.{value_text, levels_text, unit_text, state_text, shown_text}
use Rattle.lines.specs.NumberLaws.{decimal_length, hex_length}
use Rattle.bus.specs.declared.Levels.{Levels}

pub value_length : (v : Option Value) → length (value_text v) ≤ 37
value_length None = omega arith
value_length (Some (Byte b)) = omega (arith, hex_length 2 b)
value_length (Some (Bit b)) = omega arith
value_length (Some (Moment t)) =
    omega (arith, length-append (decimal_in 20 t.seconds) (58 ∷ hex_in 16 t.fraction), decimal_length 20 t.seconds, hex_length 16 t.fraction)

pub unit_length : (s : Shown) → length (unit_text s) ≤ 2
unit_length (Alone p s) = omega arith
unit_length (Unit n p s) = omega (arith, decimal_length 1 n)
unit_length Nobody = omega arith

pub levels_length : (p : Option Levels) → length (levels_text p) ≤ 2
levels_length None = omega arith
levels_length (Some l) = omega arith

state_length : (p : Option Levels) (s : ℕ) → length (state_text p s) ≤ 5
state_length p s = omega (arith, length-append (levels_text p) (9 ∷ hex_in 2 s), levels_length p, hex_length 2 s)

pub shown_length : (s : Shown) → length (shown_text s) ≤ 5
shown_length (Alone p s) = state_length p s
shown_length (Unit n p s) = state_length p s
shown_length Nobody = omega arith
