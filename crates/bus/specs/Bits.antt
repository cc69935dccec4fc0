-- Definitions: masks of a byte, as iic.rs tests, sets and clears flags (`x & M != 0`, `x |= M`, `x &= !M`).
use Rattle.std.specs.Prelude.{ℕ, ◌-◌, Bool, not, cond, eqb}
use Rattle.std.specs.Int.Bits.{bit_and}

-- some bit of the mask m is set in x
abbrev pub has : ℕ → ℕ → Bool
has x m = not (eqb (bit_and x m) 0)

-- the mask m where b holds, else nothing
abbrev pub flag : Bool → ℕ → ℕ
flag b m = cond b m 0

-- x without the bits of the mask m
abbrev pub without : ℕ → ℕ → ℕ
without x m = bit_and x (0xff - m)
