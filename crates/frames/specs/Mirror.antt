-- Definitions: the mirror of a byte, for ICMR's bit order (document 01, `reverse_bits`; iic.rs 353, 686).
use Rattle.std.specs.Prelude.{ℕ, ◌+◌, ◌*◌, ◌/◌, ◌%◌, ◌^◌, Bool, cond}

-- bit k of n, 0 or 1
abbrev pub bit_of : ℕ → ℕ → ℕ
bit_of k n = n / 2 ^ k % 2

-- bit k of the mirror is bit 7 - k of the byte
unfoldable pub mirror_of : ℕ → ℕ
mirror_of b =
    bit_of 7 b + bit_of 6 b * 2 + bit_of 5 b * 4 + bit_of 4 b * 8 + bit_of 3 b * 16 + bit_of 2 b * 32 + bit_of 1 b * 64 + bit_of 0 b * 128

-- mirrored where ICMR's MLS says that the low bit goes first (iic.rs 350, 685)
unfoldable pub ordered : Bool → ℕ → ℕ
ordered low_first b = cond low_first (mirror_of b) b
