-- Definitions: the bytes of a word, for the comparison with the Rust alone.
use Rattle.std.specs.Prelude.{ℕ, ◌+◌, ◌*◌, ◌%◌, Bool, eqb}

-- the lowest byte
abbrev pub byte_of : ℕ → ℕ
byte_of w = w % 256

abbrev pub is_one : ℕ → Bool
is_one w = eqb (w % 256) 1

-- the first byte is the lowest
unfoldable pub packed : ℕ → ℕ → ℕ → ℕ → ℕ → ℕ → ℕ → ℕ → ℕ
packed a b c d e f g h = ((((((h * 256 + g) * 256 + f) * 256 + e) * 256 + d) * 256 + c) * 256 + b) * 256 + a
