-- Definitions: bytes put at a place of a buffer (document 01, "The trace player": from the first free byte on, the rest unchanged).
use Rattle.std.specs.Prelude.{◌≡◌, List, ◌++◌, ℕ, ◌+◌, length, take, drop}

-- the bytes stand at the place, the next place is r, and what stands before and after them stays
pub record Put (before after : List ℕ) (at r : ℕ) (bytes : List ℕ) : Type 0 where
  pub next : r ≡ at + length bytes
  pub is : after ≡ take at before ++ (bytes ++ drop r before)
