-- Definitions: what the functions of a check promise each other. First and last addresses stand in two lists, side by side.
use Rattle.std.specs.Prelude.{Bool, cond, ◌&&◌, List, [], ◌∷◌, ◌≡◌, ℕ, ◌+◌, ltb, eqb}
use Rattle.map.specs.declared.Range.{Range}
use Rattle.map.specs.Map.{between, holders_of}

-- how many of the ranges an address lies in
unfoldable pub held_in : List ℕ → List ℕ → ℕ → ℕ
held_in [] ls a = 0
held_in (f ∷ fs) [] a = 0
held_in (f ∷ fs) (l ∷ ls) a = cond (between f l a) 1 0 + held_in fs ls a

abbrev pub in_two_of : List ℕ → List ℕ → ℕ → Bool
in_two_of fs ls a = ltb 1 (held_in fs ls a)

abbrev pub in_none_of : List ℕ → List ℕ → ℕ → Bool
in_none_of fs ls a = eqb (held_in fs ls a) 0

-- an address lies in as many of some ranges
abbrev pub Held : List ℕ → List ℕ → List Range → Type 0
Held fs ls rs = (a : ℕ) → held_in fs ls a ≡ holders_of rs a

-- the lower of two addresses, where the second counts
abbrev pub lower_of : ℕ → ℕ → Bool → ℕ
lower_of least a counts = cond (counts && ltb a least) a least

-- the same for the address after another, where it lies in none
unfoldable pub lower_after : List ℕ → List ℕ → ℕ → ℕ → ℕ
lower_after fs ls last least = cond (ltb last 65535) (lower_of least (last + 1) (in_none_of fs ls (last + 1))) least
