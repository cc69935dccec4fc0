-- Definitions: what the laws say of an address map (document 02, (n)): which map is accepted, what 19 and 20 carry, which text is accepted.
use Rattle.std.specs.Prelude.{Bool, true, false, ⊤, List, [], ◌∷◌, ◌≡◌, Result, Ok, Err, ℕ, ◌+◌, ◌≤◌, ◌<◌, length}
use Rattle.lines.specs.Lines.{lines_in}
use Rattle.map.specs.declared.Range.{Range}
use Rattle.map.specs.declared.Fault.{Fault}
use Rattle.map.specs.declared.Fault.TheVariants.{Line, InTwo, InNone}
use Rattle.refusals.specs.Refusals.{number_of}
use Rattle.map.specs.Map.{addresses, fault_refusal, holders_of}
use Rattle.map.specs.Format.{InRange, spell_ranges}

-- ## The lowest address

-- of the addresses from a on, n of them, l is the lowest that has the property, or the one after them
pub record LeastFrom (p : ℕ → Bool) (a n l : ℕ) : Type 0 where
  pub from : a ≤ l
  pub within : l ≤ a + n
  pub has : l < a + n → p l ≡ true
  pub below : (b : ℕ) → a ≤ b → b < l → p b ≡ false

-- the same of all addresses
abbrev pub Least : (ℕ → Bool) → ℕ → Type 0
Least p l = LeastFrom p 0 addresses l

-- ## A check

-- each address lies in one range
abbrev pub InOne : List Range → Type 0
InOne rs = (a : ℕ) → a < addresses → holders_of rs a ≡ 1

-- the lowest address that lies in two ranges
pub record TwoAt (rs : List Range) (a : ℕ) : Type 0 where
  pub within : a < addresses
  pub two : 1 < holders_of rs a
  pub below : (b : ℕ) → b < a → holders_of rs b ≤ 1

-- the lowest that lies in none, where none lies in two
pub record NoneAt (rs : List Range) (a : ℕ) : Type 0 where
  pub within : a < addresses
  pub none : holders_of rs a ≡ 0
  pub below : (b : ℕ) → b < a → holders_of rs b ≡ 1
  pub none_in_two : (b : ℕ) → b < addresses → holders_of rs b ≤ 1

-- what a check of sound ranges says: "19 when some address lies in two lines; after it, 20 when some address lies in none"
abbrev pub Means : List Range → Result ⊤ Fault → Type 0
Means rs (Ok _) = InOne rs
Means rs (Err (InTwo a)) = (number_of (fault_refusal (InTwo a)) ≡ 19) × TwoAt rs a
Means rs (Err (InNone a)) = (number_of (fault_refusal (InNone a)) ≡ 20) × NoneAt rs a
Means rs (Err (Line n)) = ⊥

-- ## A text

-- each range can be spelled
pub data AllIn : List Range → Type 0 where
  none : AllIn []
  and : {r : Range} {rs : List Range} → InRange r → AllIn rs → AllIn (r ∷ rs)

-- what the lines of an accepted text spell
pub record Fits (s : List ℕ) (rs : List Range) : Type 0 where
  pub spelled : lines_in true s ≡ spell_ranges rs
  pub few : length rs ≤ 64
  pub in_range : AllIn rs
  pub in_one : InOne rs
