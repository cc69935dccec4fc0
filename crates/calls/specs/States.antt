-- Definitions: the words of the peripheral's state, 75 of them, and what is told of its answers (compare/words/src/iic.rs says where what lies).
use Rattle.std.specs.Prelude.{◌≡◌, ℕ, zero, suc, ◌+◌, ◌%◌, List, [], ◌∷◌, slice_index}
use Rattle.registers.specs.declared.Registers.{Registers}
use Rattle.rates.specs.declared.Rates.{Rates}
use Rattle.std.proofs.lemmas.List.Edits.{sets}

-- the words stand first
pub record Begins (words after : List ℕ) : Type 0 where
  pub rest : List ℕ
  pub is : after ≡ sets rest 0 words

-- the registers of the peripheral's state
abbrev pub register_words : Registers → List ℕ
register_words r = r.control ∷ r.mode ∷ r.count ∷ r.enable ∷ r.status ∷ r.seen ∷ r.address ∷ r.tdr ∷ r.rdr ∷ []

-- so many lengths, from a place on, each the low 16 bits of a word
abbrev pub lengths_at : ℕ → List ℕ → ℕ → List ℕ
lengths_at zero w at = []
lengths_at (suc n) w at = slice_index w at % 65536 ∷ lengths_at n w (at + 1)

-- the rate set, the last 14 words of the state
unfoldable pub rates_at : List ℕ → Rates
rates_at w = record { half_clocks = lengths_at 8 w 61; monitors = lengths_at 4 w 69; setups = lengths_at 2 w 73 }
