-- Definitions: what the functions of the search promise each other.
use Rattle.std.specs.Prelude.{◌≡◌, List, Option, Some, None, Result, Ok, Err, ℕ, ◌+◌, ◌-◌, ◌≤◌, ◌<◌, length, take, drop}
use Rattle.search.specs.declared.Best.{Best}
use Rattle.search.specs.declared.Run.{Run}
use Rattle.search.specs.declared.Unfound.{Unfound}
use Rattle.search.specs.declared.Unfound.TheVariants.{NotDrawn}
use Rattle.search.specs.Shortest.{drawn_by}

-- so many of the lines draw the number
abbrev pub Hit : List (List ℕ) → ℕ → ℕ → Type 0
Hit ls number n = drawn_by (take n ls) ≡ number

-- the least number of lines, at most so many, of which the last draws the number, where there is one
pub record Met (ls : List (List ℕ)) (number most : ℕ) (drawn : Option ℕ) : Type 0 where
  pub hit : (r : ℕ) → drawn ≡ Some r → (0 < r) × (r ≤ most) × (r ≤ length ls) × Hit ls number r
  pub clear : (n : ℕ) → 0 < n → n ≤ most → n ≤ length ls → ((r : ℕ) → drawn ≡ Some r → n < r) → Hit ls number n → ⊥

-- a better run has fewer lines
abbrev pub kept_of : Best → ℕ → Option ℕ → Best
kept_of b f None = b
kept_of b f (Some drawn) = record { first = Some f; most = drawn - 1 }

-- what a search finds whose best run has that first line, and one line more than a better one has at most
abbrev pub run_from : Option ℕ → ℕ → Result Run Unfound
run_from None most = Err NotDrawn
run_from (Some first) most = Ok (record { first = first; length = most + 1 })

abbrev pub found_of : Best → Result Run Unfound
found_of b = run_from b.first b.most

-- With the first lines up to `tried` tried, first is that of the best run and most + 1 its length, where there is one.
pub record Sought (ls : List (List ℕ)) (number tried : ℕ) (first : Option ℕ) (most : ℕ) : Type 0 where
  pub none : first ≡ None → most ≡ length ls
  pub found : (f : ℕ) → first ≡ Some f → (0 < f) × (f ≤ tried) × (f + most ≤ length ls) × Hit (drop (f - 1) ls) number (most + 1)
  pub shorter : (g n : ℕ) → g < tried → 0 < n → n ≤ most → g + n ≤ length ls → Hit (drop g ls) number n → ⊥
  pub earlier : (f g : ℕ) → first ≡ Some f → g + 1 < f → g + (most + 1) ≤ length ls → Hit (drop g ls) number (most + 1) → ⊥
