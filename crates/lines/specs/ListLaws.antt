-- Laws: what is read of a list.
-- Assumes nothing.
use Rattle.std.specs.Prelude.{ℕ, zero, suc, ◌<◌, List, [], ◌∷◌, ◌≡◌, refl, length, get_or}
use Rattle.std.proofs.Common.{arith}

-- within a list, what stands for what it lacks doesn't matter
pub within : {A : Type 0} (l : List A) (i : ℕ) (x y : A) → i < length l → get_or l i x ≡ get_or l i y
within [] i x y h = absurd (omega arith)
within (a ∷ l) zero x y h = refl
within (a ∷ l) (suc i) x y h = within l i x y (omega arith)
