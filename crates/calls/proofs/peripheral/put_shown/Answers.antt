use lib.Dec.{lit<}
use mathlib.Core.List.{[], ◌∷◌}
use mathlib.Core.Path.{refl}
use native.Mathlib.Omega.{arith}
use Rattle.calls.proofs.peripheral.put_shown.Goals as goal

pub returns-clause-told : goal.returns-clause-told
returns-clause-told c =
    record { written = record { words = _ ∷ _ ∷ _ ∷ _ ∷ _ ∷ _ ∷ _ ∷ _ ∷ _ ∷ _ ∷ _ ∷ _ ∷ _ ∷ []; few = lit< tt; is = refl }; none = λ p. absurd (omega arith) }
