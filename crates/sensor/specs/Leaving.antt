-- Definitions: what an edge leaves where nothing is refused.
use Rattle.std.specs.Prelude.{ℕ, false, Option, None, Ok}
use Rattle.sensor.specs.declared.Edge.{Edge}
use Rattle.sensor.specs.declared.Effect.{Effect}
use Rattle.sensor.specs.declared.State.{State}

-- with an effect, and no deadline changed (254)
abbrev pub asking : Option Effect → Option ℕ → State → Edge
asking e tx s = record { answer = Ok false; effect = e; cleared = false; tx = tx; state = s }

-- with none
abbrev pub plain : Option ℕ → State → Edge
plain tx s = asking None tx s
