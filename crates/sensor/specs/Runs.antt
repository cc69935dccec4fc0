-- Definitions: runs of edges from the fresh state, and the statement on the states that they reach. Its proof is `reached_states_lem` in
-- proofs/RunLaws.antt. (document 02, (a); devices/bma150/i2c.rs 85, 146)
use Rattle.std.specs.Prelude.{◌≡◌, Bool, true, false, not, List, [], ◌∷◌}
use Rattle.bus.specs.Bus.{levels}
use Rattle.bus.specs.declared.Levels.{Levels}
use Rattle.sensor.specs.Edge.{change, edge_of}
use Rattle.sensor.specs.State.{abort_of, fresh_state, validate_of}
use Rattle.sensor.specs.declared.Outside.{Outside}
use Rattle.sensor.specs.declared.Phase.{Phase}
use Rattle.sensor.specs.declared.Phase.TheVariants as phase
use Rattle.sensor.specs.declared.State.{State}

-- an edge: SDA as the wires settled at before it, the levels now, and what the rest of the sensor says, the byte to send as it holds it
-- then among it; or an abort
pub data Step : Type 0 where
  edge : Bool → Levels → Outside → Step
  abort : Step

-- SCL as it is, whether the rest of the sensor was available when the parser last moved, and the parser's state
pub record Reached : Type 0 where
  pub scl : Bool
  pub available : Bool
  pub state : State

-- the previous SCL of an edge is the SCL before
abbrev pub after : Step → Reached → Reached
after (edge sda new o) r =
    record { scl = new.scl; available = not o.blocked; state = (edge_of r.state (change (levels r.scl sda) new) o).state }
after abort r = record { scl = r.scl; available = false; state = abort_of r.state }

abbrev pub run : List Step → Reached → Reached
run [] r = r
run (x ∷ l) r = run l (after x r)

-- before the first edge, with SCL at either level
abbrev pub fresh : Bool → Reached
fresh scl = record { scl = scl; available = false; state = fresh_state }

-- an acknowledge or a read
abbrev pub may_pull : Phase → Bool
may_pull phase.Idle = false
may_pull (phase.Receive k) = false
may_pull (phase.Acknowledge f n) = true
may_pull (phase.Read n) = true
may_pull (phase.MasterAcknowledge h) = false

-- After any run `validate` accepts the state, and SDA is pulled only in an acknowledge or a read.
abbrev pub ReachedStates : Type 0
ReachedStates =
    (scl : Bool) (l : List Step)
    → (validate_of (run l (fresh scl)).available (run l (fresh scl)).state ≡ true)
    × ((run l (fresh scl)).state.low ≡ true → may_pull (run l (fresh scl)).state.phase ≡ true)
