-- Definitions: what an edge is handed, of words, for the comparison with the Rust alone (compare/words/src/sensor.rs). A number that
-- stands for no case counts as the last.
use Rattle.std.specs.Prelude.{ℕ, ◌/◌, Bool, cond, eqb, Option, Some, None, Result, Ok, Err}
use Rattle.bus.specs.Bits.{has}
use Rattle.bus.specs.Bus.{levels}
use Rattle.sensor.specs.Edge.{change, edge_of}
use Rattle.sensor.specs.declared.Change.{Change}
use Rattle.sensor.specs.declared.Edge.{Edge}
use Rattle.sensor.specs.declared.Following.{Following}
use Rattle.sensor.specs.declared.Following.TheVariants as following
use Rattle.sensor.specs.declared.Outside.{Outside}
use Rattle.sensor.specs.declared.Phase.{Phase}
use Rattle.sensor.specs.declared.Phase.TheVariants as phase
use Rattle.sensor.specs.declared.Receive.{Receive}
use Rattle.sensor.specs.declared.Receive.TheVariants as receive
use Rattle.sensor.specs.declared.State.{State}
use Rattle.sensor_calls.specs.Bytes.{byte_of, is_one}

abbrev pub kind_at : ℕ → Receive
kind_at n = cond (eqb n 0) receive.Address (cond (eqb n 1) receive.Control receive.Data)

abbrev pub following_at : ℕ → Following
following_at n = cond (eqb n 0) following.Control (cond (eqb n 1) following.Data (cond (eqb n 2) following.Read following.Idle))

abbrev pub heard_at : ℕ → ℕ → Option Bool
heard_at present acknowledged = cond (eqb present 1) (Some (eqb acknowledged 1)) None

unfoldable pub phase_at : ℕ → ℕ → ℕ → Phase
phase_at n first second =
    cond (eqb n 0) phase.Idle
    (cond (eqb n 1) (phase.Receive (kind_at first))
    (cond (eqb n 2) (phase.Acknowledge (following_at first) second)
    (cond (eqb n 3) (phase.Read first) (phase.MasterAcknowledge (heard_at first second)))))

-- phase and its two numbers, pointer, bits, shift, low: the order of the Rust's fields
unfoldable pub state_at : ℕ → State
state_at w = record {
  phase = phase_at (byte_of w) (byte_of (w / 0x100)) (byte_of (w / 0x1_0000));
  pointer = byte_of (w / 0x100_0000);
  bits = byte_of (w / 0x1_0000_0000);
  shift = byte_of (w / 0x100_0000_0000);
  low = is_one (w / 0x1_0000_0000_0000);
}

abbrev pub tx_at : Bool → ℕ → Option ℕ
tx_at present byte = cond present (Some byte) None

-- 0 done, 1 done with a quiet time, 2 refused
abbrev pub written_at : ℕ → ℕ → Result Bool ℕ
written_at kind number = cond (eqb kind 2) (Err number) (Ok (eqb kind 1))

abbrev pub change_at : ℕ → Change
change_at flags = change (levels (has flags 1) (has flags 2)) (levels (has flags 4) (has flags 8))

unfoldable pub outside_at : ℕ → Outside
outside_at w = record {
  blocked = has (byte_of (w / 0x1_0000)) 16;
  quiet = has (byte_of (w / 0x1_0000)) 32;
  written = written_at (byte_of (w / 0x100_0000)) (byte_of (w / 0x1_0000_0000));
  prepared = tx_at (is_one (w / 0x100_0000_0000)) (byte_of (w / 0x1_0000_0000_0000));
  tx = tx_at (is_one w) (byte_of (w / 0x100));
}

-- tx, levels and flags, the write's answer, the byte prepared
unfoldable pub edge_at : ℕ → ℕ → Edge
edge_at s w = edge_of (state_at s) (change_at (byte_of (w / 0x1_0000))) (outside_at w)
