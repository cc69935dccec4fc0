-- Definitions: a whole byte on the wires, and the statements that eight bits sampled, and eight bits sent, high first are the byte. Their
-- proofs are `bytes_come_in_lem`, `own_address_only_lem` and `bytes_go_out_lem` in proofs/ByteLaws.antt. Order and shifting are those of UM10204, in the crate bus.
use Rattle.std.specs.Prelude.{◌≡◌, ℕ, zero, suc, ◌+◌, ◌/◌, ◌%◌, ◌<◌, Bool, true, false, not, List, [], ◌∷◌, ◌==◌, Option, Some, None, Result}
use Rattle.bus.specs.Bus.{first_bit, is_acknowledge, levels, shift_in}
use Rattle.sensor.specs.Edge.{change, edge_of}
use Rattle.sensor.specs.Leaving.{plain}
use Rattle.sensor.specs.Rising.{next, own_address, whole_of}
use Rattle.sensor.specs.State.{fresh_state, set_low, set_phase, set_pointer}
use Rattle.sensor.specs.declared.Edge.{Edge}
use Rattle.sensor.specs.declared.Effect.TheVariants as effect
use Rattle.sensor.specs.declared.Following.TheVariants as following
use Rattle.sensor.specs.declared.Outside.{Outside}
use Rattle.sensor.specs.declared.Phase.TheVariants as phase
use Rattle.sensor.specs.declared.Receive.{Receive}
use Rattle.sensor.specs.declared.Receive.TheVariants as receive
use Rattle.sensor.specs.declared.State.{State}

-- ## Bits of a byte, by bus's definitions

-- the first n bits of a byte, in the order in which they go over the line
abbrev pub spell : ℕ → ℕ → List Bool
spell zero byte = []
spell (suc n) byte = first_bit byte ∷ spell n (shift_in byte false)

-- what bits make of a byte into which they are shifted
abbrev pub gather : ℕ → List Bool → ℕ
gather byte [] = byte
gather byte (b ∷ l) = gather (shift_in byte b) l

-- ## Clocks

-- the rest of the sensor is available, and no quiet time runs
abbrev pub ready : Result Bool ℕ → Option ℕ → Option ℕ → Outside
ready w prepared t = record { blocked = false; quiet = false; written = w; prepared = prepared; tx = t }

-- SCL falls, or rises, with SDA as it was settled and as it is
abbrev pub fall : Bool → Bool → Outside → State → Edge
fall was is o s = edge_of s (change (levels true was) (levels false is)) o

abbrev pub rise : Bool → Bool → Outside → State → Edge
rise was is o s = edge_of s (change (levels false was) (levels true is)) o

-- A clock for each bit, which is SDA where SCL rises; `z` is SDA everywhere else. The last edge.
abbrev pub clocked : (ℕ → Bool) → List Bool → Outside → Edge → Edge
clocked z [] o e = e
clocked z (b ∷ l) o e = clocked (λ n. z (3 + n)) l o (rise (z 2) b o (fall (z 0) (z 1) o e.state).state)

-- what n clocks leave that begin with SCL low
abbrev pub pulsed : (ℕ → Bool) → ℕ → Outside → State → State
pulsed z zero o s = s
pulsed z (suc n) o s = pulsed (λ m. z (4 + m)) n o (fall (z 2) (z 3) o (rise (z 0) (z 1) o s).state).state

-- what the sensor shows on SDA at each of these n rises
abbrev pub shown : (ℕ → Bool) → ℕ → Outside → State → List Bool
shown z zero o s = []
shown z (suc n) o s = not s.low ∷ shown (λ m. z (4 + m)) n o (fall (z 2) (z 3) o (rise (z 0) (z 1) o s).state).state

-- ## The statements

abbrev pub pointed : ℕ → State
pointed p = set_pointer p fresh_state

-- Eight bits sampled high first are the byte: the last edge does what i2c.rs 179 does with it, whichever byte is awaited.
abbrev pub BytesComeIn : Type 0
BytesComeIn =
    (k : Receive) (p byte : ℕ) (z : ℕ → Bool) (w : Result Bool ℕ) (t prepared : Option ℕ) → byte < 256
    → clocked z (spell 8 byte) (ready w prepared t) (plain t (set_phase (phase.Receive k) (pointed p))) ≡ whole_of k byte (ready w prepared t) (pointed p)

-- The ninth clock of an address byte is acknowledged, as UM10204 has it, just where bits 1 to 7 are the sensor's address.
abbrev pub OwnAddressOnly : Type 0
OwnAddressOnly =
    (p byte : ℕ) (z : ℕ → Bool) (a b : Bool) (w : Result Bool ℕ) (t prepared : Option ℕ) → byte < 256
    → is_acknowledge (not (fall a b (ready w prepared t) (clocked z (spell 8 byte) (ready w prepared t) (plain t (set_phase (phase.Receive receive.Address) (pointed p)))).state).state.low)
    ≡ (byte / 2 == own_address)

-- where a byte is sent next: after the acknowledge of the address, or of the master
abbrev pub addressed : ℕ → State
addressed p = set_phase (phase.Acknowledge following.Read 2) (set_low true (pointed p))

abbrev pub heard_it : ℕ → State
heard_it p = set_phase (phase.MasterAcknowledge (Some true)) (pointed p)

-- Eight bits sent high first are the byte: from the fall that prepares it, SDA at the next eight rises is its bits in their order,
-- shifted in they are the byte, and then SDA is released and the pointer is the next.
abbrev pub GoesOut : State → ℕ → ℕ → (ℕ → Bool) → Result Bool ℕ → Option ℕ → Type 0
GoesOut s p byte z w t =
    let e = fall (z 0) (z 1) (ready w (Some byte) t) s in
    let o = ready w (Some byte) e.tx in
    (e.effect ≡ Some (effect.Prepare p)) × ((e.tx ≡ Some byte)
    × ((shown (λ n. z (2 + n)) 8 o e.state ≡ spell 8 byte)
    × ((gather 0 (shown (λ n. z (2 + n)) 8 o e.state) ≡ byte)
    × (pulsed (λ n. z (2 + n)) 8 o e.state ≡ set_phase (phase.MasterAcknowledge None) (pointed (next p % 128))))))

abbrev pub BytesGoOut : Type 0
BytesGoOut =
    (p byte : ℕ) (z : ℕ → Bool) (w : Result Bool ℕ) (t : Option ℕ) → byte < 256
    → GoesOut (addressed p) p byte z w t × GoesOut (heard_it p) p byte z w t
