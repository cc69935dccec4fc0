-- Definitions: the rise of SCL. Numbers in brackets are lines of devices/bma150/i2c.rs.
use Rattle.std.specs.Prelude.{ℕ, ◌+◌, ◌/◌, ◌%◌, Bool, true, false, cond, ◌==◌, nat_lt, Option, Some, Result, Ok, Err}
use Rattle.bus.specs.Bus.{is_acknowledge, is_read, shift_in}
use Rattle.sensor.specs.Leaving.{asking, plain}
use Rattle.sensor.specs.State.{abort_of, acknowledging, set_bits, set_phase, set_pointer}
use Rattle.sensor.specs.declared.Edge.{Edge}
use Rattle.sensor.specs.declared.Effect.TheVariants as effect
use Rattle.sensor.specs.declared.Following.{Following}
use Rattle.sensor.specs.declared.Following.TheVariants as following
use Rattle.sensor.specs.declared.Outside.{Outside}
use Rattle.sensor.specs.declared.Phase.{Phase}
use Rattle.sensor.specs.declared.Phase.TheVariants as phase
use Rattle.sensor.specs.declared.Receive.{Receive}
use Rattle.sensor.specs.declared.Receive.TheVariants as receive
use Rattle.sensor.specs.declared.State.{State}

-- ## A byte comes in

-- the sensor's address, bits 1 to 7 of the bytes 70 and 71 (181, 182)
abbrev pub own_address : ℕ
own_address = 0x38

-- what an address byte asks for (181, 182)
abbrev pub asked_by : ℕ → Following
asked_by byte = cond (is_read byte) following.Read following.Control

-- another address isn't acknowledged (180)
unfoldable pub addressed_of : ℕ → State → State
addressed_of byte s = cond (byte / 2 == own_address) (acknowledging (asked_by byte) s) s

-- after a write that began a quiet time the transfer is over; otherwise a control byte comes next (192)
abbrev pub written_next : Bool → Following
written_next quiet = cond quiet following.Idle following.Control

-- a byte of data is written at the pointer; a refusal leaves the parser idle (190)
unfoldable pub wrote_of : Result Bool ℕ → ℕ → Option ℕ → State → Edge
wrote_of (Err n) byte tx s =
    record { answer = Err n; effect = Some (effect.Write s.pointer byte); cleared = false; tx = tx; state = s }
wrote_of (Ok quiet) byte tx s =
    record { answer = Ok true; effect = Some (effect.Write s.pointer byte); cleared = false; tx = tx; state = acknowledging (written_next quiet) s }

-- a whole byte, of which the state keeps nothing (179)
unfoldable pub whole_of : Receive → ℕ → Outside → State → Edge
whole_of receive.Address byte o s = plain o.tx (addressed_of byte s)
whole_of receive.Control byte o s = plain o.tx (acknowledging following.Data (set_pointer (byte % 128) s))
whole_of receive.Data byte o s = wrote_of o.written byte o.tx s

-- one more, in a byte
abbrev pub next : ℕ → ℕ
next n = (n + 1) % 256

-- a bit is sampled (173)
unfoldable pub sampled_of : Receive → Bool → Outside → State → Edge
sampled_of k sda o s =
    cond (next s.bits == 8) (whole_of k (shift_in s.shift sda) o (abort_of s))
    (plain o.tx (set_bits (next s.bits) (shift_in s.shift sda) s))

-- ## A byte goes out

-- a bit was read; the eighth raises the pointer (210, 213)
unfoldable pub counted_of : ℕ → State → State
counted_of n s = cond (n == 7) (set_phase (phase.Read 8) (set_pointer (next s.pointer % 128) s)) (set_phase (phase.Read (next n)) s)

-- the first bit that is read is told to the rest of the sensor (205)
unfoldable pub read_on_of : ℕ → Option ℕ → State → Edge
read_on_of n tx s =
    cond (n == 0) (asking (Some (effect.Acknowledge s.pointer)) tx (counted_of n s))
    (cond (nat_lt n 8) (plain tx (counted_of n s)) (plain tx s))

-- ## The rise (172)

unfoldable pub rising_of : Phase → Bool → Outside → State → Edge
rising_of phase.Idle sda o s = plain o.tx s
rising_of (phase.Receive k) sda o s = sampled_of k sda o s
rising_of (phase.Acknowledge f n) sda o s = plain o.tx (set_phase (phase.Acknowledge f 2) s)
rising_of (phase.Read n) sda o s = read_on_of n o.tx s
rising_of (phase.MasterAcknowledge h) sda o s = plain o.tx (set_phase (phase.MasterAcknowledge (Some (is_acknowledge sda))) s)
