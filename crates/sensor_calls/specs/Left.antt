-- Definitions: what an edge leaves, and what is asked before it, as words, for the comparison with the Rust alone
-- (compare/words/src/sensor.rs). Enums are numbered in the order of the Rust's variants.
use Rattle.std.specs.Prelude.{ℕ, ◌/◌, Bool, true, false, Option, Some, None, Result, Ok, Err}
use Rattle.bus.specs.Bits.{flag, has}
use Rattle.sensor.specs.Edge.{consumes_of, effect_of}
use Rattle.sensor.specs.State.{effect_edges_of, is_idle_of, validate_of}
use Rattle.sensor.specs.declared.Edge.{Edge}
use Rattle.sensor.specs.declared.Effect.{Effect}
use Rattle.sensor.specs.declared.Effect.TheVariants as effect
use Rattle.sensor.specs.declared.Following.{Following}
use Rattle.sensor.specs.declared.Following.TheVariants as following
use Rattle.sensor.specs.declared.Phase.{Phase}
use Rattle.sensor.specs.declared.Phase.TheVariants as phase
use Rattle.sensor.specs.declared.Receive.{Receive}
use Rattle.sensor.specs.declared.Receive.TheVariants as receive
use Rattle.sensor.specs.declared.State.{State}
use Rattle.sensor_calls.specs.Bytes.{byte_of, packed}
use Rattle.sensor_calls.specs.Given.{change_at}
use Rattle.sensor_calls.specs.declared.numbers.Asked.{Asked}
use Rattle.sensor_calls.specs.declared.numbers.Phased.{Phased}

abbrev pub kind_number : Receive → ℕ
kind_number receive.Address = 0
kind_number receive.Control = 1
kind_number receive.Data = 2

abbrev pub following_number : Following → ℕ
following_number following.Control = 0
following_number following.Data = 1
following_number following.Read = 2
following_number following.Idle = 3

abbrev pub heard_first : Option Bool → ℕ
heard_first None = 0
heard_first (Some b) = 1

abbrev pub heard_second : Option Bool → ℕ
heard_second None = 0
heard_second (Some b) = flag b 1

-- the number of a phase, and the two numbers that it holds
abbrev pub phase_number : Phase → ℕ
phase_number phase.Idle = 0
phase_number (phase.Receive k) = 1
phase_number (phase.Acknowledge f n) = 2
phase_number (phase.Read n) = 3
phase_number (phase.MasterAcknowledge h) = 4

abbrev pub first_of : Phase → ℕ
first_of phase.Idle = 0
first_of (phase.Receive k) = kind_number k
first_of (phase.Acknowledge f n) = following_number f
first_of (phase.Read n) = n
first_of (phase.MasterAcknowledge h) = heard_first h

abbrev pub second_of : Phase → ℕ
second_of phase.Idle = 0
second_of (phase.Receive k) = 0
second_of (phase.Acknowledge f n) = n
second_of (phase.Read n) = 0
second_of (phase.MasterAcknowledge h) = heard_second h

-- the three
abbrev pub phased : Phase → Phased
phased p = record { phase = phase_number p; first = first_of p; second = second_of p }

abbrev pub state_word : State → ℕ
state_word s = packed (phase_number s.phase) (first_of s.phase) (second_of s.phase) s.pointer s.bits s.shift (flag s.low 1) 0

-- 0 or 1 whether a deadline changed, 2 refused
abbrev pub answer_number : Result Bool ℕ → ℕ
answer_number (Err n) = 2
answer_number (Ok b) = flag b 1

abbrev pub refusal_of : Result Bool ℕ → ℕ
refusal_of (Err n) = n
refusal_of (Ok b) = 0

abbrev pub effect_number : Option Effect → ℕ
effect_number None = 0
effect_number (Some (effect.Write p b)) = 1
effect_number (Some (effect.Prepare p)) = 2
effect_number (Some (effect.Acknowledge p)) = 3

abbrev pub effect_pointer : Option Effect → ℕ
effect_pointer None = 0
effect_pointer (Some (effect.Write p b)) = p
effect_pointer (Some (effect.Prepare p)) = p
effect_pointer (Some (effect.Acknowledge p)) = p

abbrev pub effect_byte : Option Effect → ℕ
effect_byte None = 0
effect_byte (Some (effect.Write p b)) = b
effect_byte (Some (effect.Prepare p)) = 0
effect_byte (Some (effect.Acknowledge p)) = 0

-- the three
abbrev pub asked : Option Effect → Asked
asked e = record { number = effect_number e; pointer = effect_pointer e; byte = effect_byte e }

abbrev pub tx_number : Option ℕ → ℕ
tx_number None = 0
tx_number (Some b) = 1

abbrev pub tx_byte : Option ℕ → ℕ
tx_byte None = 0
tx_byte (Some b) = b

-- answer, effect, cleared and tx
abbrev pub left_word : Edge → ℕ
left_word e =
    packed (answer_number e.answer) (refusal_of e.answer) (effect_number e.effect) (effect_pointer e.effect) (effect_byte e.effect) (flag e.cleared 1)
    (tx_number e.tx) (tx_byte e.tx)

-- what the edge would ask
abbrev pub asked_effect : State → ℕ → Option Effect
asked_effect s flags = effect_of s (change_at flags) (has flags 16) (has flags 32)

-- consumes_conversion, effect_at, effect_edges, idle, validate with and without the rest of the sensor
abbrev pub asked_by : State → ℕ → ℕ
asked_by s flags =
    packed (flag (consumes_of s (change_at flags) (has flags 16) (has flags 32)) 1)
    (effect_number (asked_effect s flags)) (effect_pointer (asked_effect s flags)) (effect_byte (asked_effect s flags))
    (effect_edges_of s.phase s.bits) (flag (is_idle_of s) 1) (flag (validate_of true s) 1) (flag (validate_of false s) 1)

abbrev pub asked_word : State → ℕ → ℕ
asked_word s w = asked_by s (byte_of (w / 0x1_0000))
