-- Definitions: an edge, and what it asks of the rest of the sensor. Numbers in brackets are lines of devices/bma150/i2c.rs.
use Rattle.std.specs.Prelude.{ℕ, Bool, true, false, cond, not, ◌&&◌, ◌||◌, ◌==◌, Option, Some, None, Ok}
use Rattle.bus.specs.Bus.{is_start, is_stop}
use Rattle.bus.specs.declared.Levels.{Levels}
use Rattle.sensor.specs.Falling.{falling_of}
use Rattle.sensor.specs.Rising.{rising_of}
use Rattle.sensor.specs.Leaving.{plain}
use Rattle.sensor.specs.State.{abort_of, is_acknowledge, set_phase}
use Rattle.sensor.specs.declared.Change.{Change}
use Rattle.sensor.specs.declared.Edge.{Edge}
use Rattle.sensor.specs.declared.Effect.{Effect}
use Rattle.sensor.specs.declared.Following.{Following}
use Rattle.sensor.specs.declared.Following.TheVariants as following
use Rattle.sensor.specs.declared.Outside.{Outside}
use Rattle.sensor.specs.declared.Phase.{Phase}
use Rattle.sensor.specs.declared.Phase.TheVariants as phase
use Rattle.sensor.specs.declared.Receive.{Receive}
use Rattle.sensor.specs.declared.Receive.TheVariants as receive
use Rattle.sensor.specs.declared.State.{State}

-- the levels before and after
abbrev pub change : Levels → Levels → Change
change old new = record { previous = old; current = new }

-- ## Edges of SCL (171, 223)

abbrev pub rises_at : Change → Bool
rises_at c = not c.previous.scl && c.current.scl

abbrev pub falls_at : Change → Bool
falls_at c = c.previous.scl && not c.current.scl

-- ## Conditions of UM10204, of a change

abbrev pub starts_at : Change → Bool
starts_at c = is_start c.previous c.current

abbrev pub stops_at : Change → Bool
stops_at c = is_stop c.previous c.current

-- ## The edge

-- the state after a start that is taken, or without one (160, 165)
abbrev pub begun_of : Bool → State → State
begun_of starts s = cond starts (set_phase (phase.Receive receive.Address) (abort_of s)) (abort_of s)

-- a start or a stop: tx, the pair and the shadow are dropped (159)
abbrev pub condition_of : Bool → State → Edge
condition_of starts s = record { answer = Ok false; effect = None; cleared = true; tx = None; state = begun_of starts s }

-- SCL rises, falls, or stays (171, 223)
unfoldable pub clocked_of : State → Change → Outside → Edge
clocked_of s c o =
    cond (rises_at c) (rising_of s.phase c.current.sda o s)
    (cond (falls_at c) (falling_of s.phase o s) (plain o.tx s))

-- `i2c_pins` (146): blocked; a start or a stop; a quiet time, which lets an acknowledge end; a clock
unfoldable pub edge_of : State → Change → Outside → Edge
edge_of s c o =
    cond o.blocked (plain o.tx (abort_of s))
    (cond (starts_at c || stops_at c) (condition_of (starts_at c && not o.quiet) s)
    (cond (o.quiet && not (is_acknowledge s.phase)) (plain o.tx (abort_of s))
    (clocked_of s c o)))

-- ## What is asked before the edge

-- what the rest of the sensor says, whatever a write would answer, which byte would be prepared and which is held
abbrev pub unasked : Bool → Bool → Outside
unasked blocked quiet = record { blocked = blocked; quiet = quiet; written = Ok false; prepared = None; tx = None }

-- what an edge asks of the rest of the sensor; that it doesn't depend on the answers is a law, `effect_alone`
unfoldable pub effect_of : State → Change → Bool → Bool → Option Effect
effect_of s c blocked quiet = (edge_of s c (unasked blocked quiet)).effect

abbrev pub is_data : Receive → Bool
is_data receive.Address = false
is_data receive.Control = false
is_data receive.Data = true

abbrev pub is_read_next : Following → Bool
is_read_next following.Control = false
is_read_next following.Data = false
is_read_next following.Read = true
is_read_next following.Idle = false

abbrev pub acknowledged_by : Option Bool → Bool
acknowledged_by None = false
acknowledged_by (Some b) = b

-- a rise at which a byte that is sent is first read, or a byte of data is whole (125)
unfoldable pub takes_at_rise : Phase → ℕ → Bool
takes_at_rise phase.Idle bits = false
takes_at_rise (phase.Receive k) bits = is_data k && bits == 7
takes_at_rise (phase.Acknowledge f n) bits = false
takes_at_rise (phase.Read n) bits = n == 0
takes_at_rise (phase.MasterAcknowledge h) bits = false

-- a fall after which a byte is sent (128)
unfoldable pub prepares_at_fall : Phase → Bool
prepares_at_fall phase.Idle = false
prepares_at_fall (phase.Receive k) = false
prepares_at_fall (phase.Acknowledge f n) = is_read_next f && n == 2
prepares_at_fall (phase.Read n) = false
prepares_at_fall (phase.MasterAcknowledge h) = acknowledged_by h

-- whether the edge wants the conversion brought up to now first (`i2c_pins_at`, 115)
unfoldable pub consumes_of : State → Change → Bool → Bool → Bool
consumes_of s c blocked quiet =
    not blocked && not quiet && (rises_at c && takes_at_rise s.phase s.bits || falls_at c && prepares_at_fall s.phase)
