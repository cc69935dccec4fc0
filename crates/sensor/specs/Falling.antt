-- Definitions: the fall of SCL. Numbers in brackets are lines of devices/bma150/i2c.rs.
use Rattle.std.specs.Prelude.{ℕ, Bool, true, false, cond, not, ◌==◌, Option, Some, None}
use Rattle.bus.specs.Bus.{first_bit}
use Rattle.sensor.specs.Leaving.{asking, plain}
use Rattle.sensor.specs.State.{abort_of, sent, sent_bit, set_low, set_phase}
use Rattle.sensor.specs.declared.Edge.{Edge}
use Rattle.sensor.specs.declared.Effect.TheVariants as effect
use Rattle.sensor.specs.declared.Following.{Following}
use Rattle.sensor.specs.declared.Following.TheVariants as following
use Rattle.sensor.specs.declared.Outside.{Outside}
use Rattle.sensor.specs.declared.Phase.{Phase}
use Rattle.sensor.specs.declared.Phase.TheVariants as phase
use Rattle.sensor.specs.declared.Receive.TheVariants as receive
use Rattle.sensor.specs.declared.State.{State}

-- `i2c_read`: the next byte is prepared, and its first bit shown (257)
unfoldable pub launch_of : Option ℕ → State → Edge
launch_of t s = asking (Some (effect.Prepare s.pointer)) t (set_phase (phase.Read 0) (set_low (not (first_bit (sent t))) s))

-- what comes after an acknowledge (231)
unfoldable pub follow_of : Following → Outside → State → Edge
follow_of following.Control o s = plain o.tx (set_phase (phase.Receive receive.Control) s)
follow_of following.Data o s = plain o.tx (set_phase (phase.Receive receive.Data) s)
follow_of following.Read o s = launch_of o.prepared s
follow_of following.Idle o s = plain o.tx (set_phase phase.Idle s)

-- SDA is pulled at the eighth fall and released at the ninth (225, 229)
unfoldable pub acknowledge_of : Following → ℕ → Outside → State → Edge
acknowledge_of f n o s =
    cond (n == 0) (plain o.tx (set_phase (phase.Acknowledge f 1) (set_low true s)))
    (cond (n == 2) (follow_of f o (set_low false s)) (plain o.tx s))

-- the next bit is shown, and after the eighth SDA is released (241)
unfoldable pub send_of : ℕ → Option ℕ → State → State
send_of n t s =
    cond (n == 8) (set_phase (phase.MasterAcknowledge None) (set_low false s))
    (set_low (not (sent_bit n (sent t))) s)

-- the next byte where the master acknowledged, else the end (249, 250)
unfoldable pub heard_of : Option Bool → Outside → State → Edge
heard_of None o s = plain o.tx s
heard_of (Some b) o s = cond b (launch_of o.prepared s) (plain o.tx (abort_of s))

-- the fall (224)
unfoldable pub falling_of : Phase → Outside → State → Edge
falling_of phase.Idle o s = plain o.tx s
falling_of (phase.Receive k) o s = plain o.tx s
falling_of (phase.Acknowledge f n) o s = acknowledge_of f n o s
falling_of (phase.Read n) o s = plain o.tx (send_of n o.tx s)
falling_of (phase.MasterAcknowledge h) o s = heard_of h o s
