-- Definitions: the eleven calls (iic.rs, each the function of its name; numbers in brackets are its lines). Each decides the answer and the whole
-- next state, refused or not (document 01, demand 2). Of the clock set that a call gets, refusal 1 looks at each clock, and the waits of the filter
-- and of the setup, which in a state that is handed in may be on any tap, at theirs; all else takes the system domain alone.
use Rattle.std.specs.Prelude.{ℕ, Bool, ◌&&◌, cond, false, Err, None, Ok, Option, Result, Some, ⊤}
use Rattle.bus.specs.Bus.{levels, same_levels}
use Rattle.bus.specs.declared.Levels.{Levels}
use Rattle.clocks.specs.Clocks.{has_zero}
use Rattle.clocks.specs.declared.Clocks.{Clocks}
use Rattle.domain.specs.declared.Domain.{Domain}
use Rattle.iic.specs.Answers.{Stepped, and_then, answered, fine, guarded}
use Rattle.iic.specs.Clocking.{fire_clock_of, fire_filter_of, fire_monitor_of, fire_setup_of}
use Rattle.iic.specs.Kick.{kick_of}
use Rattle.iic.specs.Waiting.{schedule_filter_of, turn_clock_of, turn_filter_of, turn_monitor_of, turn_setup_of}
use Rattle.iic.specs.declared.Ends.{Ends}
use Rattle.iic.specs.declared.Iic.{Iic}
use Rattle.iic.specs.declared.Answered.{Answered}
use Rattle.iic.specs.Reading.{peek_at, read_at}
use Rattle.registers.specs.Registers.{register_at}
use Rattle.iic.specs.Writing.{write_at}
use Rattle.iic.specs.Checks.{fell_by, halves_refusal, interrupt_with, progress_holds, ranges_hold}
use Rattle.iic.specs.Filter.{observes}
use Rattle.iic.specs.Setters.{set_gate, set_raw}
use Rattle.iic.specs.State.{awake, enabled}
use Rattle.refusals.specs.Refusals.{before_call, first_of, of_state}
use Rattle.time.specs.declared.Time.{Time}
use Rattle.waits.specs.Ends.{half_end, sooner, tap_refusal, wait_end}
use Rattle.rates.specs.Rates.{rates_hold}
use Rattle.std.specs.Bool.{beq}
use Rattle.refusals.specs.declared.Refusal.{Refusal}
use Rattle.refusals.specs.declared.Refusal.TheVariants.{ZeroFrequency}

-- ## Refusals that stand before a call (document 01, their order): 1, where a clock that was handed in holds a zero, then 14 for the state's rate set
-- (document 02, (f)), then 9, then 10, with the state unchanged

abbrev pub guard_by : Bool → Iic → Result ⊤ Refusal
guard_by zero s = before_call zero (rates_hold s.rates) (ranges_hold s) (progress_holds s)

-- ## Registers: `peek`, `read`, `write` (197, 215, 255)

unfoldable pub peek_of : Iic → ℕ → ℕ
peek_of s a = peek_at (register_at a) s

abbrev pub read_by : Bool → Iic → ℕ → Time → Domain → Answered ℕ
read_by zero s a now system = answered (guarded (guard_by zero s) s (read_at (register_at a) now system s)) (peek_of s a)

unfoldable pub read_of : Iic → ℕ → Time → Clocks → Answered ℕ
read_of s a now k = read_by (has_zero k) s a now k.system

abbrev pub write_by : Bool → Iic → ℕ → ℕ → Time → Domain → Stepped
write_by zero s a value now system = guarded (guard_by zero s) s (write_at (register_at a) value now system s)

unfoldable pub write_of : Iic → ℕ → ℕ → Time → Clocks → Stepped
write_of s a value now k = write_by (has_zero k) s a value now k.system

-- ## Levels: `input_pins`, `pins` (430, 184)

-- document 01, idle calls: levels equal to those held as given change nothing (437)
unfoldable pub take_pins_of : Levels → Time → Domain → Iic → Stepped
take_pins_of given now system s = cond (same_levels s.lines.raw given) (fine s) (schedule_filter_of now system (set_raw given s))

abbrev pub input_pins_by : Bool → Iic → Bool → Bool → Time → Domain → Answered Bool
input_pins_by zero s scl sda now system =
    answered (guarded (guard_by zero s) s (take_pins_of (levels scl sda) now system s)) (observes s (levels scl sda))

unfoldable pub input_pins_of : Iic → Bool → Bool → Time → Clocks → Answered Bool
input_pins_of s scl sda now k = input_pins_by (has_zero k) s scl sda now k.system

abbrev pub pins_of : Iic → Option Levels
pins_of s = cond (enabled s) (Some s.lines.drive) None

-- ## The gate: `set_gate` (380)

-- a wait that a stretched clock paused stays paused (395)
unfoldable pub keep_stretched_of : Bool → Time → Domain → Iic → Stepped
keep_stretched_of gate now system s = cond (gate && s.flags.synchronized_hold) (turn_clock_of false now system s) (fine s)

-- clock, monitor, filter, setup (385 to 409); the last two by the set, since they may be on any tap
unfoldable pub turn_waits_of : Bool → Time → Clocks → Iic → Stepped
turn_waits_of gate now k s =
    and_then (and_then (and_then (and_then (turn_clock_of gate now k.system s) (turn_monitor_of gate now k.system))
    (keep_stretched_of gate now k.system)) (turn_filter_of gate now k)) (turn_setup_of gate now k)

-- a gate that goes on also starts what is due (410)
abbrev pub gate_turned : Bool → Time → Clocks → Iic → Stepped
gate_turned gate now k s =
    cond gate (and_then (and_then (turn_waits_of gate now k s) (schedule_filter_of now k.system)) (kick_of now k.system))
    (turn_waits_of gate now k s)

-- document 01, idle calls: an equal gate changes nothing (381)
unfoldable pub turn_gate_of : Bool → Time → Clocks → Iic → Stepped
turn_gate_of gate now k s = cond (beq s.flags.gate gate) (fine s) (gate_turned gate now k (set_gate gate s))

unfoldable pub set_gate_of : Iic → Bool → Time → Clocks → Stepped
set_gate_of s gate now k = guarded (guard_by (has_zero k) s) s (turn_gate_of gate now k s)

-- ## Time: `deadline`, `advance` (445, 463)

-- when the waits end that may be on any tap
abbrev pub ends_of : Iic → Clocks → Ends
ends_of s k = record { filter = wait_end s.filter_wait k; setup = wait_end s.setup_wait k }

-- the earliest of filter, clock, monitor and setup, refused at the first that is refused
unfoldable pub earliest_of : Ends → Iic → Domain → Result (Option Time) Refusal
earliest_of ends s system =
    sooner ends.filter (sooner (half_end s.clock_wait system) (sooner (half_end s.monitor_wait system) ends.setup))

-- none while the gate is off or the peripheral disabled (446)
abbrev pub deadline_by : Bool → Ends → Iic → Domain → Result (Option Time) Refusal
deadline_by zero ends s system = cond zero (Err ZeroFrequency) (cond (awake s) (earliest_of ends s system) (Ok None))

unfoldable pub deadline_of : Iic → Clocks → Result (Option Time) Refusal
deadline_of s k = deadline_by (has_zero k) (ends_of s k) s k.system

-- document 01: filter, setup, monitor, clock, each looked at after the one before has acted
unfoldable pub visit_of : Time → Clocks → Iic → Stepped
visit_of now k s =
    cond (awake s)
    (and_then (and_then (and_then (and_then (fire_filter_of (wait_end s.filter_wait k) now k.system s)
    (λ u. fire_setup_of (wait_end u.setup_wait k) now u)) (fire_monitor_of now k.system)) (fire_clock_of now k.system)) (kick_of now k.system))
    (fine s)

unfoldable pub advance_of : Iic → Time → Clocks → Stepped
advance_of s now k = guarded (guard_by (has_zero k) s) s (visit_of now k s)

-- ## Interrupts: `interrupt_with_enable`, and `interrupt`, which is it with 0 (190, 187)

abbrev pub interrupt_with_enable_of : Iic → ℕ → Bool
interrupt_with_enable_of s retained = interrupt_with s retained

-- ## `validate`: 14, 9, 10, 11, 12, or none (894; document 02, (f))

-- 11, 12
unfoldable pub waits_refusal : Iic → Result ⊤ Refusal
waits_refusal s = first_of (tap_refusal s.filter_wait) (first_of (tap_refusal s.setup_wait) (halves_refusal s))

unfoldable pub validate_of : Iic → Time → Result ⊤ Refusal
validate_of s now =
    of_state (rates_hold s.rates) (ranges_hold s && fell_by s.eighth_fall now) (progress_holds s) (waits_refusal s)
