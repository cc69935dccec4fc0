-- Definitions: what each of the four waits brings when it fires: the filter, the setup, the monitor, the clock (`advance`, `clock_step`; numbers
-- in brackets are lines of iic.rs). The ends of the first two, which may be on any tap, are worked out by the call; the other two are on the system
-- clock.
use Rattle.domain.specs.declared.Domain.{Domain}
use Rattle.iic.specs.Answers.{Stepped, and_then, fine, refused}
use Rattle.iic.specs.Edges.{filtered_edges_of}
use Rattle.iic.specs.Setters.{set_filter_wait, set_setup_wait, set_clock_wait, set_monitor_wait, set_synchronized_hold}
use Rattle.iic.specs.Waiting.{schedule_filter_of, start_clock_of, start_monitor_of, turn_clock_of}
use Rattle.iic.specs.declared.Iic.{Iic}
use Rattle.iic.specs.Conditions.{clocked_of, is_start_hold}
use Rattle.iic.specs.Filter.{filter_pass_of}
use Rattle.iic.specs.State.{conditioned, drive_scl, held, master}
use Rattle.time.specs.declared.Time.{Time}
use Rattle.waits.specs.Ends.{due_of, half_end}
use Rattle.std.specs.Prelude.{◌&&◌, cond, false, not, true, Bool, Err, None, Ok, Option, Result}
use Rattle.refusals.specs.declared.Refusal.{Refusal}

-- ## `clock_step` (854)

-- a rising clock is looked at after the monitor's wait, a falling one is not (880)
unfoldable pub monitor_step_of : Time → Domain → Iic → Stepped
monitor_step_of now system s = cond s.lines.drive.scl (start_monitor_of now system s) (fine (set_monitor_wait None s))

-- a master's SCL changes its level, unless it is held (877)
unfoldable pub toggle_of : Time → Domain → Iic → Stepped
toggle_of now system s =
    cond (master s && not (held s))
    (and_then (start_clock_of now system (drive_scl (not s.lines.drive.scl) s)) (monitor_step_of now system))
    (fine s)

-- without a condition the clock goes on; with one it goes a stage on, and the start's hold is followed by half a clock (855, 864)
unfoldable pub clock_step_of : Time → Domain → Iic → Stepped
clock_step_of now system s =
    cond (not (conditioned s)) (toggle_of now system s)
    (cond (is_start_hold s.condition) (start_clock_of now system (clocked_of s)) (fine (clocked_of s)))

-- ## `advance`

-- document 01: what a wait brings where it is due; a refused time refuses the visit at that point
abbrev pub firing : Result Bool Refusal → Iic → Stepped → Stepped
firing (Ok true) s o = o
firing (Ok false) s o = fine s
firing (Err n) s o = refused n s

-- the filter's wait: the levels pass, with what they bring; then it starts anew where a level is still on its way (473)
unfoldable pub filter_fires_of : Time → Domain → Iic → Stepped
filter_fires_of now system s =
    and_then (filtered_edges_of s.lines.filtered now system (set_filter_wait None (filter_pass_of s))) (schedule_filter_of now system)

-- where its end is due (467)
unfoldable pub fire_filter_of : Result (Option Time) Refusal → Time → Domain → Iic → Stepped
fire_filter_of end now system s = firing (due_of end now) s (filter_fires_of now system s)

-- the setup's wait: a slave releases SCL (490)
unfoldable pub fire_setup_of : Result (Option Time) Refusal → Time → Iic → Stepped
fire_setup_of end now s = firing (due_of end now) s (fine (set_setup_wait None (drive_scl true s)))

-- SCL is still low though released: the clock's wait pauses (495)
unfoldable pub stretch_of : Time → Domain → Iic → Stepped
stretch_of now system s =
    cond s.lines.filtered.scl (fine s)
    (and_then (turn_clock_of false now system s) (λ u. fine (set_synchronized_hold true u)))

-- the monitor's wait (494)
unfoldable pub fire_monitor_of : Time → Domain → Iic → Stepped
fire_monitor_of now system s = firing (due_of (half_end s.monitor_wait system) now) s (stretch_of now system (set_monitor_wait None s))

-- the clock's wait (503)
unfoldable pub fire_clock_of : Time → Domain → Iic → Stepped
fire_clock_of now system s = firing (due_of (half_end s.clock_wait system) now) s (clock_step_of now system (set_clock_wait None s))
