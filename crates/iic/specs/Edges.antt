-- Definitions: what filtered levels bring: the falling clock, a condition under way, and `filtered_edges`. Numbers in brackets are lines of
-- iic.rs.
use Rattle.std.specs.Prelude.{◌*◌, Bool, ◌&&◌, ◌||◌, cond, false, not, true, None, Option, Some}
use Rattle.bus.specs.Bus.{same_levels}
use Rattle.bus.specs.declared.Levels.{Levels}
use Rattle.domain.specs.declared.Domain.{Domain}
use Rattle.frames.specs.declared.Frame.{Frame}
use Rattle.frames.specs.declared.Phase.TheVariants.{Ack, Data, Done}
use Rattle.frames.specs.declared.Phase.{Phase}
use Rattle.iic.specs.Answers.{Stepped, and_then, fine}
use Rattle.iic.specs.Kick.{kick_of}
use Rattle.iic.specs.Waiting.{at_wait, clock_from, start_clock_of, turn_clock_of}
use Rattle.iic.specs.declared.Iic.{Iic}
use Rattle.iic.specs.Conditions.{bus_edge_of, condition_high, raised_of}
use Rattle.iic.specs.Falls.{end_frame_of, fall_data_of, fall_idle_of, fall_taken_of, follow_of, inserts_wait}
use Rattle.iic.specs.Setters.{set_synchronized_hold}
use Rattle.iic.specs.Shift.{load_transmit_of, rising_of}
use Rattle.iic.specs.State.{commanded, conditioned}
use Rattle.time.specs.declared.Time.{Time}
use Rattle.waits.specs.Half.{half_longer}
use Rattle.rates.specs.Rates.{period_of}
use Rattle.waits.specs.declared.HalfWait.{HalfWait}

-- ## `falling` (694)

-- ICMR's WAIT lengthens a master's wait by two clocks, paused or not (753)
abbrev pub longer : Option HalfWait → Iic → Stepped
longer w s = at_wait w (λ v. clock_from (half_longer v (4 * period_of s.rates s.registers.control))) s

-- where ICMR's WAIT asks for it (752)
unfoldable pub insert_wait_of : Iic → Stepped
insert_wait_of s = cond (inserts_wait s) (longer s.clock_wait s) (fine s)

-- the eighth fall, then ICMR's WAIT (740)
unfoldable pub fall_ack_of : Frame → Time → Iic → Stepped
fall_ack_of f now s = insert_wait_of (fall_taken_of f now s)

-- by the phase (726)
abbrev pub fall_at : Phase → Frame → Time → Iic → Stepped
fall_at Data f now s = fine (fall_data_of (load_transmit_of s))
fall_at Ack f now s = fall_ack_of f now s
fall_at Done f now s = fine s

abbrev pub fall_in : Option Frame → Time → Iic → Stepped
fall_in None now s = fine (fall_idle_of s)
fall_in (Some f) now s = fall_at f.phase f now s

unfoldable pub fall_of : Time → Iic → Stepped
fall_of now s = fall_in s.frame now s

-- what follows the kick (710)
abbrev pub fall_on : Time → Iic → Stepped
fall_on now s = fall_of now (follow_of s)

-- a condition under way is left alone, a command starts, a frame that is through ends (695 to 709)
unfoldable pub falling_of : Time → Domain → Iic → Stepped
falling_of now system s =
    cond (conditioned s) (fine s)
    (cond (commanded s) (kick_of now system s) (and_then (kick_of now system (end_frame_of s)) (fall_on now)))

-- ## `filtered_edges` (508)

-- SCL is high again: the wait that a stretched clock paused goes on (543)
unfoldable pub stretch_ends_of : Time → Domain → Iic → Stepped
stretch_ends_of now system s =
    cond (s.flags.synchronized_hold && s.lines.filtered.scl)
    (turn_clock_of true now system (set_synchronized_hold false s)) (fine s)

-- a condition under way goes on as the levels have risen (549)
unfoldable pub condition_step_of : Time → Domain → Iic → Stepped
condition_step_of now system s = cond (condition_high s) (start_clock_of now system (raised_of s)) (fine s)

-- the clock itself rises or falls (557)
unfoldable pub scl_edge_of : Bool → Time → Domain → Iic → Stepped
scl_edge_of was now system s =
    cond (not was && s.lines.filtered.scl) (fine (rising_of s.lines.filtered.sda s))
    (cond (was && not s.lines.filtered.scl) (falling_of now system s) (fine s))

-- nothing more in reset (540)
abbrev pub edges_from : Bool → Time → Domain → Iic → Stepped
edges_from was now system s =
    cond s.flags.reset (fine s)
    (and_then (and_then (stretch_ends_of now system s) (condition_step_of now system)) (scl_edge_of was now system))

unfoldable pub filtered_edges_of : Levels → Time → Domain → Iic → Stepped
filtered_edges_of old now system s = edges_from old.scl now system (bus_edge_of old s)

-- the filtered levels bring something: they have changed, a stretched clock ends, or a condition under way goes on
abbrev pub edged : Levels → Iic → Bool
edged old s =
    not (same_levels old s.lines.filtered) || s.flags.synchronized_hold && s.lines.filtered.scl || condition_high s
