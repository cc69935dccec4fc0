-- Definitions: `kick`, which starts what is due (a condition, a frame, a clock), and `release_hold`. Numbers in brackets are lines of iic.rs.
use Rattle.domain.specs.declared.Domain.{Domain}
use Rattle.frames.specs.Parts.{is_done, starved}
use Rattle.frames.specs.declared.Frame.{Frame}
use Rattle.iic.specs.Answers.{Stepped, and_then, fine}
use Rattle.iic.specs.Waiting.{start_clock_of, start_setup_of}
use Rattle.iic.specs.declared.Iic.{Iic}
use Rattle.iic.specs.Conditions.{begun_of}
use Rattle.iic.specs.Ready.{clock_due, command_ready, level_at, low_half_of, next_frame_of, ready, show_of}
use Rattle.iic.specs.Setters.{set_hold}
use Rattle.iic.specs.Shift.{load_transmit_of, set_hold_of}
use Rattle.iic.specs.State.{master}
use Rattle.iic.specs.declared.Hold.TheVariants.{NoHold, Transmit}
use Rattle.time.specs.declared.Time.{Time}
use Rattle.std.specs.Prelude.{cond, not, Bool, None, Option, Some}

-- ## A command (797)

abbrev pub command_in : Option Bool → Time → Domain → Iic → Stepped
command_in None now system s = fine s
command_in (Some start) now system s = start_clock_of now system (begun_of start s)

unfoldable pub begin_condition_of : Time → Domain → Iic → Stepped
begin_condition_of now system s = command_in s.command now system s

-- ## A clock

-- a frame that is through starts none; one that waits for its byte holds SCL; else SCL goes low for half a clock (833)
unfoldable pub launch_of : Frame → Time → Domain → Iic → Stepped
launch_of f now system s =
    cond (is_done f.phase) (fine s)
    (cond (starved f) (fine (set_hold_of Transmit s))
    (start_clock_of now system (low_half_of (level_at f.phase f s) s)))

abbrev pub launch_in : Option Frame → Time → Domain → Iic → Stepped
launch_in None now system s = fine s
launch_in (Some f) now system s = launch_of f now system s

-- where one is due (826)
unfoldable pub clock_frame_of : Time → Domain → Iic → Stepped
clock_frame_of now system s = cond (clock_due s) (launch_in s.frame now system s) (fine s)

-- ## `kick`: a command comes before a frame, and a frame before its clock (789)

unfoldable pub kick_of : Time → Domain → Iic → Stepped
kick_of now system s =
    cond (not (ready s)) (fine s)
    (cond (command_ready s) (begin_condition_of now system s)
    (clock_frame_of now system (load_transmit_of (next_frame_of s))))

-- ## `release_hold`: a master waits half a clock, a slave its setup wait; then SDA as the frame has it (772)

unfoldable pub wait_after_hold_of : Time → Domain → Iic → Stepped
wait_after_hold_of now system s = cond (master s) (start_clock_of now system s) (start_setup_of now system s)

unfoldable pub release_hold_of : Time → Domain → Iic → Stepped
release_hold_of now system s = and_then (wait_after_hold_of now system (set_hold NoHold s)) (λ u. fine (show_of u))
