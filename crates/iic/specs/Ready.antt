-- Definitions: what is due next: a condition, a frame, a clock, and the level that it shows (`kick`, `release_hold`; numbers in brackets are
-- lines of iic.rs).
use Rattle.bus.specs.Bits.{has}
use Rattle.bus.specs.Bus.{levels}
use Rattle.frames.specs.Parts.{data_level}
use Rattle.frames.specs.declared.Frame.{Frame}
use Rattle.frames.specs.declared.Phase.{Phase}
use Rattle.frames.specs.declared.Phase.TheVariants.{Ack, Data, Done}
use Rattle.registers.specs.Bits.{ACKBT, NACKF}
use Rattle.iic.specs.Setters.{set_drive}
use Rattle.iic.specs.Shift.{begin_frame_of}
use Rattle.iic.specs.State.{awake, commanded, conditioned, drive_sda, framed, held, master, synchronous, transmits}
use Rattle.iic.specs.declared.Iic.{Iic}
use Rattle.waits.specs.Ends.{is_half}
use Rattle.std.specs.Prelude.{Bool, ◌&&◌, ◌||◌, cond, false, not, None, Option, Some}

-- nothing is started while the peripheral is disabled, its gate is off, in reset, or while a condition is under way (790)
abbrev pub ready : Iic → Bool
ready s = awake s && not s.flags.reset && not (conditioned s)

-- ## `kick`: a command

-- a start or stop waits until no frame is in progress or SCL is low (796)
abbrev pub command_ready : Iic → Bool
command_ready s = commanded s && (not (framed s) || not s.lines.filtered.scl)

-- ## `kick`: a frame

-- a master, a selected slave or synchronous mode has something to send, and ICSR's NACKF is 0 (812)
abbrev pub can_transmit : Iic → Bool
can_transmit s = transmits s && (master s || s.flags.selected || synchronous s) && not (has s.registers.status NACKF)

-- a master that is to receive, a selected slave or synchronous mode (815)
abbrev pub can_receive : Iic → Bool
can_receive s =
    not (transmits s)
    && (master s && s.flags.receive_enabled || not (master s) && (s.flags.selected || synchronous s))

-- none is under way, and the bus is busy or the mode synchronous (811)
abbrev pub frame_due : Iic → Bool
frame_due s = not (framed s) && (s.flags.busy || synchronous s) && (can_transmit s || can_receive s)

-- a frame begins where one is due (822)
unfoldable pub next_frame_of : Iic → Iic
next_frame_of s = cond (frame_due s) (begin_frame_of false s) s

-- ## `kick`: a clock

-- a master's, where none runs and SCL isn't held (826)
abbrev pub clock_due : Iic → Bool
clock_due s = master s && not (is_half s.clock_wait) && not (held s) && not s.flags.synchronized_hold

-- SDA in the low half: the bit to send, or the acknowledge, by ICIER's ACKBT (844)
abbrev pub level_at : Phase → Frame → Iic → Bool
level_at Data f s = data_level f
level_at Ack f s = f.transmit || has s.registers.enable ACKBT
level_at Done f s = f.transmit || has s.registers.enable ACKBT

-- SCL goes low; SDA changes only while filtered SCL is low (840)
unfoldable pub low_half_of : Bool → Iic → Iic
low_half_of level s = set_drive (levels false (cond s.lines.filtered.scl s.lines.drive.sda level)) s

-- ## `release_hold`: SDA as the frame has it (780)

-- the acknowledge, by ICIER's ACKBT, or the bit to send (781)
abbrev pub released_level : Phase → Frame → Iic → Bool
released_level Data f s = data_level f
released_level Ack f s = has s.registers.enable ACKBT
released_level Done f s = data_level f

abbrev pub show_in : Option Frame → Iic → Iic
show_in None s = s
show_in (Some f) s = drive_sda (released_level f.phase f s) s

unfoldable pub show_of : Iic → Iic
show_of s = show_in s.frame s
