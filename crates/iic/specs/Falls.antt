-- Definitions: what a falling clock brings (`falling`; numbers in brackets are lines of iic.rs).
use Rattle.bus.specs.Bits.{has}
use Rattle.frames.specs.Parts.{data_level, directed, is_data, is_done, starved}
use Rattle.frames.specs.declared.Frame.{Frame}
use Rattle.registers.specs.Bits.{ACKBT, RDRF, WAIT}
use Rattle.iic.specs.Setters.{set_eighth_fall, set_frame, set_receive_enabled, set_receive_stopped, set_stale_release}
use Rattle.iic.specs.Shift.{set_hold_of}
use Rattle.iic.specs.State.{drive_scl, drive_sda, held, master, synchronous, transmits, unclocked}
use Rattle.iic.specs.declared.Iic.{Iic}
use Rattle.iic.specs.declared.Hold.TheVariants.{Receive, Transmit}
use Rattle.time.specs.declared.Time.{Time}
use Rattle.std.specs.Prelude.{Bool, ◌&&◌, ◌||◌, cond, false, not, true, None, Option, Some}

-- a frame that is through ends, and SDA is released (701)
abbrev pub end_frame : Frame → Iic → Iic
end_frame f s =
    set_frame None (drive_sda true
    (set_receive_enabled (s.flags.receive_enabled && not f.last) (set_receive_stopped (s.flags.receive_stopped || f.last) s)))

abbrev pub end_in : Option Frame → Iic → Iic
end_in None s = s
end_in (Some f) s = cond (is_done f.phase) (end_frame f s) s

unfoldable pub end_frame_of : Iic → Iic
end_frame_of s = end_in s.frame s

-- the direction follows ICCR1 from the next bit on (712)
abbrev pub follow_in : Option Frame → Iic → Iic
follow_in None s = s
follow_in (Some f) s =
    cond (is_data f.phase) (set_frame (Some (directed (transmits s) (master s) f)) s) s

unfoldable pub follow_of : Iic → Iic
follow_of s = follow_in s.frame s

-- no byte to send: SCL is held, or in synchronous mode a master's clock stops (731)
unfoldable pub hold_transmit_of : Iic → Iic
hold_transmit_of s = cond (synchronous s && master s) (unclocked s) (set_hold_of Transmit s)

-- SDA shows the next bit (729)
abbrev pub fall_data_in : Option Frame → Iic → Iic
fall_data_in None s = s
fall_data_in (Some f) s = cond (starved f) (hold_transmit_of s) (drive_sda (data_level f) s)

unfoldable pub fall_data_of : Iic → Iic
fall_data_of s = fall_data_in s.frame s

-- a receiver that is selected or master holds SCL while ICSR's RDRF is set, unless ICDRR was read at the very time of the
-- eighth fall before (742)
unfoldable pub hold_receive_of : Frame → Iic → Iic
hold_receive_of f s =
    cond (not f.transmit && (s.flags.selected || master s) && has s.registers.status RDRF && not s.flags.stale_release)
    (set_hold_of Receive s) s

-- a receiver that is selected or master shows ICIER's ACKBT, any other releases SDA (749)
unfoldable pub acknowledge_of : Frame → Iic → Iic
acknowledge_of f s =
    drive_sda (f.transmit || not s.flags.selected && not (master s) || has s.registers.enable ACKBT) (set_stale_release false s)

-- the eighth fall (740)
unfoldable pub fall_taken_of : Frame → Time → Iic → Iic
fall_taken_of f now s = acknowledge_of f (hold_receive_of f (set_eighth_fall (Some now) s))

-- ICMR's WAIT lengthens a master's wait (752)
abbrev pub inserts_wait : Iic → Bool
inserts_wait s = master s && has s.registers.mode WAIT && not (held s)

-- a master without a frame keeps SCL low (718)
unfoldable pub fall_idle_of : Iic → Iic
fall_idle_of s = cond (master s) (unclocked (drive_scl false s)) s
