-- Definitions: starts and stops: those of the bus, and those that the master makes. Numbers in brackets are lines of iic.rs.
use Rattle.bus.specs.Bits.{flag}
use Rattle.bus.specs.Bus.{is_start, is_stop, levels}
use Rattle.bus.specs.declared.Levels.{Levels}
use Rattle.registers.specs.Bits.{STOP}
use Rattle.iic.specs.Setters.{set_busy, set_command, set_completed, set_condition, set_drive, set_frame, set_hold, set_monitor_wait, set_receive_enabled, set_receive_stopped, set_selected, set_synchronized_hold}
use Rattle.iic.specs.Shift.{begin_frame_of, when_lost_of}
use Rattle.iic.specs.State.{drive_scl, drive_sda, master, raise, synchronous, unclocked}
use Rattle.iic.specs.declared.Condition.{Condition}
use Rattle.iic.specs.declared.Condition.TheVariants.{NoCondition, StartRelease, StartHigh, StartHold, StopLow, StopHigh, StopRelease, StopDetect}
use Rattle.iic.specs.declared.Iic.{Iic}
use Rattle.iic.specs.declared.Hold.TheVariants.{NoHold}
use Rattle.std.specs.Prelude.{Bool, ◌&&◌, ◌||◌, cond, false, true, None}

-- ## `filtered_edges`: a stop and a start of the bus

-- except in reset (524)
unfoldable pub release_sda_of : Iic → Iic
release_sda_of s = cond s.flags.reset s (drive_sda true s)

-- ICSR's STOP is raised for a selected slave, and for a master that completed a frame (516)
abbrev pub stop_noted : Iic → Iic
stop_noted s = raise (flag (s.flags.selected || master s && s.flags.completed) STOP) s

-- what was under way ends (512)
abbrev pub at_stop : Iic → Iic
at_stop s =
    set_busy false (set_condition NoCondition (set_frame None (set_selected false (set_receive_enabled false
    (set_receive_stopped false (set_hold NoHold (unclocked s)))))))

-- a stop (511)
unfoldable pub bus_stop_of : Iic → Iic
bus_stop_of s = release_sda_of (at_stop (stop_noted s))

-- the address frame, except in reset (535)
unfoldable pub begin_address_of : Iic → Iic
begin_address_of s = cond s.flags.reset s (begin_frame_of true s)

-- a master loses arbitration by a start that it did not make (528)
unfoldable pub bus_start_of : Iic → Iic
bus_start_of s =
    begin_address_of (set_busy true (set_selected false (set_completed false (set_receive_stopped false
    (when_lost_of (master s && s.lines.drive.sda) s)))))

-- document 01: outside synchronous mode (510)
unfoldable pub bus_edge_of : Levels → Iic → Iic
bus_edge_of old s =
    cond (synchronous s) s
    (cond (is_stop old s.lines.filtered) (bus_stop_of s) (cond (is_start old s.lines.filtered) (bus_start_of s) s))

-- ## `kick`: a command

-- the first stage of a start, or of a stop (803)
abbrev pub first_condition : Bool → Condition
first_condition start = cond start StartRelease StopLow

-- the command is taken, and SCL goes low; a clock wait stays until the next one is there (797)
unfoldable pub begun_of : Bool → Iic → Iic
begun_of start s =
    set_command None (set_frame None (set_hold NoHold (set_monitor_wait None (set_synchronized_hold false
    (set_drive (levels false start) (set_condition (first_condition start) s))))))

-- ## `clock_step`: a condition under way

-- SDA goes high: the stop that the peripheral itself will see (870)
abbrev pub stop_released : Iic → Iic
stop_released s = set_condition StopDetect (set_frame None (set_receive_enabled false (drive_sda true s)))

-- it goes a stage on as the clock's wait ends (855)
abbrev pub clocked_at : Condition → Iic → Iic
clocked_at NoCondition s = s
clocked_at StartRelease s = set_condition StartHigh (drive_scl true s)
clocked_at StartHigh s = s
clocked_at StartHold s = set_condition NoCondition (drive_scl false s)
clocked_at StopLow s = set_condition StopHigh (drive_scl true s)
clocked_at StopHigh s = s
clocked_at StopRelease s = stop_released s
clocked_at StopDetect s = s

unfoldable pub clocked_of : Iic → Iic
clocked_of s = clocked_at s.condition s

-- SCL is about to fall for a start (860)
abbrev pub is_start_hold : Condition → Bool
is_start_hold NoCondition = false
is_start_hold StartRelease = false
is_start_hold StartHigh = false
is_start_hold StartHold = true
is_start_hold StopLow = false
is_start_hold StopHigh = false
is_start_hold StopRelease = false
is_start_hold StopDetect = false

-- ## `filtered_edges`: a condition under way

-- the levels are high for which it has waited (549, 553)
abbrev pub high_at : Condition → Levels → Bool
high_at NoCondition l = false
high_at StartRelease l = false
high_at StartHigh l = l.scl && l.sda
high_at StartHold l = false
high_at StopLow l = false
high_at StopHigh l = l.scl
high_at StopRelease l = false
high_at StopDetect l = false

abbrev pub condition_high : Iic → Bool
condition_high s = high_at s.condition s.lines.filtered

-- what follows once they are: SDA falls for a start, or a stop waits to release it (550, 554)
abbrev pub raised_at : Condition → Iic → Iic
raised_at NoCondition s = s
raised_at StartRelease s = s
raised_at StartHigh s = set_condition StartHold (drive_sda false s)
raised_at StartHold s = s
raised_at StopLow s = s
raised_at StopHigh s = set_condition StopRelease s
raised_at StopRelease s = s
raised_at StopDetect s = s

unfoldable pub raised_of : Iic → Iic
raised_of s = raised_at s.condition s
