-- Definitions: the state with one part set anew, one setter for each field that it has of the Rust's (iic.rs 96) and for each group of them. None
-- sets the rate set.
use Rattle.std.specs.Prelude.{ℕ, Bool, Option}
use Rattle.bus.specs.declared.Levels.{Levels}
use Rattle.iic.specs.declared.Iic.{Iic}
use Rattle.registers.specs.declared.Registers.{Registers}
use Rattle.iic.specs.declared.Lines.{Lines}
use Rattle.iic.specs.declared.Flags.{Flags}
use Rattle.iic.specs.declared.Condition.{Condition}
use Rattle.iic.specs.declared.Hold.{Hold}
use Rattle.clocks.specs.declared.wait.ClockWait.{ClockWait}
use Rattle.frames.specs.declared.Frame.{Frame}
use Rattle.time.specs.declared.Time.{Time}
use Rattle.waits.specs.declared.HalfWait.{HalfWait}

abbrev pub set_registers : Registers → Iic → Iic
set_registers x s = record { registers = x; lines = s.lines; flags = s.flags; frame = s.frame; condition = s.condition; command = s.command; hold = s.hold; eighth_fall = s.eighth_fall; clock_wait = s.clock_wait; monitor_wait = s.monitor_wait; filter_wait = s.filter_wait; setup_wait = s.setup_wait; rates = s.rates }

abbrev pub set_lines : Lines → Iic → Iic
set_lines x s = record { registers = s.registers; lines = x; flags = s.flags; frame = s.frame; condition = s.condition; command = s.command; hold = s.hold; eighth_fall = s.eighth_fall; clock_wait = s.clock_wait; monitor_wait = s.monitor_wait; filter_wait = s.filter_wait; setup_wait = s.setup_wait; rates = s.rates }

abbrev pub set_flags : Flags → Iic → Iic
set_flags x s = record { registers = s.registers; lines = s.lines; flags = x; frame = s.frame; condition = s.condition; command = s.command; hold = s.hold; eighth_fall = s.eighth_fall; clock_wait = s.clock_wait; monitor_wait = s.monitor_wait; filter_wait = s.filter_wait; setup_wait = s.setup_wait; rates = s.rates }

abbrev pub set_frame : Option Frame → Iic → Iic
set_frame x s = record { registers = s.registers; lines = s.lines; flags = s.flags; frame = x; condition = s.condition; command = s.command; hold = s.hold; eighth_fall = s.eighth_fall; clock_wait = s.clock_wait; monitor_wait = s.monitor_wait; filter_wait = s.filter_wait; setup_wait = s.setup_wait; rates = s.rates }

abbrev pub set_condition : Condition → Iic → Iic
set_condition x s = record { registers = s.registers; lines = s.lines; flags = s.flags; frame = s.frame; condition = x; command = s.command; hold = s.hold; eighth_fall = s.eighth_fall; clock_wait = s.clock_wait; monitor_wait = s.monitor_wait; filter_wait = s.filter_wait; setup_wait = s.setup_wait; rates = s.rates }

abbrev pub set_command : Option Bool → Iic → Iic
set_command x s = record { registers = s.registers; lines = s.lines; flags = s.flags; frame = s.frame; condition = s.condition; command = x; hold = s.hold; eighth_fall = s.eighth_fall; clock_wait = s.clock_wait; monitor_wait = s.monitor_wait; filter_wait = s.filter_wait; setup_wait = s.setup_wait; rates = s.rates }

abbrev pub set_hold : Hold → Iic → Iic
set_hold x s = record { registers = s.registers; lines = s.lines; flags = s.flags; frame = s.frame; condition = s.condition; command = s.command; hold = x; eighth_fall = s.eighth_fall; clock_wait = s.clock_wait; monitor_wait = s.monitor_wait; filter_wait = s.filter_wait; setup_wait = s.setup_wait; rates = s.rates }

abbrev pub set_eighth_fall : Option Time → Iic → Iic
set_eighth_fall x s = record { registers = s.registers; lines = s.lines; flags = s.flags; frame = s.frame; condition = s.condition; command = s.command; hold = s.hold; eighth_fall = x; clock_wait = s.clock_wait; monitor_wait = s.monitor_wait; filter_wait = s.filter_wait; setup_wait = s.setup_wait; rates = s.rates }

abbrev pub set_clock_wait : Option HalfWait → Iic → Iic
set_clock_wait x s = record { registers = s.registers; lines = s.lines; flags = s.flags; frame = s.frame; condition = s.condition; command = s.command; hold = s.hold; eighth_fall = s.eighth_fall; clock_wait = x; monitor_wait = s.monitor_wait; filter_wait = s.filter_wait; setup_wait = s.setup_wait; rates = s.rates }

abbrev pub set_monitor_wait : Option HalfWait → Iic → Iic
set_monitor_wait x s = record { registers = s.registers; lines = s.lines; flags = s.flags; frame = s.frame; condition = s.condition; command = s.command; hold = s.hold; eighth_fall = s.eighth_fall; clock_wait = s.clock_wait; monitor_wait = x; filter_wait = s.filter_wait; setup_wait = s.setup_wait; rates = s.rates }

abbrev pub set_filter_wait : Option ClockWait → Iic → Iic
set_filter_wait x s = record { registers = s.registers; lines = s.lines; flags = s.flags; frame = s.frame; condition = s.condition; command = s.command; hold = s.hold; eighth_fall = s.eighth_fall; clock_wait = s.clock_wait; monitor_wait = s.monitor_wait; filter_wait = x; setup_wait = s.setup_wait; rates = s.rates }

abbrev pub set_setup_wait : Option ClockWait → Iic → Iic
set_setup_wait x s = record { registers = s.registers; lines = s.lines; flags = s.flags; frame = s.frame; condition = s.condition; command = s.command; hold = s.hold; eighth_fall = s.eighth_fall; clock_wait = s.clock_wait; monitor_wait = s.monitor_wait; filter_wait = s.filter_wait; setup_wait = x; rates = s.rates }

-- the parts of `registers`

abbrev pub set_control : ℕ → Iic → Iic
set_control x s = set_registers (record { control = x; mode = s.registers.mode; count = s.registers.count; enable = s.registers.enable; status = s.registers.status; seen = s.registers.seen; address = s.registers.address; tdr = s.registers.tdr; rdr = s.registers.rdr }) s

abbrev pub set_mode : ℕ → Iic → Iic
set_mode x s = set_registers (record { control = s.registers.control; mode = x; count = s.registers.count; enable = s.registers.enable; status = s.registers.status; seen = s.registers.seen; address = s.registers.address; tdr = s.registers.tdr; rdr = s.registers.rdr }) s

abbrev pub set_count : ℕ → Iic → Iic
set_count x s = set_registers (record { control = s.registers.control; mode = s.registers.mode; count = x; enable = s.registers.enable; status = s.registers.status; seen = s.registers.seen; address = s.registers.address; tdr = s.registers.tdr; rdr = s.registers.rdr }) s

abbrev pub set_enable : ℕ → Iic → Iic
set_enable x s = set_registers (record { control = s.registers.control; mode = s.registers.mode; count = s.registers.count; enable = x; status = s.registers.status; seen = s.registers.seen; address = s.registers.address; tdr = s.registers.tdr; rdr = s.registers.rdr }) s

abbrev pub set_status : ℕ → Iic → Iic
set_status x s = set_registers (record { control = s.registers.control; mode = s.registers.mode; count = s.registers.count; enable = s.registers.enable; status = x; seen = s.registers.seen; address = s.registers.address; tdr = s.registers.tdr; rdr = s.registers.rdr }) s

abbrev pub set_seen : ℕ → Iic → Iic
set_seen x s = set_registers (record { control = s.registers.control; mode = s.registers.mode; count = s.registers.count; enable = s.registers.enable; status = s.registers.status; seen = x; address = s.registers.address; tdr = s.registers.tdr; rdr = s.registers.rdr }) s

abbrev pub set_address : ℕ → Iic → Iic
set_address x s = set_registers (record { control = s.registers.control; mode = s.registers.mode; count = s.registers.count; enable = s.registers.enable; status = s.registers.status; seen = s.registers.seen; address = x; tdr = s.registers.tdr; rdr = s.registers.rdr }) s

abbrev pub set_tdr : ℕ → Iic → Iic
set_tdr x s = set_registers (record { control = s.registers.control; mode = s.registers.mode; count = s.registers.count; enable = s.registers.enable; status = s.registers.status; seen = s.registers.seen; address = s.registers.address; tdr = x; rdr = s.registers.rdr }) s

abbrev pub set_rdr : ℕ → Iic → Iic
set_rdr x s = set_registers (record { control = s.registers.control; mode = s.registers.mode; count = s.registers.count; enable = s.registers.enable; status = s.registers.status; seen = s.registers.seen; address = s.registers.address; tdr = s.registers.tdr; rdr = x }) s

-- the parts of `lines`

abbrev pub set_drive : Levels → Iic → Iic
set_drive x s = set_lines (record { drive = x; raw = s.lines.raw; latch = s.lines.latch; filtered = s.lines.filtered }) s

abbrev pub set_raw : Levels → Iic → Iic
set_raw x s = set_lines (record { drive = s.lines.drive; raw = x; latch = s.lines.latch; filtered = s.lines.filtered }) s

abbrev pub set_latch : Levels → Iic → Iic
set_latch x s = set_lines (record { drive = s.lines.drive; raw = s.lines.raw; latch = x; filtered = s.lines.filtered }) s

abbrev pub set_filtered : Levels → Iic → Iic
set_filtered x s = set_lines (record { drive = s.lines.drive; raw = s.lines.raw; latch = s.lines.latch; filtered = x }) s

-- the parts of `flags`

abbrev pub set_busy : Bool → Iic → Iic
set_busy x s = set_flags (record { busy = x; reset = s.flags.reset; gate = s.flags.gate; synchronized_hold = s.flags.synchronized_hold; selected = s.flags.selected; completed = s.flags.completed; receive_enabled = s.flags.receive_enabled; receive_stopped = s.flags.receive_stopped; stale_release = s.flags.stale_release }) s

abbrev pub set_reset : Bool → Iic → Iic
set_reset x s = set_flags (record { busy = s.flags.busy; reset = x; gate = s.flags.gate; synchronized_hold = s.flags.synchronized_hold; selected = s.flags.selected; completed = s.flags.completed; receive_enabled = s.flags.receive_enabled; receive_stopped = s.flags.receive_stopped; stale_release = s.flags.stale_release }) s

abbrev pub set_gate : Bool → Iic → Iic
set_gate x s = set_flags (record { busy = s.flags.busy; reset = s.flags.reset; gate = x; synchronized_hold = s.flags.synchronized_hold; selected = s.flags.selected; completed = s.flags.completed; receive_enabled = s.flags.receive_enabled; receive_stopped = s.flags.receive_stopped; stale_release = s.flags.stale_release }) s

abbrev pub set_synchronized_hold : Bool → Iic → Iic
set_synchronized_hold x s = set_flags (record { busy = s.flags.busy; reset = s.flags.reset; gate = s.flags.gate; synchronized_hold = x; selected = s.flags.selected; completed = s.flags.completed; receive_enabled = s.flags.receive_enabled; receive_stopped = s.flags.receive_stopped; stale_release = s.flags.stale_release }) s

abbrev pub set_selected : Bool → Iic → Iic
set_selected x s = set_flags (record { busy = s.flags.busy; reset = s.flags.reset; gate = s.flags.gate; synchronized_hold = s.flags.synchronized_hold; selected = x; completed = s.flags.completed; receive_enabled = s.flags.receive_enabled; receive_stopped = s.flags.receive_stopped; stale_release = s.flags.stale_release }) s

abbrev pub set_completed : Bool → Iic → Iic
set_completed x s = set_flags (record { busy = s.flags.busy; reset = s.flags.reset; gate = s.flags.gate; synchronized_hold = s.flags.synchronized_hold; selected = s.flags.selected; completed = x; receive_enabled = s.flags.receive_enabled; receive_stopped = s.flags.receive_stopped; stale_release = s.flags.stale_release }) s

abbrev pub set_receive_enabled : Bool → Iic → Iic
set_receive_enabled x s = set_flags (record { busy = s.flags.busy; reset = s.flags.reset; gate = s.flags.gate; synchronized_hold = s.flags.synchronized_hold; selected = s.flags.selected; completed = s.flags.completed; receive_enabled = x; receive_stopped = s.flags.receive_stopped; stale_release = s.flags.stale_release }) s

abbrev pub set_receive_stopped : Bool → Iic → Iic
set_receive_stopped x s = set_flags (record { busy = s.flags.busy; reset = s.flags.reset; gate = s.flags.gate; synchronized_hold = s.flags.synchronized_hold; selected = s.flags.selected; completed = s.flags.completed; receive_enabled = s.flags.receive_enabled; receive_stopped = x; stale_release = s.flags.stale_release }) s

abbrev pub set_stale_release : Bool → Iic → Iic
set_stale_release x s = set_flags (record { busy = s.flags.busy; reset = s.flags.reset; gate = s.flags.gate; synchronized_hold = s.flags.synchronized_hold; selected = s.flags.selected; completed = s.flags.completed; receive_enabled = s.flags.receive_enabled; receive_stopped = s.flags.receive_stopped; stale_release = x }) s
