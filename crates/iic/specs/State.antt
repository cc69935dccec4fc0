-- Definitions: the default, the tests on a state and its parts, and the small changes that many steps share. Numbers in brackets are lines of
-- iic.rs.
use Rattle.std.specs.Prelude.{ℕ, Bool, ◌&&◌, cond, false, true, None, Option, Some}
use Rattle.bus.specs.Bits.{has, without}
use Rattle.bus.specs.Bus.{levels}
use Rattle.registers.specs.Bits.{FS, ICE, MST, TRS}
use Rattle.iic.specs.Setters.{set_clock_wait, set_command, set_condition, set_control, set_drive, set_frame, set_hold, set_monitor_wait, set_receive_enabled, set_receive_stopped, set_seen, set_setup_wait, set_status, set_synchronized_hold}
use Rattle.iic.specs.declared.Condition.{Condition}
use Rattle.iic.specs.declared.Condition.TheVariants.{NoCondition, StartHigh, StartHold, StartRelease, StopDetect, StopHigh, StopLow, StopRelease}
use Rattle.iic.specs.declared.Iic.{Iic}
use Rattle.iic.specs.declared.Flags.{Flags}
use Rattle.iic.specs.Answers.{Stepped, fine, refused}
use Rattle.refusals.specs.declared.Refusal.TheVariants.{Rates as WrongRates}
use Rattle.registers.specs.Registers.{default_registers}
use Rattle.iic.specs.declared.Hold.{Hold}
use Rattle.iic.specs.declared.Hold.TheVariants.{NoHold, Receive, Transmit}
use Rattle.rates.specs.declared.Rates.{Rates}
use Rattle.rates.specs.Rates.{default_rates, rates_hold}
use Rattle.std.specs.Int.Bits.{bit_or}
use Rattle.frames.specs.declared.Frame.{Frame}

-- ## `Default` (131), and document 02 (f): with a rate set

abbrev pub default_flags : Flags
default_flags = record {
  busy = false;
  reset = false;
  gate = false;
  synchronized_hold = false;
  selected = false;
  completed = false;
  receive_enabled = false;
  receive_stopped = false;
  stale_release = false;
}

unfoldable pub initial : Rates → Iic
initial rates = record {
  registers = default_registers;
  lines = record { drive = levels true true; raw = levels true true; latch = levels true true; filtered = levels true true };
  flags = default_flags;
  frame = None;
  condition = NoCondition;
  command = None;
  hold = NoHold;
  eighth_fall = None;
  clock_wait = None;
  monitor_wait = None;
  filter_wait = None;
  setup_wait = None;
  rates = rates;
}

-- over the numbers of document 01
abbrev pub default_iic : Iic
default_iic = initial default_rates

-- a set that is refused is in the state all the same, over which the calls are refused too
abbrev pub with_rates_of : Rates → Stepped
with_rates_of rates = cond (rates_hold rates) (fine (initial rates)) (refused WrongRates (initial rates))

-- ## Tests on the registers: `enabled`, `master`, `transmit`, `synchronous` (168 to 179)

abbrev pub enabled : Iic → Bool
enabled s = has s.registers.control ICE

abbrev pub master : Iic → Bool
master s = has s.registers.control MST

abbrev pub transmits : Iic → Bool
transmits s = has s.registers.control TRS

-- document 01: synchronous mode is SAR bit 0
abbrev pub synchronous : Iic → Bool
synchronous s = has s.registers.address FS

-- enabled, and the gate is on (428, 446, 464)
abbrev pub awake : Iic → Bool
awake s = s.flags.gate && enabled s

-- ## Tests on what is absent or present

abbrev pub is_frame : Option Frame → Bool
is_frame None = false
is_frame (Some f) = true

abbrev pub framed : Iic → Bool
framed s = is_frame s.frame

abbrev pub is_condition : Condition → Bool
is_condition NoCondition = false
is_condition StartRelease = true
is_condition StartHigh = true
is_condition StartHold = true
is_condition StopLow = true
is_condition StopHigh = true
is_condition StopRelease = true
is_condition StopDetect = true

abbrev pub conditioned : Iic → Bool
conditioned s = is_condition s.condition

abbrev pub is_command : Option Bool → Bool
is_command None = false
is_command (Some start) = true

abbrev pub commanded : Iic → Bool
commanded s = is_command s.command

abbrev pub is_hold : Hold → Bool
is_hold NoHold = false
is_hold Transmit = true
is_hold Receive = true

abbrev pub held : Iic → Bool
held s = is_hold s.hold

-- SCL is held until there is a byte to send (357)
abbrev pub is_transmit_hold : Hold → Bool
is_transmit_hold NoHold = false
is_transmit_hold Transmit = true
is_transmit_hold Receive = false

-- ## Small changes

-- the flags of the mask m are raised
abbrev pub raise : ℕ → Iic → Iic
raise m s = set_status (bit_or s.registers.status m) s

-- the flags of the mask m are cleared in ICSR and in `seen` (231, 355)
abbrev pub clear_flags : ℕ → Iic → Iic
clear_flags m s = set_status (without s.registers.status m) (set_seen (without s.registers.seen m) s)

-- the bits of the mask m of ICCR1 are cleared
abbrev pub clear_control : ℕ → Iic → Iic
clear_control m s = set_control (without s.registers.control m) s

-- what is driven on one line; true releases it
abbrev pub drive_scl : Bool → Iic → Iic
drive_scl b s = set_drive (levels b s.lines.drive.sda) s

abbrev pub drive_sda : Bool → Iic → Iic
drive_sda b s = set_drive (levels s.lines.drive.scl b) s

-- neither of the two half waits
abbrev pub unclocked : Iic → Iic
unclocked s = set_clock_wait None (set_monitor_wait None s)

-- `stop_shifter`: all that is under way stops, and both lines are released (367)
unfoldable pub stop_shifter_of : Iic → Iic
stop_shifter_of s =
    set_drive (levels true true) (set_frame None (unclocked (set_setup_wait None (set_condition NoCondition
    (set_command None (set_hold NoHold (set_synchronized_hold false (set_receive_enabled false (set_receive_stopped false s)))))))))
