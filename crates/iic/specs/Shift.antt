-- Definitions: the shifter, from a frame's beginning to its completion. Each section is a function of iic.rs, and numbers in brackets are lines
-- of it.
use Rattle.std.specs.Prelude.{◌+◌, ℕ, eqb, Bool, ◌&&◌, ◌||◌, cond, false, not, true, None, Option, Some}
use Rattle.bus.specs.Bits.{flag, has, without}
use Rattle.bus.specs.Bus.{is_acknowledge, is_general_call, is_read, levels}
use Rattle.frames.specs.Mirror.{ordered}
use Rattle.frames.specs.Parts.{bits_of, filled, phased, sampled, starved, yield_in}
use Rattle.frames.specs.declared.Frame.{Frame}
use Rattle.frames.specs.declared.Phase.{Phase}
use Rattle.frames.specs.declared.Phase.TheVariants.{Ack, Data, Done}
use Rattle.registers.specs.Bits.{AAS, ACKBR, ACKE, ADZ, AL, MLS, MST, NACKF, RCVD, RDRF, SVA, TDRE, TEND, TRS}
use Rattle.iic.specs.Setters.{set_command, set_completed, set_condition, set_control, set_count, set_drive, set_enable, set_frame, set_hold, set_rdr, set_receive_enabled, set_receive_stopped, set_selected, set_synchronized_hold}
use Rattle.iic.specs.State.{clear_control, drive_scl, master, raise, synchronous, transmits, unclocked}
use Rattle.iic.specs.declared.Condition.TheVariants.{NoCondition}
use Rattle.iic.specs.declared.Iic.{Iic}
use Rattle.iic.specs.declared.Hold.{Hold}
use Rattle.iic.specs.declared.Hold.TheVariants.{NoHold}
use Rattle.std.specs.Int.Bits.{bit_and, bit_or}

-- ## `load_transmit`: ICDRT goes into a frame that waits for it, and ICSR's TDRE is raised (584)

abbrev pub can_load : Iic → Frame → Bool
can_load s f = starved f && not (has s.registers.status TDRE)

abbrev pub load_in : Option Frame → Iic → Iic
load_in None s = s
load_in (Some f) s = cond (can_load s f) (set_frame (Some (filled s.registers.tdr f)) (raise TDRE s)) s

unfoldable pub load_transmit_of : Iic → Iic
load_transmit_of s = load_in s.frame s

-- ## `begin_frame` (566)

-- a frame sends where ICCR1's TRS is set: a master's, a selected slave's unless it is an address, and any in synchronous mode (568)
abbrev pub frame_sends : Bool → Iic → Bool
frame_sends address s = transmits s && (master s || s.flags.selected && not address || synchronous s)

-- the frame as it begins (569)
abbrev pub fresh : Bool → Iic → Frame
fresh address s = record {
  shift = 0;
  remaining = bits_of address s.registers.count;
  phase = Data;
  address = address;
  transmit = frame_sends address s;
  loaded = not (frame_sends address s);
  last = not (frame_sends address s) && master s && has s.registers.control RCVD;
}

unfoldable pub begin_frame_of : Bool → Iic → Iic
begin_frame_of address s = load_transmit_of (set_frame (Some (fresh address s)) s)

-- ## `arbitration_lost`: ICSR's AL is raised, ICCR1's MST and TRS are cleared, and what the master was about is dropped (593)

unfoldable pub arbitration_lost_of : Iic → Iic
arbitration_lost_of s =
    raise AL (clear_control (MST + TRS) (set_drive (levels true true) (unclocked (set_synchronized_hold false (set_condition NoCondition
    (set_command None (set_hold NoHold (set_frame (yield_in s.frame) s))))))))

-- ## `set_hold`: SCL is held low, except in synchronous mode (763)

unfoldable pub set_hold_of : Hold → Iic → Iic
set_hold_of h s = cond (synchronous s) s (set_hold h (drive_scl false (unclocked s)))

-- ## `complete_frame` (662)

-- outside synchronous mode the ninth level goes into ICIER's ACKBR, and raises ICSR's NACKF where ACKE is set and nobody acknowledges (666)
abbrev pub acknowledged_enable : Bool → Iic → ℕ
acknowledged_enable sda s = bit_or (without s.registers.enable ACKBR) (flag sda ACKBR)

unfoldable pub acknowledged_of : Bool → Iic → Iic
acknowledged_of sda s =
    cond (synchronous s) s
    (raise (flag (not (is_acknowledge sda) && has (acknowledged_enable sda s) ACKE) NACKF)
    (set_enable (acknowledged_enable sda s) s))

-- ICSR's TEND where TDRE is set: nothing more to send (672)
unfoldable pub drained_of : Iic → Iic
drained_of s = raise (flag (has s.registers.status TDRE) TEND) s

-- document 01: a synchronous receive that ends with RDRF set; the clock stops too (679)
unfoldable pub overrun_of : Iic → Iic
overrun_of s = raise AL (clear_control MST (unclocked (drive_scl true s)))

-- ICDRR, in ICMR's bit order (685)
unfoldable pub stored_of : ℕ → Iic → Iic
stored_of b s = raise RDRF (set_rdr (ordered (has s.registers.mode MLS) b) s)

-- stored, or overrun (678)
unfoldable pub received_of : ℕ → Iic → Iic
received_of b s = cond (synchronous s && has s.registers.status RDRF) (overrun_of s) (stored_of b s)

-- document 01: an address frame whose byte has bit 0 set is not stored (675)
abbrev pub receives : Frame → Iic → Bool
receives f s = (master s || s.flags.selected || synchronous s) && not (f.address && is_read f.shift)

-- every completion sets ICMR's bit count, BC, to 0 (663)
abbrev pub completed_of : Iic → Iic
completed_of s = set_count 0 (set_completed true s)

-- what was sent is acknowledged, what was received is stored (665)
unfoldable pub complete_frame_of : Frame → Bool → Iic → Iic
complete_frame_of f sda s =
    cond f.transmit (drained_of (acknowledged_of sda (completed_of s)))
    (cond (receives f (completed_of s)) (received_of f.shift (completed_of s)) (completed_of s))

-- ## `rising` (608)

-- a master's released SDA is low: another drives it (617)
abbrev pub loses : Frame → Bool → Iic → Bool
loses f sda s = f.transmit && master s && s.lines.drive.sda && not sda && not (synchronous s)

-- arbitration is lost, or not (528, 617)
unfoldable pub when_lost_of : Bool → Iic → Iic
when_lost_of lost s = cond lost (arbitration_lost_of s) s

-- document 01: address match compares bits 1 to 7, and the byte 00 always selects; with own address 00 so does 01 (625; docs/DIFFERENCES.md)
abbrev pub hits : ℕ → Iic → Bool
hits b s = eqb (bit_and b SVA) (bit_and s.registers.address SVA) || is_general_call b

-- ICSR's AAS; ADZ for the byte 00; ICCR1's TRS with ICSR's TDRE for a read, no TRS for a write (627)
unfoldable pub select_of : ℕ → Iic → Iic
select_of b s =
    set_control (bit_or (without s.registers.control TRS) (flag (is_read b) TRS))
    (raise (flag (is_read b) TDRE) (raise (flag (is_general_call b) ADZ) (raise AAS s)))

-- selected, or not (625)
unfoldable pub matched_of : ℕ → Iic → Iic
matched_of b s = cond (hits b s) (select_of b (set_selected true s)) (set_selected false s)

-- document 01: a non-master compares an address byte (624)
unfoldable pub addressed_of : Frame → Iic → Iic
addressed_of f s = cond (f.address && not (master s)) (matched_of f.shift s) s

-- the last byte of a synchronous receive stops the clock (642)
unfoldable pub finished_of : Bool → Iic → Iic
finished_of last s =
    cond last (set_receive_stopped true (set_receive_enabled false (unclocked (drive_scl true s)))) s

-- synchronous mode has no acknowledge (640)
unfoldable pub end_synchronous_of : Frame → Bool → Iic → Iic
end_synchronous_of f sda s = set_frame (Some (phased Done f)) (finished_of f.last (complete_frame_of f sda s))

-- the byte is in: outside synchronous mode the acknowledge follows (639)
abbrev pub end_bits : Frame → Bool → Iic → Iic
end_bits f sda s = cond (synchronous s) (end_synchronous_of f sda s) (set_frame (Some (phased Ack f)) s)

-- an address is compared first (624)
unfoldable pub last_bit_of : Frame → Bool → Iic → Iic
last_bit_of f sda s = end_bits f sda (addressed_of f s)

-- the last bit, or one before it (623)
abbrev pub bit_taken : Frame → Bool → Iic → Iic
bit_taken f sda s = cond (eqb f.remaining 0) (last_bit_of f sda s) (set_frame (Some f) s)

-- document 01: a bit is sampled, high bit first; before it a look at who drives SDA (616)
unfoldable pub rising_data_of : Frame → Bool → Iic → Iic
rising_data_of f sda s = bit_taken (sampled (loses f sda s) sda f) sda (when_lost_of (loses f sda s) s)

-- the acknowledge (654)
unfoldable pub rising_ack_of : Frame → Bool → Iic → Iic
rising_ack_of f sda s = set_frame (Some (phased Done f)) (complete_frame_of f sda s)

-- by the phase (615)
abbrev pub rising_at : Phase → Frame → Bool → Iic → Iic
rising_at Data f sda s = rising_data_of f sda s
rising_at Ack f sda s = rising_ack_of f sda s
rising_at Done f sda s = s

-- document 01: where no frame is in progress a rising clock changes nothing; nor does it for a frame that waits for its byte (609, 612)
abbrev pub rising_in : Option Frame → Bool → Iic → Iic
rising_in None sda s = s
rising_in (Some f) sda s = cond (not f.loaded) s (rising_at f.phase f sda s)

unfoldable pub rising_of : Bool → Iic → Iic
rising_of sda s = rising_in s.frame sda s
