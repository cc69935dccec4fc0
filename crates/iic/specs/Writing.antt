-- Definitions: the registers as the host writes them (document 01, Registers and steps; `write`; numbers in brackets are lines of iic.rs),
-- with what follows in time.
use Rattle.std.specs.Prelude.{◌+◌, ℕ, eqb, Bool, ◌&&◌, cond, false, not, true, None, Some}
use Rattle.bus.specs.Bits.{flag, has, without}
use Rattle.frames.specs.Mirror.{ordered}
use Rattle.domain.specs.declared.Domain.{Domain}
use Rattle.frames.specs.Parts.{is_done_in, recount_in, redirect_in}
use Rattle.iic.specs.Answers.{Stepped, and_then, fine}
use Rattle.registers.specs.Bits.{ACKBR, ACKE, BBSY, BC, BCWP, FS, IICRST, MLS, MST, RCVD, SCP, SDAO, SDAOP, TDRE, TEND, TRS, WAIT}
use Rattle.iic.specs.Kick.{kick_of, release_hold_of}
use Rattle.iic.specs.Setters.{set_address, set_busy, set_command, set_control, set_count, set_enable, set_filter_wait, set_frame, set_mode, set_receive_enabled, set_receive_stopped, set_reset, set_seen, set_status, set_tdr}
use Rattle.iic.specs.Shift.{load_transmit_of}
use Rattle.iic.specs.State.{clear_flags, drive_sda, enabled, framed, is_transmit_hold, master, raise, stop_shifter_of, synchronous, transmits}
use Rattle.iic.specs.Waiting.{schedule_filter_of}
use Rattle.iic.specs.declared.Iic.{Iic}
use Rattle.registers.specs.declared.Register.{Register}
use Rattle.registers.specs.declared.Register.TheVariants.{ICCR1, ICCR2, ICDRR, ICDRT, ICIER, ICMR, ICSR, SAR}
use Rattle.time.specs.declared.Time.{Time}
use Rattle.std.specs.Int.Bits.{bit_and, bit_or}

-- ## `write`: ICCR1

-- ICCR1's MST or TRS changed (270)
unfoldable pub redirected : ℕ → Iic → Iic
redirected value s =
    set_receive_enabled (synchronous s && not (transmits s)) (set_receive_stopped false (set_frame (redirect_in s.frame (transmits s) (master s) (has value RCVD) s.lines.filtered.scl) s))

-- ICSR's TDRE is raised where ICCR1's TRS goes from 0 to 1 (265)
unfoldable pub control_set : ℕ → Iic → Iic
control_set value s = raise (flag (not (transmits s) && has value TRS) TDRE) (set_control value s)

-- ICCR1 is taken (264)
unfoldable pub take_control_of : ℕ → Iic → Iic
take_control_of value s =
    cond (eqb (bit_and s.registers.control (MST + TRS)) (bit_and value (MST + TRS))) (control_set value s) (redirected value (control_set value s))

-- a synchronous receiver with ICCR1's RCVD and no frame receives nothing (287)
abbrev pub stops_receive : Iic → Bool
stops_receive s = synchronous s && not (transmits s) && has s.registers.control RCVD && not (framed s)

-- it receives nothing more (292)
unfoldable pub stop_receive_of : Iic → Iic
stop_receive_of s = set_receive_enabled (s.flags.receive_enabled && not (stops_receive s)) s

-- ICCR1's ICE says what follows (282)
abbrev pub control_taken : Time → Domain → Iic → Stepped
control_taken now system s =
    cond (enabled s)
    (and_then (and_then (schedule_filter_of now system s) (λ u. fine (stop_receive_of u))) (kick_of now system))
    (fine (set_filter_wait None (stop_shifter_of s)))

-- ICCR1 (263)
unfoldable pub write_control_of : ℕ → Time → Domain → Iic → Stepped
write_control_of value now system s = control_taken now system (take_control_of value s)

-- ## `write`: ICCR2

-- ICCR2's IICRST is written 1, whether it was 1 before or not; a transmitter's TDRE is raised (300)
unfoldable pub enter_reset_of : Iic → Iic
enter_reset_of s = raise (flag (transmits s) TDRE) (stop_shifter_of (set_reset true s))

-- SDA as ICCR2's SDAO asks, where its SDAOP is 0 (307)
unfoldable pub pull_sda_of : ℕ → Iic → Iic
pull_sda_of value s = cond (has value SDAOP) s (drive_sda (has value SDAO) s)

-- ICCR2's BBSY with SCP 0 asks a master for a start (1) or a stop (0), outside synchronous mode (310)
abbrev pub gives_command : ℕ → Iic → Bool
gives_command value s = not (has value SCP) && master s && not (synchronous s) && enabled s

-- the manual's correction A023: with ICIER's ACKE a stop before the ninth falling edge is lost (313)
abbrev pub early_stop : ℕ → Iic → Bool
early_stop value s =
    not (has value BBSY) && has s.registers.enable ACKE && transmits s && s.lines.filtered.scl && is_done_in s.frame

-- a start or a stop is asked for, and isn't lost (318)
abbrev pub takes_command : ℕ → Iic → Bool
takes_command value s = gives_command value s && not (early_stop value s)

-- a start or a stop is asked for, or not (318)
abbrev pub command_from : ℕ → Time → Domain → Iic → Stepped
command_from value now system s =
    cond (takes_command value s) (kick_of now system (set_command (Some (has value BBSY)) s)) (fine s)

-- outside the reset: SDA, then a start or a stop (306)
unfoldable pub out_of_reset_of : ℕ → Time → Domain → Iic → Stepped
out_of_reset_of value now system s = command_from value now system (pull_sda_of value s)

-- document 01: no frame is started by the write that lifts the reset; it does nothing else (297)
unfoldable pub write_command_of : ℕ → Time → Domain → Iic → Stepped
write_command_of value now system s =
    cond (has value IICRST) (fine (enter_reset_of s))
    (cond s.flags.reset (fine (set_reset false s)) (out_of_reset_of value now system s))

-- ## `write`: the others

-- ICMR: BC, the bit count, is written where BCWP is 0 (326)
unfoldable pub write_mode_of : ℕ → Iic → Iic
write_mode_of value s =
    cond (has value BCWP) (set_mode (bit_and value (MLS + WAIT)) s)
    (set_mode (bit_and value (MLS + WAIT)) (set_count (bit_and value BC) (set_frame (recount_in s.frame (bit_and value BC)) s)))

-- ICIER: ACKBR is read only (336)
unfoldable pub write_enable_of : ℕ → Iic → Iic
write_enable_of value s = set_enable (bit_or (without value ACKBR) (bit_and s.registers.enable ACKBR)) s

-- ICSR, document 01: a status write clears flags both in `seen` and written 0 (338)
abbrev pub status_left : ℕ → Iic → ℕ
status_left value s = without s.registers.status (without s.registers.seen value)

-- and `seen` keeps what is left (339)
unfoldable pub write_status_of : ℕ → Iic → Iic
write_status_of value s = set_status (status_left value s) (set_seen (bit_and s.registers.seen (status_left value s)) s)

-- SAR: BBSY is 0 in synchronous mode (343)
unfoldable pub write_address_of : ℕ → Iic → Iic
write_address_of value s = set_address value (set_busy (s.flags.busy && not (has value FS)) s)

-- ICDRT, in ICMR's bit order; TDRE and TEND are cleared in ICSR and in `seen` (350)
unfoldable pub give_data_of : ℕ → Iic → Iic
give_data_of value s = set_tdr (ordered (has s.registers.mode MLS) value) (clear_flags (TDRE + TEND) s)

-- the byte goes to a frame that SCL was held for (357)
unfoldable pub send_on_of : Time → Domain → Iic → Stepped
send_on_of now system s = cond (is_transmit_hold s.hold) (release_hold_of now system (load_transmit_of s)) (fine s)

-- ICDRT (349)
unfoldable pub write_data_of : ℕ → Time → Domain → Iic → Stepped
write_data_of value now system s = and_then (send_on_of now system (give_data_of value s)) (kick_of now system)

-- by the register (262)
unfoldable pub write_at : Register → ℕ → Time → Domain → Iic → Stepped
write_at ICCR1 value now system s = write_control_of value now system s
write_at ICCR2 value now system s = write_command_of value now system s
write_at ICMR value now system s = fine (write_mode_of value s)
write_at ICIER value now system s = fine (write_enable_of value s)
write_at ICSR value now system s = kick_of now system (write_status_of value s)
write_at SAR value now system s = kick_of now system (write_address_of value s)
write_at ICDRT value now system s = write_data_of value now system s
write_at ICDRR value now system s = fine s
