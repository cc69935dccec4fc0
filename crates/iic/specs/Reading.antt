-- Definitions: the registers as the host reads them (document 01, Registers and steps; `peek`, `read_at`; numbers in brackets are lines of
-- iic.rs), with what follows in time.
use Rattle.std.specs.Prelude.{ℕ, ◌+◌, Bool, ◌&&◌, ◌||◌, cond, false, not, true, None, Option, Some}
use Rattle.std.specs.Int.Bits.{bit_or}
use Rattle.bus.specs.Bits.{flag, has}
use Rattle.domain.specs.declared.Domain.{Domain}
use Rattle.frames.specs.Parts.{mark_in, shown_count}
use Rattle.iic.specs.Answers.{Stepped, and_then, fine}
use Rattle.registers.specs.Bits.{BBSY, BCWP, IICRST, RCVD, RDRF, SCLO, SCP, SDAO, SDAOP}
use Rattle.iic.specs.Kick.{kick_of, release_hold_of}
use Rattle.iic.specs.Setters.{set_frame, set_receive_enabled, set_seen, set_stale_release}
use Rattle.iic.specs.State.{clear_flags, held, master, transmits}
use Rattle.iic.specs.declared.Iic.{Iic}
use Rattle.registers.specs.declared.Register.{Register}
use Rattle.registers.specs.declared.Register.TheVariants.{ICCR1, ICCR2, ICDRR, ICDRT, ICIER, ICMR, ICSR, SAR}
use Rattle.time.specs.Time.{same_time}
use Rattle.time.specs.declared.Time.{Time}

-- ## `peek`: what a register shows (197)

-- ICCR2: SCP, SDAOP and the reserved bits 0 and 2 read 1
abbrev pub shown_control : Iic → ℕ
shown_control s =
    bit_or (bit_or (bit_or (bit_or (flag s.flags.busy BBSY) (SCP + SDAOP + 5)) (flag s.lines.drive.sda SDAO)) (flag s.lines.drive.scl SCLO)) (flag s.flags.reset IICRST)

-- ICMR: BCWP and the reserved bits 4 and 5 read 1
unfoldable pub peek_at : Register → Iic → ℕ
peek_at ICCR1 s = s.registers.control
peek_at ICCR2 s = shown_control s
peek_at ICMR s = bit_or (bit_or s.registers.mode (BCWP + 0x30)) (shown_count s.frame s.registers.count)
peek_at ICIER s = s.registers.enable
peek_at ICSR s = s.registers.status
peek_at SAR s = s.registers.address
peek_at ICDRT s = s.registers.tdr
peek_at ICDRR s = s.registers.rdr

-- ## `read_at`: ICDRR

-- the eighth fall was at this very time (233)
abbrev pub fell_now : Option Time → Time → Bool
fell_now None now = false
fell_now (Some t) now = same_time t now

-- ICSR's RDRF is cleared, and a read at the very time of the eighth fall is noted (231)
unfoldable pub taken_of : Time → Iic → Iic
taken_of now s =
    clear_flags RDRF (set_stale_release (s.flags.stale_release || fell_now s.eighth_fall now) s)

-- a master's receive goes on, and ICCR1's RCVD says whether the byte under way is its last (237)
unfoldable pub continued_of : Iic → Iic
continued_of s =
    cond (master s && not s.flags.receive_stopped)
    (set_receive_enabled true (set_frame (mark_in s.frame (has s.registers.control RCVD)) s)) s

-- the read serves a register that SCL was held for (245)
unfoldable pub resumed_of : Time → Domain → Iic → Stepped
resumed_of now system s = cond (held s) (release_hold_of now system s) (fine s)

-- ICDRR, while not transmitting (236)
abbrev pub receive_on : Time → Domain → Iic → Stepped
receive_on now system s = cond (transmits s) (fine s) (and_then (resumed_of now system (continued_of s)) (kick_of now system))

-- ICDRR (229)
unfoldable pub read_data_of : Time → Domain → Iic → Stepped
read_data_of now system s = receive_on now system (taken_of now s)

-- ICSR is noted as seen (228); ICDRR; a read of the others changes nothing
unfoldable pub read_at : Register → Time → Domain → Iic → Stepped
read_at ICCR1 now system s = fine s
read_at ICCR2 now system s = fine s
read_at ICMR now system s = fine s
read_at ICIER now system s = fine s
read_at ICSR now system s = fine (set_seen s.registers.status s)
read_at SAR now system s = fine s
read_at ICDRT now system s = fine s
read_at ICDRR now system s = read_data_of now system s
