-- Definitions: the registers as bytes: the default, which of them an address chooses, what each shows, what a state's must meet, and what reads and
-- writes set in them alone (document 01, Registers and steps; the manual, REJ09B0152, section 16.3; numbers in brackets are lines of iic.rs).
use Rattle.std.specs.Prelude.{◌+◌, ℕ, eqb, ltb, Bool, ◌&&◌, cond}
use Rattle.bus.specs.Bits.{flag, has, without}
use Rattle.bus.specs.declared.Levels.{Levels}
use Rattle.frames.specs.Mirror.{ordered}
use Rattle.registers.specs.Bits.{ACKBR, BBSY, BCWP, IICRST, MLS, RDRF, SCLO, SCP, SDAO, SDAOP, TDRE, TEND, WAIT}
use Rattle.registers.specs.declared.Register.{Register}
use Rattle.registers.specs.declared.Register.TheVariants.{ICCR1, ICCR2, ICDRR, ICDRT, ICIER, ICMR, ICSR, SAR}
use Rattle.registers.specs.declared.Registers.{Registers}
use Rattle.std.specs.Int.Bits.{bit_and, bit_or}

-- ## `Default` (131)

abbrev pub default_registers : Registers
default_registers = record { control = 0; mode = 0; count = 0; enable = 0; status = 0; seen = 0; address = 0; tdr = 0xff; rdr = 0xff }

-- ## Addresses

-- document 01: address bits 0 to 2 choose
unfoldable pub register_at : ℕ → Register
register_at a =
    cond (eqb (bit_and a 7) 0) ICCR1
    (cond (eqb (bit_and a 7) 1) ICCR2
    (cond (eqb (bit_and a 7) 2) ICMR
    (cond (eqb (bit_and a 7) 3) ICIER
    (cond (eqb (bit_and a 7) 4) ICSR
    (cond (eqb (bit_and a 7) 5) SAR
    (cond (eqb (bit_and a 7) 6) ICDRT ICDRR))))))

-- ## `peek`: what a register shows (197)

-- ICCR2: what is driven, whether the bus is busy and whether the peripheral is in reset; SCP, SDAOP and the reserved bits 0 and 2 read 1
abbrev pub shown_control : Levels → Bool → Bool → ℕ
shown_control drive busy reset =
    bit_or (bit_or (bit_or (bit_or (flag busy BBSY) (SCP + SDAOP + 5)) (flag drive.sda SDAO)) (flag drive.scl SCLO)) (flag reset IICRST)

-- ICMR: a bit count, and BCWP and the reserved bits 4 and 5 read 1; the others but ICCR2 show the byte that is kept
abbrev pub shown : Register → Levels → Bool → Bool → ℕ → Registers → ℕ
shown ICCR1 drive busy reset count r = r.control
shown ICCR2 drive busy reset count r = shown_control drive busy reset
shown ICMR drive busy reset count r = bit_or (bit_or r.mode (BCWP + 0x30)) count
shown ICIER drive busy reset count r = r.enable
shown ICSR drive busy reset count r = r.status
shown SAR drive busy reset count r = r.address
shown ICDRT drive busy reset count r = r.tdr
shown ICDRR drive busy reset count r = r.rdr

-- ## What 9 asks of them, before a call and in `validate`

-- document 01, refused 9 where this doesn't hold: a count of at most 7, and no mode bits but MLS and WAIT (897)
abbrev pub ranges_hold : Registers → Bool
ranges_hold r = ltb r.count 8 && eqb (without r.mode (MLS + WAIT)) 0

-- ## What reads and writes set in them

-- the flags of the mask m are cleared in ICSR and in `seen` (231, 355)
abbrev pub cleared : ℕ → Registers → Registers
cleared m r = record {
  control = r.control;
  mode = r.mode;
  count = r.count;
  enable = r.enable;
  status = without r.status m;
  seen = without r.seen m;
  address = r.address;
  tdr = r.tdr;
  rdr = r.rdr;
}

-- a read of ICDRR: ICSR's RDRF is cleared (231)
abbrev pub data_taken : Registers → Registers
data_taken r = cleared RDRF r

-- a write of ICIER: ACKBR is read only (336)
abbrev pub enable_written : ℕ → Registers → Registers
enable_written value r = record {
  control = r.control;
  mode = r.mode;
  count = r.count;
  enable = bit_or (without value ACKBR) (bit_and r.enable ACKBR);
  status = r.status;
  seen = r.seen;
  address = r.address;
  tdr = r.tdr;
  rdr = r.rdr;
}

-- a write of ICSR, document 01: it clears flags both in `seen` and written 0 (338)
abbrev pub status_left : ℕ → Registers → ℕ
status_left value r = without r.status (without r.seen value)

-- and `seen` keeps what is left of ICSR (339)
abbrev pub status_written : ℕ → Registers → Registers
status_written value r = record {
  control = r.control;
  mode = r.mode;
  count = r.count;
  enable = r.enable;
  status = status_left value r;
  seen = bit_and r.seen (status_left value r);
  address = r.address;
  tdr = r.tdr;
  rdr = r.rdr;
}

-- a write of ICDRT, in ICMR's bit order; TDRE and TEND are cleared in ICSR and in `seen` (350)
abbrev pub data_given : ℕ → Registers → Registers
data_given value r = record {
  control = r.control;
  mode = r.mode;
  count = r.count;
  enable = r.enable;
  status = (cleared (TDRE + TEND) r).status;
  seen = (cleared (TDRE + TEND) r).seen;
  address = r.address;
  tdr = ordered (has r.mode MLS) value;
  rdr = r.rdr;
}
