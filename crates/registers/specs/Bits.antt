-- Definitions: the bits of the registers, by the manual's names (REJ09B0152, section 16.3).
use Rattle.std.specs.Prelude.{ℕ}

-- ICCR1: enable, receive disable, master, transmit; bits 3 to 0 are CKS, the rate (CKS3 in crates/rates/specs/Rates.antt)
abbrev pub ICE : ℕ
ICE = 0x80

abbrev pub RCVD : ℕ
RCVD = 0x40

abbrev pub MST : ℕ
MST = 0x20

abbrev pub TRS : ℕ
TRS = 0x10

-- ICCR2: bus busy, start/stop prohibit, SDA output, SDA output protect, SCL output, reset
abbrev pub BBSY : ℕ
BBSY = 0x80

abbrev pub SCP : ℕ
SCP = 0x40

abbrev pub SDAO : ℕ
SDAO = 0x20

abbrev pub SDAOP : ℕ
SDAOP = 0x10

abbrev pub SCLO : ℕ
SCLO = 8

abbrev pub IICRST : ℕ
IICRST = 2

-- ICMR: bit order, wait insertion, bit count write protect; bits 0 to 2 are BC, the bit count
abbrev pub MLS : ℕ
MLS = 0x80

abbrev pub WAIT : ℕ
WAIT = 0x40

abbrev pub BCWP : ℕ
BCWP = 8

abbrev pub BC : ℕ
BC = 7

-- ICIER: the interrupt of NACKF and AL, acknowledge judged, acknowledge received, acknowledge sent
abbrev pub NAKIE : ℕ
NAKIE = 0x10

abbrev pub ACKE : ℕ
ACKE = 4

abbrev pub ACKBR : ℕ
ACKBR = 2

abbrev pub ACKBT : ℕ
ACKBT = 1

-- ICSR: the flags, high to low
abbrev pub TDRE : ℕ
TDRE = 0x80

abbrev pub TEND : ℕ
TEND = 0x40

abbrev pub RDRF : ℕ
RDRF = 0x20

abbrev pub NACKF : ℕ
NACKF = 0x10

abbrev pub STOP : ℕ
STOP = 8

abbrev pub AL : ℕ
AL = 4

abbrev pub AAS : ℕ
AAS = 2

abbrev pub ADZ : ℕ
ADZ = 1

-- SAR: the own address, and the format, 1 for synchronous mode
abbrev pub SVA : ℕ
SVA = 0xfe

abbrev pub FS : ℕ
FS = 1
