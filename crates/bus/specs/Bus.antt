-- Definitions: UM10204, the I2C-bus specification, on pairs of levels and on bytes. Each but the first two names its section.
use Rattle.std.specs.Prelude.{ℕ, ◌*◌, ◌%◌, Bool, not, ◌&&◌, eqb}
use Rattle.std.specs.Bool.{beq}
use Rattle.std.specs.Int.Bits.{bit_or}
use Rattle.bus.specs.declared.Levels.{Levels}
use Rattle.bus.specs.Bits.{has, flag}

-- a pair of levels
abbrev pub levels : Bool → Bool → Levels
levels c d = record { scl = c; sda = d }

-- the two pairs are the same (iic.rs 437, `self.raw == [scl, sda]`)
abbrev pub same_levels : Levels → Levels → Bool
same_levels a b = beq a.scl b.scl && beq a.sda b.sda

-- 3.1.1, wired-AND: a line is high where every driver releases it
abbrev pub wired : Levels → Levels → Levels
wired a b = levels (a.scl && b.scl) (a.sda && b.sda)

-- 3.1.4, START: SDA falls while SCL is high, that is, was high and remains high
abbrev pub is_start : Levels → Levels → Bool
is_start old new = old.scl && new.scl && old.sda && not new.sda

-- 3.1.4, STOP: SDA rises while SCL is high
abbrev pub is_stop : Levels → Levels → Bool
is_stop old new = old.scl && new.scl && not old.sda && new.sda

-- 3.1.5, byte format: the most significant bit goes first
abbrev pub first_bit : ℕ → Bool
first_bit b = has b 0x80

-- 3.1.5: each further bit of a byte comes in below those before it
abbrev pub shift_in : ℕ → Bool → ℕ
shift_in b bit = bit_or (b * 2 % 256) (flag bit 1)

-- 3.1.6, ACK and NACK: SDA low at the ninth clock acknowledges, high does not
abbrev pub is_acknowledge : Bool → Bool
is_acknowledge sda = not sda

-- 3.1.10, address and R/W bit: the eighth bit of an address byte is 1 for a read
abbrev pub is_read : ℕ → Bool
is_read b = has b 1

-- 3.1.13, general call: the address byte 0000 0000
abbrev pub is_general_call : ℕ → Bool
is_general_call b = eqb b 0
