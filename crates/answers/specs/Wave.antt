-- Definitions: the signals after a line, as a VCD file has them (IEEE 1364, "Value change dump files"): `#` and a time, then for each signal its
-- value and the byte that stands for it, a line each. No paper has them but the request, "SCL and SDA as given and as driven, the status flags,
-- the gate, times relative to the first line".
use Rattle.std.specs.Prelude.{Bool, cond, ◌||◌, List, [], ◌∷◌, ◌++◌, ℕ, ◌+◌, ◌-◌, ◌*◌, ◌/◌, ◌^◌, min, eqb, Option, None, Some}
use Rattle.std.specs.Option.{option_or}
use Rattle.time.specs.declared.Time.{Time}
use Rattle.time.specs.Time.{time_of}
use Rattle.bus.specs.declared.Levels.{Levels}
use Rattle.bus.specs.Bits.{has}
use Rattle.bus.specs.Bus.{wired}
use Rattle.iic.specs.declared.Iic.{Iic}
use Rattle.registers.specs.Bits.{TDRE, TEND, RDRF, NACKF, STOP, AL, AAS, ADZ}
use Rattle.iic.specs.Calls.{pins_of}
use Rattle.answers.specs.declared.Answer.{Answer}
use Rattle.answers.specs.declared.Output.{Output}
use Rattle.answers.specs.declared.Output.TheVariants.{Answers, Reports, Waves}
use Rattle.answers.specs.declared.wave.Glyphs.{Glyphs}
use Rattle.lines.specs.Numbers.{decimal_in}
use Rattle.lines.specs.Format.{bit_glyph}
use Rattle.refusals.specs.Refusals.{number_ended}

-- ## Times

-- the time of the first line that wasn't refused 4 or 5, after a line that left the time l; it is kept where signals are written
abbrev pub began_by : Output → Option Time → Option Time → Option Time
began_by Answers b l = b
began_by Reports b l = b
began_by Waves b l = option_or b l

-- the whole nanoseconds in units of 2^-64 s; from 18,446,744,073 s on, the last that 64 bits hold in nanoseconds, that many
unfoldable pub nanoseconds_in : ℕ → ℕ
nanoseconds_in units = min 18446744073000000000 (units * 1000000000 / 2 ^ 64)

-- "times relative to the first line"
abbrev pub since_began : Option Time → Time → ℕ
since_began None t = 0
since_began (Some first) t = nanoseconds_in (time_of t - time_of first)

-- ## Signals

-- the wires themselves: low where they were reported low or are driven low
abbrev pub wires_of : Levels → Option Levels → Levels
wires_of given None = given
wires_of given (Some l) = wired given l

-- z where the peripheral drives neither line
abbrev pub driven_of : Option Levels → Glyphs
driven_of None = record { scl = 122; sda = 122 }
driven_of (Some l) = record { scl = bit_glyph l.scl; sda = bit_glyph l.sda }

-- a flag of ICSR
abbrev pub flag_glyph : ℕ → ℕ → ℕ
flag_glyph status mask = bit_glyph (has status mask)

-- the wires; SCL and SDA as they were last reported; as they are driven; the flags, high to low; the gate
unfoldable pub signals_of : Levels → Option Levels → ℕ → Bool → List ℕ
signals_of given pins status gate =
    bit_glyph (wires_of given pins).scl ∷ bit_glyph (wires_of given pins).sda
    ∷ bit_glyph given.scl ∷ bit_glyph given.sda
    ∷ (driven_of pins).scl ∷ (driven_of pins).sda
    ∷ flag_glyph status TDRE ∷ flag_glyph status TEND ∷ flag_glyph status RDRF ∷ flag_glyph status NACKF
    ∷ flag_glyph status STOP ∷ flag_glyph status AL ∷ flag_glyph status AAS ∷ flag_glyph status ADZ
    ∷ bit_glyph gate ∷ []

-- ## Text

-- a line for each signal; the bytes that stand for them follow one another
unfoldable pub changes_from : ℕ → List ℕ → List ℕ
changes_from name [] = []
changes_from name (v ∷ vs) = v ∷ name ∷ 10 ∷ changes_from (name + 1) vs

-- `#` and the time; the first signal is `!`
unfoldable pub moment_text : ℕ → Iic → List ℕ
moment_text time s =
    35 ∷ (decimal_in 20 time ++ 10 ∷ changes_from 33 (signals_of s.lines.raw (pins_of s) s.registers.status s.flags.gate))

-- by the time of the line; where there is none yet, nothing
abbrev pub placed : Option Time → Option Time → Iic → List ℕ
placed began None s = []
placed began (Some t) s = moment_text (since_began began t) s

-- nothing for a line refused 4 or 5
unfoldable pub wave_text : Option Time → Answer → List ℕ
wave_text began a = cond (eqb (number_ended a.answer) 4 || eqb (number_ended a.answer) 5) [] (placed began a.host.last a.host.state)
