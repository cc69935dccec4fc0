-- Definitions: what a state must meet, and what it asks of its host (document 01, "Refused because of the state"; `validate`,
-- `interrupt_with_enable`; numbers in brackets are lines of iic.rs).
use Rattle.std.specs.Prelude.{◌+◌, ℕ, eqb, ltb, Bool, ◌&&◌, ◌||◌, cond, not, true, None, Option, Some, Result, Ok, Err, ⊤}
use Rattle.refusals.specs.declared.Refusal.{Refusal}
use Rattle.refusals.specs.declared.Refusal.TheVariants.{HalfCount}
use Rattle.bus.specs.Bits.{flag, has, without}
use Rattle.frames.specs.Parts.{progress_in}
use Rattle.registers.specs.Bits.{AL, MLS, NACKF, NAKIE, RDRF, STOP, TDRE, TEND, WAIT}
use Rattle.iic.specs.State.{synchronous}
use Rattle.iic.specs.declared.Iic.{Iic}
use Rattle.time.specs.Time.{earlier}
use Rattle.time.specs.declared.Time.{Time}
use Rattle.waits.specs.Ends.{short_half}
use Rattle.std.specs.Int.Bits.{bit_and, bit_or}

-- ## What 9 and 10 ask, before a call and in `validate`

-- document 01, refused 9 where this doesn't hold: a count of at most 7, and no mode bits but MLS and WAIT (897)
abbrev pub ranges_hold : Iic → Bool
ranges_hold s = ltb s.registers.count 8 && eqb (without s.registers.mode (MLS + WAIT)) 0

-- document 01, refused 10 where this doesn't hold (902)
abbrev pub progress_holds : Iic → Bool
progress_holds s = progress_in s.frame

-- ## What `validate` asks beside that

-- document 01, refused 9 where this doesn't hold: an eighth fall isn't later than now (899)
abbrev pub fell_by : Option Time → Time → Bool
fell_by None now = true
fell_by (Some t) now = not (earlier now t)

-- document 01, 12: a half count within 1023 of the top (914)
abbrev pub halves_refusal : Iic → Result ⊤ Refusal
halves_refusal s = cond (short_half s.clock_wait && short_half s.monitor_wait) (Ok tt) (Err HalfCount)

-- ## Interrupts

-- ICIER's NAKIE asks for ICSR's AL, and outside synchronous mode for its NACKF (195)
abbrev pub nack_mask : Iic → ℕ
nack_mask s = bit_or AL (flag (not (synchronous s)) NACKF)

-- a flag of ICSR and its enable in ICIER: TDRE, TEND and RDRF; STOP outside synchronous mode; NACKF and AL share NAKIE (192)
abbrev pub interrupt_by : Iic → ℕ → Bool
interrupt_by s enable =
    has (bit_and s.registers.status enable) (TDRE + TEND + RDRF)
    || not (synchronous s) && has (bit_and s.registers.status enable) STOP
    || has enable NAKIE && has s.registers.status (nack_mask s)

-- with further enables that the host retained (190)
abbrev pub interrupt_with : Iic → ℕ → Bool
interrupt_with s retained = interrupt_by s (bit_or s.registers.enable retained)
