-- Definitions: what a line's call tells its host, and the answer that has it: the same answers that the statement on two hosts is about
-- (`of_end`, `of_byte`, `of_truth` and `of_deadline` in `iic/specs/Told.antt`).
use Rattle.std.specs.Prelude.{◌≡◌, ℕ, Option, None, Some, Result}
use Rattle.time.specs.declared.Time.{Time}
use Rattle.clocks.specs.declared.Clocks.{Clocks}
use Rattle.iic.specs.declared.Iic.{Iic}
use Rattle.iic.specs.Calls.{read_of, write_of, input_pins_of, set_gate_of, advance_of, deadline_of}
use Rattle.iic.specs.Told.{Answer as Told, refusal, nothing, byte, bit, no_levels, the_levels, no_moment, moment, number_of, of_end, of_byte, of_truth, of_deadline}
use Rattle.refusals.specs.declared.Refusal.{Refusal}
use Rattle.refusals.specs.Refusals.{number_ended}
use Rattle.lines.specs.declared.Verb.{Verb}
use Rattle.lines.specs.declared.Verb.TheVariants.{Read, Write, Pins, Gate, Visit, Deadline as AskDeadline}
use Rattle.answers.specs.declared.Value.{Value}
use Rattle.answers.specs.declared.Value.TheVariants as value
use Rattle.answers.specs.Answers.{value_in}

abbrev pub told_by : Clocks → Time → Iic → Verb → Told
told_by k t s (Read a) = of_byte (read_of s a t k).answer
told_by k t s (Write a b) = of_end (write_of s a b t k).answer
told_by k t s (Pins scl sda) = of_truth (input_pins_of s scl sda t k).answer
told_by k t s (Gate g) = of_end (set_gate_of s g t k).answer
told_by k t s Visit = of_end (advance_of s t k).answer
told_by k t s AskDeadline = of_deadline (deadline_of s k)

-- the value in the answer line: a byte for r, 0 or 1 for p, a time for d, none where there is none
abbrev pub value_told : Told → Option Value
value_told (byte b) = Some (value.Byte b)
value_told (bit b) = Some (value.Bit b)
value_told (moment t) = Some (value.Moment t)
value_told (refusal n) = None
value_told nothing = None
value_told no_levels = None
value_told (the_levels l) = None
value_told no_moment = None

-- an answer with what is told: its value, or the number of its refusal
abbrev pub Tells : Told → Result (Option Value) Refusal → Type 0
Tells a r = (number_ended r ≡ number_of a) × (value_in r ≡ value_told a)
