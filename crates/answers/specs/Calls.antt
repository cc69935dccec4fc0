-- Definitions: what a line does (document 01, "The trace player", "Refused because of the input"): 4, then 5, then the call's own refusal.
use Rattle.std.specs.Prelude.{cond, List, ℕ, Option, None, Some, Result, Ok, Err}
use Rattle.time.specs.declared.Time.{Time}
use Rattle.clocks.specs.declared.Clocks.{Clocks}
use Rattle.clocks.specs.Clocks.{default_frequencies, new_clocks}
use Rattle.iic.specs.declared.Iic.{Iic}
use Rattle.iic.specs.Calls.{read_of, write_of, input_pins_of, set_gate_of, advance_of, deadline_of}
use Rattle.lines.specs.declared.Verb.{Verb}
use Rattle.lines.specs.declared.Verb.TheVariants.{Read, Write, Pins, Gate, Visit, Deadline as AskDeadline}
use Rattle.lines.specs.declared.Call.{Call}
use Rattle.answers.specs.declared.Host.{Host}
use Rattle.answers.specs.declared.Value.{Value}
use Rattle.answers.specs.declared.Value.TheVariants as value
use Rattle.iic.specs.declared.Answered.{Answered}
use Rattle.refusals.specs.declared.Refusal.{Refusal}
use Rattle.refusals.specs.declared.Refusal.TheVariants.{Malformed, NotLater}
use Rattle.answers.specs.declared.Answer.{Answer}
use Rattle.lines.specs.Lines.{may_follow}
use Rattle.lines.specs.Reading.{call_of}

-- the clock starts at time 0 with `Frequencies::default`
unfoldable pub trace_clocks : Clocks
trace_clocks = (new_clocks (record { seconds = 0; fraction = 0 }) default_frequencies).clocks

-- ## The call on a state: its value or its refusal, and the next state

abbrev pub Outcome : Type 0
Outcome = Answered (Option Value)

-- what is answered, as the value in the answer line: a byte for r, 0 or 1 for p, a time for d, none where there is none
abbrev pub valued : {A : Type 0} → (A → Option Value) → Result A Refusal → Result (Option Value) Refusal
valued f (Ok a) = Ok (f a)
valued f (Err r) = Err r

abbrev pub moment_in : Option Time → Option Value
moment_in None = None
moment_in (Some t) = Some (value.Moment t)

abbrev pub told : {A : Type 0} → (A → Option Value) → Answered A → Outcome
told f o = record { answer = valued f o.answer; state = o.state }

unfoldable pub outcome_of : Clocks → Time → Iic → Verb → Outcome
outcome_of k t s (Read a) = told (λ b. Some (value.Byte b)) (read_of s a t k)
outcome_of k t s (Write a b) = told (λ _. None) (write_of s a b t k)
outcome_of k t s (Pins scl sda) = told (λ b. Some (value.Bit b)) (input_pins_of s scl sda t k)
outcome_of k t s (Gate g) = told (λ _. None) (set_gate_of s g t k)
outcome_of k t s Visit = told (λ _. None) (advance_of s t k)
outcome_of k t s AskDeadline = record { answer = valued moment_in (deadline_of s k); state = s }

-- ## The line

-- 4 and 5 leave all as it was
abbrev pub refused_by : Refusal → Host → Answer
refused_by r h = record { answer = Err r; host = h }

-- the call's own answer; its time is then the last
abbrev pub taken_at : Time → Outcome → Answer
taken_at t o = record { answer = o.answer; host = record { last = Some t; state = o.state } }

unfoldable pub called_of : Clocks → Host → Call → Answer
called_of k h c = cond (may_follow h.last c.time) (taken_at c.time (outcome_of k c.time h.state c.verb)) (refused_by NotLater h)

abbrev pub parsed_of : Clocks → Host → Option Call → Answer
parsed_of k h None = refused_by Malformed h
parsed_of k h (Some c) = called_of k h c

unfoldable pub answer_of : Clocks → Host → List ℕ → Answer
answer_of k h line = parsed_of k h (call_of line)
