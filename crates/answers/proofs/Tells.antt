-- Laws: a line's call is answered with what the call tells its host.
-- Assumes nothing.
use Rattle.std.specs.Prelude.{◌≡◌, refl, Bool, ℕ, Option, None, Some, Result, Ok, Err, ⊤}
use Rattle.std.proofs.Common.{sym, subst}
use Rattle.time.specs.declared.Time.{Time}
use Rattle.clocks.specs.declared.Clocks.{Clocks}
use Rattle.iic.specs.declared.Iic.{Iic}
use Rattle.iic.specs.Calls.{read_of, write_of, input_pins_of, set_gate_of, advance_of, deadline_of}
use Rattle.iic.specs.Told.{of_end, of_byte, of_truth, of_deadline}
use Rattle.refusals.specs.declared.Refusal.{Refusal}
use Rattle.lines.specs.declared.Verb.{Verb}
use Rattle.lines.specs.declared.Verb.TheVariants.{Read, Write, Pins, Gate, Visit, Deadline as AskDeadline}
use Rattle.answers.specs.declared.Value.{Value}
use Rattle.answers.specs.declared.Value.TheVariants as value
use Rattle.answers.specs.Calls.{Outcome, moment_in, outcome_of, valued}
use Rattle.answers.specs.Told.{Tells, told_by}

ends : (r : Result ⊤ Refusal) → Tells (of_end r) (valued (λ _. None) r)
ends (Ok u) = (refl, refl)
ends (Err n) = (refl, refl)

bytes : (r : Result ℕ Refusal) → Tells (of_byte r) (valued (λ b. Some (value.Byte b)) r)
bytes (Ok b) = (refl, refl)
bytes (Err n) = (refl, refl)

truths : (r : Result Bool Refusal) → Tells (of_truth r) (valued (λ b. Some (value.Bit b)) r)
truths (Ok b) = (refl, refl)
truths (Err n) = (refl, refl)

deadlines : (r : Result (Option Time) Refusal) → Tells (of_deadline r) (valued moment_in r)
deadlines (Ok None) = (refl, refl)
deadlines (Ok (Some t)) = (refl, refl)
deadlines (Err n) = (refl, refl)

pub tells : (k : Clocks) (t : Time) (s : Iic) (v : Verb) → Tells (told_by k t s v) (outcome_of k t s v).answer
unfolding outcome_of
tells k t s (Read a) = bytes (read_of s a t k).answer
tells k t s (Write a b) = ends (write_of s a b t k).answer
tells k t s (Pins scl sda) = truths (input_pins_of s scl sda t k).answer
tells k t s (Gate g) = ends (set_gate_of s g t k).answer
tells k t s Visit = ends (advance_of s t k).answer
tells k t s AskDeadline = deadlines (deadline_of s k)

-- the same of an outcome that is that one
pub tells_as : (k : Clocks) (t : Time) (s : Iic) (v : Verb) (o : Outcome) → o ≡ outcome_of k t s v → Tells (told_by k t s v) o.answer
tells_as k t s v o e = subst (λ (x : Outcome). Tells (told_by k t s v) x.answer) (sym e) (tells k t s v)
