-- Definitions: what a call tells its host, for each case of its answer (document 01, its last sentence: a number and values for each case).
use Rattle.std.specs.Prelude.{ℕ, Bool, true, false, Err, None, Ok, Option, Result, Some, ⊤}
use Rattle.bus.specs.declared.Levels.{Levels}
use Rattle.time.specs.declared.Time.{Time}
use Rattle.refusals.specs.Refusals.{number_of as number}
use Rattle.refusals.specs.declared.Refusal.{Refusal}

-- a value of the call's kind, or a refusal by document 01's number
pub data Answer : Type 0 where
  refusal : ℕ → Answer
  nothing : Answer
  byte : ℕ → Answer
  bit : Bool → Answer
  no_levels : Answer
  the_levels : Levels → Answer
  no_moment : Answer
  moment : Time → Answer

abbrev pub of_end : Result ⊤ Refusal → Answer
of_end (Ok u) = nothing
of_end (Err n) = refusal (number n)

abbrev pub of_byte : Result ℕ Refusal → Answer
of_byte (Ok v) = byte v
of_byte (Err n) = refusal (number n)

abbrev pub of_truth : Result Bool Refusal → Answer
of_truth (Ok b) = bit b
of_truth (Err n) = refusal (number n)

abbrev pub of_deadline : Result (Option Time) Refusal → Answer
of_deadline (Ok None) = no_moment
of_deadline (Ok (Some t)) = moment t
of_deadline (Err n) = refusal (number n)

abbrev pub of_pins : Option Levels → Answer
of_pins None = no_levels
of_pins (Some l) = the_levels l

-- the number of the refusal, 0 for none
abbrev pub number_of : Answer → ℕ
number_of (refusal n) = n
number_of nothing = 0
number_of (byte n) = 0
number_of (bit b) = 0
number_of no_levels = 0
number_of (the_levels l) = 0
number_of no_moment = 0
number_of (moment t) = 0

abbrev pub is_refusal : Answer → Bool
is_refusal (refusal n) = true
is_refusal nothing = false
is_refusal (byte n) = false
is_refusal (bit b) = false
is_refusal no_levels = false
is_refusal (the_levels l) = false
is_refusal no_moment = false
is_refusal (moment t) = false
