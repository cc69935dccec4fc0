-- Definitions: the numbers of the refusals (documents 01 and 02), what follows an answer that may be refused, and the order in which refusals of the
-- peripheral's state are looked for (document 01, "Refused because of the state"; document 02, (f)).
use Rattle.std.specs.Prelude.{ℕ, Bool, cond, not, Result, Ok, Err, ⊤}
use Rattle.refusals.specs.declared.Refusal.{Refusal}
use Rattle.refusals.specs.declared.Refusal.TheVariants.{ZeroFrequency, ZeroDivider, NoStage, Malformed, NotLater, NoRoom, Overflow, Reversed, Ranges, Progress, ZeroTap, HalfCount, HalfSum, Rates, Peripherals, Visits, LongTrace, NotDrawn, Overlap, Gap}

-- the number of a refusal: 1 to 12 as document 01 has them, 13 to 20 as document 02 has them
abbrev pub number_of : Refusal → ℕ
number_of ZeroFrequency = 1
number_of ZeroDivider = 2
number_of NoStage = 3
number_of Malformed = 4
number_of NotLater = 5
number_of NoRoom = 6
number_of Overflow = 7
number_of Reversed = 8
number_of Ranges = 9
number_of Progress = 10
number_of ZeroTap = 11
number_of HalfCount = 12
number_of HalfSum = 13
number_of Rates = 14
number_of Peripherals = 15
number_of Visits = 16
number_of LongTrace = 17
number_of NotDrawn = 18
number_of Overlap = 19
number_of Gap = 20

-- the number of the refusal that an answer is, 0 where it is none
abbrev pub number_ended : {A : Type 0} → Result A Refusal → ℕ
number_ended (Ok _) = 0
number_ended (Err r) = number_of r

-- what follows an answer that may be refused (the Rust's `?`)
abbrev pub and_then : {A B : Type 0} → Result A Refusal → (A → Result B Refusal) → Result B Refusal
and_then (Ok a) f = f a
and_then (Err r) f = Err r

-- the first of two
abbrev pub first_of : Result ⊤ Refusal → Result ⊤ Refusal → Result ⊤ Refusal
first_of a b = and_then a (λ _. b)

-- `Rates` where the rate set doesn't hold (document 02, (f): after 1 and before 9), then `Ranges`, then `Progress` for the progress of a frame, then the rest
abbrev pub of_state : Bool → Bool → Bool → Result ⊤ Refusal → Result ⊤ Refusal
of_state rates ranges progress rest = cond (not rates) (Err Rates) (cond (not ranges) (Err Ranges) (cond (not progress) (Err Progress) rest))

-- before a call: `ZeroFrequency`, where a clock that was handed in holds a zero, then the state's
abbrev pub before_call : Bool → Bool → Bool → Bool → Result ⊤ Refusal
before_call zero rates ranges progress = cond zero (Err ZeroFrequency) (of_state rates ranges progress (Ok tt))
