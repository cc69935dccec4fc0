-- Definitions: how steps end and what calls answer. A refusal has document 01's number; nothing is rolled back.
use Rattle.std.specs.Prelude.{Err, Ok, Result, ⊤}
use Rattle.iic.specs.declared.Iic.{Iic}
use Rattle.iic.specs.declared.Answered.{Answered}
use Rattle.refusals.specs.declared.Refusal.{Refusal}

-- a step of the peripheral answers nothing but whether it was refused
abbrev pub Stepped : Type 0
Stepped = Answered ⊤

-- a step that went through
abbrev pub fine : Iic → Stepped
fine s = record { answer = Ok tt; state = s }

-- a step that was refused, with the state at that point
abbrev pub refused : Refusal → Iic → Stepped
refused n s = record { answer = Err n; state = s }

-- by how the step ended
abbrev pub go_on : Result ⊤ Refusal → Stepped → (Iic → Stepped) → Stepped
go_on (Ok u) o f = f o.state
go_on (Err n) o f = o

-- the Rust's `?` after a step: a refused one hands its state on as it stands
abbrev pub and_then : Stepped → (Iic → Stepped) → Stepped
and_then o f = go_on o.answer o f

-- the refusal g stands before the call: state unchanged
abbrev pub guarded : Result ⊤ Refusal → Iic → Stepped → Stepped
guarded (Ok u) s o = o
guarded (Err n) s o = refused n s

-- a value, or the refusal
abbrev pub value_of : {A : Type 0} → Result ⊤ Refusal → A → Result A Refusal
value_of (Ok u) v = Ok v
value_of (Err n) v = Err n

-- the answer of `read` and of `input_pins`
abbrev pub answered : {A : Type 0} → Stepped → A → Answered A
answered o v = record { answer = value_of o.answer v; state = o.state }
