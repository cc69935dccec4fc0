-- `answers::Line::put` meets its contract: each call puts its bytes after those before it, and all of them are at most 71.
-- Assumes nothing.
use mathlib.Core.Path.{◌≡◌}
use mathlib.Core.List.{[], ◌∷◌, ◌++◌, append_assoc}
use native.Mathlib.Omega.{arith}
use Rattle.answers.specs.declared.Line.{Line}
use Rattle.answers.specs.declared.Value.{Value}
use Rattle.refusals.specs.Refusals.{number_ended}
use Rattle.std.specs.Prelude.{ℕ, Option}
use Rattle.lines.specs.Numbers.{decimal_in}
use Rattle.answers.specs.Answers.{value_in, value_text, unit_text, shown_text, answer_text}
use Rattle.lines.specs.NumberLaws.{decimal_length}
use Rattle.answers.proofs.Puts.{put_then, put_as}
use Rattle.answers.proofs.Rows.{value_length, unit_length, shown_length}
use Rattle.answers.proofs.Line.put.Goals as goal

all_is : (l : Line) (r : ℕ) (v : Option Value) → r ≡ number_ended l.answer → v ≡ value_in l.answer
    → (((((((((decimal_in 20 l.number) ++ (unit_text l.shown)) ++ (9 ∷ [])) ++ (decimal_in 3 r)) ++ (9 ∷ [])) ++ (value_text v)) ++ (9 ∷ [])) ++ (shown_text l.shown)) ++ (10 ∷ [])) ≡ answer_text l
unfolding answer_text
all_is l r v e f = simp (append_assoc, e, f)

pub put_unit-b-requires : goal.put_unit-b-requires
put_unit-b-requires c = omega (arith, decimal_length 20 c.args.self.number)

pub put_byte-c-requires : goal.put_byte-c-requires
put_byte-c-requires c = omega (arith, decimal_length 20 c.args.self.number, unit_length c.args.self.shown)

pub put_decimal-d-requires : goal.put_decimal-d-requires
put_decimal-d-requires c = omega (arith, decimal_length 20 c.args.self.number, unit_length c.args.self.shown)

pub put_byte-e-requires : goal.put_byte-e-requires
put_byte-e-requires c = omega (arith, decimal_length 20 c.args.self.number, unit_length c.args.self.shown, decimal_length 3 c.number_ended-refusal.result)

pub put_value-f-requires : goal.put_value-f-requires
put_value-f-requires c = omega (arith, decimal_length 20 c.args.self.number, unit_length c.args.self.shown, decimal_length 3 c.number_ended-refusal.result)

pub put_byte-g-requires : goal.put_byte-g-requires
put_byte-g-requires c = omega (arith, decimal_length 20 c.args.self.number, unit_length c.args.self.shown, decimal_length 3 c.number_ended-refusal.result, value_length c.value_in-value.result)

pub put_shown-h-requires : goal.put_shown-h-requires
put_shown-h-requires c = omega (arith, decimal_length 20 c.args.self.number, unit_length c.args.self.shown, decimal_length 3 c.number_ended-refusal.result, value_length c.value_in-value.result)

pub put_byte-requires : goal.put_byte-requires
put_byte-requires c = omega (arith, decimal_length 20 c.args.self.number, unit_length c.args.self.shown, decimal_length 3 c.number_ended-refusal.result, value_length c.value_in-value.result, shown_length c.args.self.shown)

pub returns : goal.returns
returns c =
    put_as (all_is c.args.self c.number_ended-refusal.result c.value_in-value.result c.number_ended-refusal.ensures c.value_in-value.ensures)
    (put_then (omega arith) (put_then (omega arith) (put_then (omega arith) (put_then (omega arith) (put_then (omega arith) (put_then (omega arith) (put_then (omega arith) (put_then (omega arith) c.put_decimal-a.ensures c.put_unit-b.ensures) c.put_byte-c.ensures) c.put_decimal-d.ensures) c.put_byte-e.ensures) c.put_value-f.ensures) c.put_byte-g.ensures) c.put_shown-h.ensures) c.put_byte.ensures)
