-- `map::reading::parse` meets its contract, part by part of a line.
-- Assumes nothing.
use Rattle.std.proofs.Common.{Bool, ◌≡◌, cond, Some, None, rules, length, sym, ap, ◌∙◌, arith, ne_eqb}
use Rattle.std.specs.Prelude.{option_and_then}
use Rattle.map.specs.declared.Range.{Range}
use Rattle.map.specs.Reading.{range_of}
use Rattle.map.specs.ReadingLaws.{made, from_unit, from_last, of_line}
use Rattle.map.proofs.reading.parse.Goals as goal

pub returns-in_default : goal.returns-in_default
unfolding range_of
returns-in_default c = simp (ne_eqb (length c.args.line.now) 11 (λ e. omega (arith, c.in_default.len_below)))

pub returns-in_default-2 : goal.returns-in_default-2
unfolding range_of
returns-in_default-2 c = simp (ne_eqb (length c.args.line.now) 11 (λ e. omega (arith, c.in_default.len_at_least)))

pub returns-then-not-parted : goal.returns-then-not-parted
unfolding range_of
returns-then-not-parted c = search (rules, c.if-not-parted.true)

pub returns-in_err-address : goal.returns-in_err-address
returns-in_err-address c =
    let l = c.args.line.now in
    let long : length l ≡ 11 = omega (arith, c.in-len11.len_at_least, c.in-len11.len_below) in
    c.from_residual.ensures ∙ sym (of_line l long c.if-not-parted.false ∙ ap (option_and_then (from_last l)) (sym c.address.ensures ∙ c.in_err-address.was))

pub returns-in_err-address-2 : goal.returns-in_err-address-2
returns-in_err-address-2 c =
    let l = c.args.line.now in
    let long : length l ≡ 11 = omega (arith, c.in-len11.len_at_least, c.in-len11.len_below) in
    c.from_residual-in_err-address-2.ensures ∙ sym (of_line l long c.if-not-parted.false ∙ ap (option_and_then (from_last l)) (sym c.address.ensures ∙ c.in_ok-address.was)
    ∙ ap (option_and_then (from_unit l c.in_ok-address.field-0)) (sym c.address-2.ensures ∙ c.in_err-address-2.was))

pub returns-in_err-unit : goal.returns-in_err-unit
returns-in_err-unit c =
    let l = c.args.line.now in
    let long : length l ≡ 11 = omega (arith, c.in-len11.len_at_least, c.in-len11.len_below) in
    c.from_residual-in_err-unit.ensures ∙ sym (of_line l long c.if-not-parted.false ∙ ap (option_and_then (from_last l)) (sym c.address.ensures ∙ c.in_ok-address.was)
    ∙ ap (option_and_then (from_unit l c.in_ok-address.field-0)) (sym c.address-2.ensures ∙ c.in_ok-address-2.was)
    ∙ ap (option_and_then (made l c.in_ok-address.field-0 c.in_ok-address-2.field-0)) (sym c.unit.ensures ∙ c.in_err-unit.was))

pub returns-then-is_sound : goal.returns-then-is_sound
returns-then-is_sound c =
    let l = c.args.line.now in
    let r : Range = record { first = c.in_ok-address.field-0; last = c.in_ok-address-2.field-0; unit = c.in_ok-unit.field-0 } in
    let long : length l ≡ 11 = omega (arith, c.in-len11.len_at_least, c.in-len11.len_below) in
    sym (of_line l long c.if-not-parted.false ∙ ap (option_and_then (from_last l)) (sym c.address.ensures ∙ c.in_ok-address.was)
    ∙ ap (option_and_then (from_unit l c.in_ok-address.field-0)) (sym c.address-2.ensures ∙ c.in_ok-address-2.was)
    ∙ ap (option_and_then (made l c.in_ok-address.field-0 c.in_ok-address-2.field-0)) (sym c.unit.ensures ∙ c.in_ok-unit.was)
    ∙ ap (λ (b : Bool). cond b (Some r) None) (sym c.is_sound.ensures ∙ c.if-is_sound.true))

pub returns-else-is_sound : goal.returns-else-is_sound
returns-else-is_sound c =
    let l = c.args.line.now in
    let r : Range = record { first = c.in_ok-address.field-0; last = c.in_ok-address-2.field-0; unit = c.in_ok-unit.field-0 } in
    let long : length l ≡ 11 = omega (arith, c.in-len11.len_at_least, c.in-len11.len_below) in
    sym (of_line l long c.if-not-parted.false ∙ ap (option_and_then (from_last l)) (sym c.address.ensures ∙ c.in_ok-address.was)
    ∙ ap (option_and_then (from_unit l c.in_ok-address.field-0)) (sym c.address-2.ensures ∙ c.in_ok-address-2.was)
    ∙ ap (option_and_then (made l c.in_ok-address.field-0 c.in_ok-address-2.field-0)) (sym c.unit.ensures ∙ c.in_ok-unit.was)
    ∙ ap (λ (b : Bool). cond b (Some r) None) (sym c.is_sound.ensures ∙ c.if-is_sound.false))
