-- `map::reading::address` meets its contract, digit by digit.
-- Assumes nothing.
use Rattle.std.proofs.Common.{ℕ, ◌≡◌, ◌+◌, ◌*◌, Some, sym, ap, ◌∙◌, arith}
use Rattle.map.specs.Reading.{address_of}
use Rattle.lines.specs.Reading.{hex_from}
use Rattle.map.specs.ReadingLaws.{no_hex, some_hex}
use Rattle.map.proofs.reading.address.Goals as goal

same_number : (p q s t a b c d : ℕ) → a ≡ p → b ≡ q → c ≡ s → d ≡ t → ((p * 16 + q) * 16 + s) * 16 + t ≡ (((0 * 16 + a) * 16 + b) * 16 + c) * 16 + d
same_number p q s t a b c d e f g h = omega arith

pub returns-in_err-digit : goal.returns-in_err-digit
unfolding address_of hex_from
returns-in_err-digit c = c.from_residual.ensures ∙ sym (simp (no_hex _ (sym c.digit.ensures.value ∙ c.in_err-digit.was)))

pub returns-in_err-high : goal.returns-in_err-high
unfolding address_of hex_from
returns-in_err-high c =
    let p = some_hex _ _ (sym c.digit.ensures.value ∙ c.in_ok-digit.was) in
    c.from_residual-in_err-high.ensures ∙ sym (simp (p.0, no_hex _ (sym c.digit-2.ensures.value ∙ c.in_err-high.was)))

pub returns-in_err-digit-2 : goal.returns-in_err-digit-2
unfolding address_of hex_from
returns-in_err-digit-2 c =
    let p = some_hex _ _ (sym c.digit.ensures.value ∙ c.in_ok-digit.was) in
    let q = some_hex _ _ (sym c.digit-2.ensures.value ∙ c.in_ok-high.was) in
    c.from_residual-in_err-digit-2.ensures ∙ sym (simp (p.0, q.0, no_hex _ (sym c.digit-3.ensures.value ∙ c.in_err-digit-2.was)))

pub returns-in_err-digit-3 : goal.returns-in_err-digit-3
unfolding address_of hex_from
returns-in_err-digit-3 c =
    let p = some_hex _ _ (sym c.digit.ensures.value ∙ c.in_ok-digit.was) in
    let q = some_hex _ _ (sym c.digit-2.ensures.value ∙ c.in_ok-high.was) in
    let s = some_hex _ _ (sym c.digit-3.ensures.value ∙ c.in_ok-digit-2.was) in
    c.from_residual-in_err-digit-3.ensures ∙ sym (simp (p.0, q.0, s.0, no_hex _ (sym c.digit-4.ensures.value ∙ c.in_err-digit-3.was)))

pub returns : goal.returns
unfolding address_of hex_from
returns c =
    let p = some_hex _ _ (sym c.digit.ensures.value ∙ c.in_ok-digit.was) in
    let q = some_hex _ _ (sym c.digit-2.ensures.value ∙ c.in_ok-high.was) in
    let s = some_hex _ _ (sym c.digit-3.ensures.value ∙ c.in_ok-digit-2.was) in
    let t = some_hex _ _ (sym c.digit-4.ensures.value ∙ c.in_ok-digit-3.was) in
    simp (p.0, q.0, s.0, t.0) (ap Some (same_number _ _ _ _ _ _ _ _ p.1 q.1 s.1 t.1))
