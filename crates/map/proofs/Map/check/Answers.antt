-- `map::Map::check` meets its contract, by what was found on the way.
-- Assumes nothing.
use Rattle.std.proofs.Common.{sym, ◌∙◌}
use Rattle.map.specs.Map.{ranges_of}
use Rattle.map.proofs.MapLaws.{check_wrong, check_ranges_lem, check_two, check_none, check_fine}
use Rattle.map.proofs.SpanLaws.{two_same, none_same}
use Rattle.map.proofs.Map.check.Goals as goal

pub returns-in-Some : goal.returns-in-Some
returns-in-Some c = check_wrong _ _ (sym c.wrong_line.ensures ∙ c.in-Some.is)

pub returns-then-two-lt65536 : goal.returns-then-two-lt65536
returns-then-two-lt65536 c =
    let s = c.spans-spans.ensures in
    check_two _ _ (c.lowest_in_two-two.ensures ∙ two_same _ _ (ranges_of c.args.self) s) c.if-two-lt65536.true ∙ check_ranges_lem _ (sym c.wrong_line.ensures ∙ c.in_default.is)

pub returns-then-none-lt65536 : goal.returns-then-none-lt65536
returns-then-none-lt65536 c =
    let s = c.spans-spans.ensures in
    check_none _ _ (c.lowest_in_two-two.ensures ∙ two_same _ _ (ranges_of c.args.self) s) _ c.if-two-lt65536.false (c.lowest_in_none-none.ensures ∙ none_same _ _ (ranges_of c.args.self) s) c.if-none-lt65536.true
    ∙ check_ranges_lem _ (sym c.wrong_line.ensures ∙ c.in_default.is)

pub returns : goal.returns
returns c =
    let s = c.spans-spans.ensures in
    check_fine _ _ (c.lowest_in_two-two.ensures ∙ two_same _ _ (ranges_of c.args.self) s) _ c.if-two-lt65536.false (c.lowest_in_none-none.ensures ∙ none_same _ _ (ranges_of c.args.self) s) c.if-none-lt65536.false
    ∙ check_ranges_lem _ (sym c.wrong_line.ensures ∙ c.in_default.is)
