-- `map::Map::unit_at` meets its contract: no range so far holds the address.
-- Assumes nothing.
use Rattle.std.proofs.Common.{List, sym, ap, ◌∙◌}
use Rattle.map.specs.declared.Range.{Range}
use Rattle.map.specs.Map.{unit_at}
use Rattle.map.proofs.MapLaws.{line_at, line_end, unit_here, unit_on, unit_none}
use Rattle.map.proofs.Map.unit_at.Goals as goal

pub returns-then-holds : goal.returns-then-holds
returns-then-holds c =
    let l = c.loop-range in
    sym (ap (λ (rs : List Range). unit_at rs c.args.address) (sym c.lines-range-items.ensures.ranges) ∙ l.invariant
    ∙ unit_here _ _ _ _ (line_at _ l.range-index _ c.loop-range-test.true) (sym c.holds.ensures ∙ c.if-holds.true))

pub loop-range-preserved : goal.loop-range-preserved
loop-range-preserved c =
    let l = c.loop-range in
    l.invariant ∙ unit_on _ _ _ _ (line_at _ l.range-index _ c.loop-range-test.true) (sym c.holds.ensures ∙ c.if-holds.false)

pub returns : goal.returns
returns c =
    let l = c.loop-range in
    sym (ap (λ (rs : List Range). unit_at rs c.args.address) (sym c.lines-range-items.ensures.ranges) ∙ l.invariant ∙ unit_none _ _ (line_end _ l.range-index c.loop-range-test.false))
