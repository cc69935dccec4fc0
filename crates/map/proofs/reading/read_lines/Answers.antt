-- `map::reading::read_lines` meets its contract: what is left to read goes on from the map so far.
-- Assumes nothing.
use Rattle.std.proofs.Common.{refl, sym, ap, ◌∙◌, true}
use Rattle.lines.specs.Lines.{lines_in}
use Rattle.lines.specs.LineLaws.{line_within}
use Rattle.map.specs.declared.Map.{Map}
use Rattle.map.specs.Reading.{if_fine, read_of, read_from}
use Rattle.map.specs.TextLaws.{empty_few, read_end, read_stop, read_on_lem, line_few}
use Rattle.map.proofs.reading.read_lines.Goals as goal

pub loop-at-init : goal.loop-at-init
unfolding read_of
loop-at-init c = (empty_few _ c.new-map.ensures, ap (λ (m : Map). read_from m (lines_in true c.args.text.now)) (sym c.new-map.ensures))

pub slice_bounds-with_line-end : goal.slice_bounds-with_line-end
slice_bounds-with_line-end c = line_within _ _ _ c.loop-at-test.true c.line_end-end.ensures

pub returns-in-Err : goal.returns-in-Err
returns-in-Err c =
    let v = c.loop-at in
    let e = c.line_end-end in
    sym (v.invariant.1 ∙ read_stop v.map c.args.text.now v.at e.result _ c.loop-at-test.true e.ensures refl _ (ap (if_fine c.with_line.new.self) (sym c.in-Err.is) ∙ c.with_line.ensures))

pub loop-at-preserved : goal.loop-at-preserved
loop-at-preserved c =
    let v = c.loop-at in
    let e = c.line_end-end in
    let n = c.with_line.new.self in
    let t = ap (if_fine n) (sym c.in_default.is) ∙ c.with_line.ensures in
    (line_few v.map _ n (sym t), v.invariant.1 ∙ read_on_lem v.map c.args.text.now v.at e.result c.past-at.result c.loop-at-test.true e.ensures c.past-at.ensures n t)

pub returns : goal.returns
returns c = let v = c.loop-at in sym (v.invariant.1 ∙ read_end v.map c.args.text.now v.at c.loop-at-test.false)
