use Rattle.bench.proofs.Cursors.{next_end, next_over, next_line}
use Rattle.lines.specs.LineLaws.{line_within}
use mathlib.Core.Path.{ap, sym, ◌∙◌}
use Rattle.std.specs.Prelude.{Some}
use Rattle.bench.proofs.cursor.next_at.Goals as goal

pub returns-then-script-at : goal.returns-then-script-at
returns-then-script-at c = sym (next_end _ _ _ c.if-script-at.true)

pub returns-then-lines-ge1000000 : goal.returns-then-lines-ge1000000
returns-then-lines-ge1000000 c = sym (next_over _ _ _ c.if-lines-ge1000000.true)

pub slice_bounds-parse-end : goal.slice_bounds-parse-end
slice_bounds-parse-end c = line_within _ _ _ c.if-script-at.false c.line_end-end.ensures

pub returns : goal.returns
returns c = ap Some c.parse.ensures ∙ sym (next_line _ _ _ _ c.if-script-at.false c.if-lines-ge1000000.false c.line_end-end.ensures)
