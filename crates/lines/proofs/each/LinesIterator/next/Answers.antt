-- `lines::each::Lines::next` meets its contract: the first of the lines that are left starts at the place 0.
-- Assumes nothing.
use mathlib.Core.Path.{ap, ◌∙◌, sym}
use mathlib.Core.Bool.{not}
use mathlib.Core.List.{List, ◌∷◌}
use Prim.Native.Nat.{ℕ, ◌+◌, ◌≤◌, ◌<◌, min}
use native.Mathlib.Nat.{sub-zero}
use native.Mathlib.Omega.{arith}
use lib.ListN.{length, take, drop}
use lib.Seq.{length-take-le}
use Rattle.lines.specs.Lines.{lines_in}
use Rattle.lines.specs.LineLaws.{line_within, line_next, line_none, lines_end}
use Rattle.lines.proofs.Tails.{tail_mid}
use Rattle.lines.proofs.each.LinesIterator.next.Goals as goal

pub returns-then-is_empty-clause-steps : goal.returns-then-is_empty-clause-steps
returns-then-is_empty-clause-steps c =
    let none : length c.args.self.now.rest.now ≤ 0 = grind arith in
    let e = lines_end c.args.self.now.ended c.args.self.now.rest.now 0 none in
    (e, e)

pub returns-then-not-whole-clause-steps : goal.returns-then-not-whole-clause-steps
returns-then-not-whole-clause-steps c =
    let s = c.args.self.now.rest.now in
    let some : 0 < length s = grind arith in
    let n = c.line_end-end in
    let e = line_none c.args.self.now.ended s 0 n.result some n.ensures (line_within s 0 n.result some n.ensures) (ap not c.if-not-whole.true) in
    (e, e)

pub slice_bounds-result-end : goal.slice_bounds-result-end
slice_bounds-result-end c =
    let s = c.args.self.now.rest.now in
    let n = c.line_end-end in
    sym (length-take-le n.result s (line_within s 0 n.result (grind arith) n.ensures))

pub returns-clause-steps : goal.returns-clause-steps
returns-clause-steps c =
    let it = c.args.self.now in
    let s = it.rest.now in
    let some : 0 < length s = grind arith in
    let n = c.line_end-end in
    line_next it.ended s 0 n.result some n.ensures (line_within s 0 n.result some n.ensures) (ap not c.if-not-whole.false)
    ∙ ap (λ (k : ℕ). take k s ∷ lines_in it.ended (drop (min (length s) (n.result + 1)) s)) (sub-zero n.result)
    ∙ ap (λ (k : ℕ). take n.result s ∷ lines_in it.ended (drop k s)) (sym c.past.ensures)
    ∙ ap (λ (l : List ℕ). take n.result s ∷ lines_in it.ended l) (sym (tail_mid c.past.result s))

pub returns-clause-goes : goal.returns-clause-goes
returns-clause-goes c =
    let e = ap length (returns-clause-steps c) in
    record { on = λ f. (tt, tt, omega (arith, e)); keeps = tt; rests = λ f. tt }
