-- `lines::ends::skipped` meets its contract: the bytes from the start to i are no newline.
-- Assumes nothing.
use mathlib.Core.Path.{◌≡◌, sym, ap, ◌∙◌}
use Prim.Native.Nat.{ℕ, ◌+◌, ◌-◌, ◌≤◌}
use native.Mathlib.Omega.{arith}
use lib.ListN.{drop}
use lib.Seq.{drop-drop}
use borrow.Author.Tests.{ltb-false}
use Rattle.lines.specs.Lines.{line_length}
use Rattle.lines.proofs.Scans.{line_on}
use Rattle.lines.proofs.ends.skipped.Goals as goal

on : (i from n m k : ℕ) → from ≤ i → n ≡ (i - from) + m → m ≡ 16 + k → n ≡ (i + 16 - from) + k
on i from n m k h e f = omega arith

pub loop-i-init : goal.loop-i-init
loop-i-init c = (omega arith, omega arith)

pub overflow_sub-s : goal.overflow_sub-s
overflow_sub-s c = omega arith

pub returns-then-s-i-lt16 : goal.returns-then-s-i-lt16
returns-then-s-i-lt16 c = c.loop-i.invariant

pub newline_within-found-requires : goal.newline_within-found-requires
newline_within-found-requires c = omega arith

pub returns-then-found : goal.returns-then-found
returns-then-found c = c.loop-i.invariant

pub overflow_add-i : goal.overflow_add-i
overflow_add-i c = omega arith

pub loop-i-smaller : goal.loop-i-smaller
loop-i-smaller c = omega arith

pub loop-i-preserved : goal.loop-i-preserved
loop-i-preserved c =
    let l = c.loop-i in
    let a = c.args in
    let long : 16 ≤ line_length (drop l.i a.s.now) = ltb-false (line_length (drop l.i a.s.now)) 16 (sym c.newline_within-found.ensures ∙ c.if-found.false) in
    (omega arith, on l.i a.from _ _ _ l.invariant.0 l.invariant.1 (line_on (drop l.i a.s.now) 16 long ∙ ap (λ (t : _). 16 + line_length t) (drop-drop 16 l.i a.s.now)))

pub returns : goal.returns
returns c = c.loop-i.invariant
