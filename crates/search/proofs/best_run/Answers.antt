-- `search::best_run` meets its contract: the best run is that of the first lines tried, and the lines that are left are those after them.
-- Assumes nothing.
use mathlib.Core.Path.{◌≡◌, sym, subst}
use mathlib.Core.Bool.{true}
use mathlib.Core.List.{List}
use Prim.Native.Nat.{ℕ, ◌+◌, ◌-◌, ◌*◌, ◌≤◌, ◌<◌}
use native.Mathlib.Omega.{arith}
use lib.ListN.{length}
use Rattle.lines.specs.Lines.{lines_in}
use Rattle.search.specs.declared.Best.{Best}
use Rattle.search.specs.Search.{Met, Sought}
use Rattle.search.proofs.SearchLaws.{all_left, left_after, few_none, few_on, few_fit, sought_none_yet, sought_on, met_some}
use Rattle.search.proofs.best_run.Goals as goal

-- the same of the lines from a number on
played : {left ls : List (List ℕ)} (lines : ℕ) → left ≡ ls → lines ≤ length left → lines ≤ length ls
played lines e h = subst (λ (l : List (List ℕ)). lines ≤ length l) e h

pub loop-tried-init : goal.loop-tried-init
loop-tried-init c = (all_left _, sought_none_yet _ _ _ c.requires.0, few_none _)

pub overflow_add-plays : goal.overflow_add-plays
overflow_add-plays c =
    let v = c.loop-tried in
    let d = c.play_from-play in
    let p = c.requires in
    let f = few_fit v.invariant.2 d.result.lines (omega (arith, c.loop-tried-test.true, p.0)) (played d.result.lines v.invariant.0.lines_are d.ensures.1) (omega arith) in
    omega arith

pub kept-best-requires : goal.kept-best-requires
kept-best-requires c = met_some _ c.play_from-play.ensures.0

pub loop-tried-preserved : goal.loop-tried-preserved
loop-tried-preserved c =
    let v = c.loop-tried in
    let d = c.play_from-play in
    let r = c.requires in
    let some = c.loop-tried-test.true in
    let within : v.tried < length (lines_in true c.args.trace.now) = omega (arith, some, r.0) in
    let ls = lines_in true c.args.trace.now in (
      left_after v.invariant.0 _ c.next.result within c.next.ensures.steps,
      subst (λ (x : Best). Sought ls c.args.number (v.tried + 1) x.first x.most) (sym c.kept-best.ensures)
          (sought_on v.invariant.1 within d.result.drawn (subst (λ (l : List (List ℕ)). Met l c.args.number v.best.most d.result.drawn) v.invariant.0.lines_are d.ensures.0)),
      few_on v.invariant.2 d.result.lines within (played d.result.lines v.invariant.0.lines_are d.ensures.1),
    )

pub returns : goal.returns
returns c =
    let v = c.loop-tried in
    let a = c.args in
    let r = c.requires in
    let all : v.tried ≡ a.lines = omega (arith, c.loop-tried-test.false, v.auto.tried-end) in
    let none : length (lines_in true a.trace.now) - v.tried ≡ 0 = omega (arith, r.0) in (
      subst (λ (x : ℕ). Sought (lines_in true a.trace.now) a.number x v.best.first v.best.most) all v.invariant.1,
      subst (λ (n : ℕ). 2 * v.plays ≤ n * (n + 1)) (sym r.0) (let f = v.invariant.2.few in omega (arith, f)),
    )
