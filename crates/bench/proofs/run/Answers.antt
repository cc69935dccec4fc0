-- `bench::run` meets its contract: the invariant and its turn are those of Loops.antt; the measure is the steps that are left.
-- Assumes nothing.
use mathlib.Core.List.{List, ◌++◌}
use mathlib.Core.Path.{ap, sym, ◌∙◌, subst}
use Prim.Native.Nat.{ℕ, ◌+◌, ◌<◌}
use lib.ListN.{length, take, drop}
use Rattle.answers.specs.Answers.{room_for}
use Rattle.answers.specs.Puts.{Put}
use Rattle.lines.proofs.Tails.{tail_mid, tail_put}
use Rattle.bench.specs.declared.cursor.Cursor.{Cursor}
use Rattle.bench.specs.Bench.{told_text}
use Rattle.bench.specs.Measure.{steps_left}
use Rattle.bench.specs.Cursor.{left}
use Rattle.bench.proofs.Loops.{Going, finish, going, less, turn}
use Rattle.bench.proofs.run.Goals as goal

pub loop-all-init : goal.loop-all-init
loop-all-init c = let a = c.args in going a.all.clocks a.all.count a.script.now a.out.now _ _ c.new-bench.ensures c.new-cursor.ensures

pub loop-all-smaller : goal.loop-all-smaller
loop-all-smaller c =
    let v = c.loop-all in
    let s = c.step-step in
    let a = c.args in
    subst (λ (x : Cursor). steps_left a.all.clocks a.all.count s.result.bench (left a.script.now x.at x.lines) < steps_left a.all.clocks a.all.count v.bench (left a.script.now v.cursor.at v.cursor.lines))
    (sym c.after-cursor.ensures) (less v.invariant a.all.few (sym c.has_ended.ensures ∙ c.loop-all-test.true) s.result s.ensures)

pub loop-all-preserved : goal.loop-all-preserved
loop-all-preserved c =
    let v = c.loop-all in
    let s = c.step-step in
    let w = c.write-written in
    let a = c.args in
    let inner : List ℕ = w.new.out in
    let told = told_text s.result.told in
    let put : Put (drop v.written v.out) inner 0 w.result (room_for (length (drop v.written v.out)) told) =
    subst (λ (l : List ℕ). Put l inner 0 w.result (room_for (length l) told)) (tail_mid v.written v.out) w.ensures in
    let done = turn v.invariant s.result s.ensures inner w.result put (w.auto.out ∙ ap length (tail_mid v.written v.out)) in
    subst (λ (o : List ℕ). Going a.all.clocks a.all.count a.script.now a.out.now o s.result.bench c.after-cursor.result (v.written + w.result)) (sym (tail_put v.written v.out inner))
    (subst (λ (x : Cursor). Going a.all.clocks a.all.count a.script.now a.out.now (take v.written v.out ++ inner) s.result.bench x (v.written + w.result)) (sym c.after-cursor.ensures) done)

pub returns : goal.returns
returns c =
    let done = finish c.args.all.few c.loop-all.invariant (sym c.has_ended.ensures ∙ c.loop-all-test.false) in
    (c.summarize.ensures ∙ done.0, done.1)
