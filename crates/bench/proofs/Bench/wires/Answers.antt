use mathlib.Core.Path.{◌≡◌, ap, ◌∙◌}
use Prim.Native.Nat.{ℕ}
use native.Mathlib.Omega.{arith}
use Rattle.bus.specs.Bus.{wired}
use Rattle.bus.specs.declared.Levels.{Levels}
use Rattle.bench.specs.Moments.{driven_by, wires_of}
use Rattle.bench.proofs.Units.{wired_all, wired_below, wired_turn}
use Rattle.bench.proofs.Bench.wires.Goals as goal

pub loop-u-init : goal.loop-u-init
loop-u-init c = c.released-wires.ensures

pub loop-u-preserved : goal.loop-u-preserved
loop-u-preserved c =
    let f : ℕ → Levels = driven_by c.args.all.count c.args.self in
    c.wired-wires.ensures ∙ ap (λ (w : Levels). wired w c.driven_by.result) c.loop-u.invariant ∙ ap (wired (wired_below f c.loop-u.u)) c.driven_by.ensures ∙ wired_turn f c.loop-u.u

pub returns : goal.returns
unfolding wires_of
returns c =
    let f : ℕ → Levels = driven_by c.args.all.count c.args.self in
    let all : c.loop-u.u ≡ 4 = omega (arith, c.loop-u-test.false, c.loop-u.auto.u-end) in
    c.loop-u.invariant ∙ ap (wired_below f) all ∙ wired_all f
