use Rattle.std.specs.Prelude.{Option, Result}
use mathlib.Core.Path.{◌≡◌, refl, ap, ◌∙◌}
use Prim.Native.Nat.{ℕ, ◌-◌}
use native.Mathlib.Omega.{arith}
use Rattle.waits.specs.Ends.{sooner}
use Rattle.bench.specs.Moments.{moment_of, named_by}
use Rattle.bench.proofs.Units.{soonest_from, soonest_turn}
use Rattle.bench.proofs.Bench.moment.Goals as goal
use Rattle.refusals.specs.declared.Refusal.{Refusal}
use Rattle.time.specs.declared.Time.{Time}

pub loop-u-init : goal.loop-u-init
loop-u-init c = refl

pub loop-u-preserved : goal.loop-u-preserved
loop-u-preserved c =
    let f : ℕ → (Result (Option Time) Refusal) = named_by c.args.all.clocks c.args.all.count c.args.present c.args.self in
    c.sooner-moment.ensures
    ∙ ap (λ (d : Result (Option Time) Refusal). sooner d c.loop-u.moment) c.named_by.ensures
    ∙ ap (sooner (f (c.loop-u.u - 1))) c.loop-u.invariant
    ∙ soonest_turn f c.args.line c.loop-u.u c.loop-u-test.true c.loop-u.auto.u

pub returns : goal.returns
unfolding moment_of
returns c =
    let none : c.loop-u.u ≡ 0 = omega (arith, c.loop-u-test.false) in
    c.loop-u.invariant ∙ ap (soonest_from (named_by c.args.all.clocks c.args.all.count c.args.present c.args.self) c.args.line) none
