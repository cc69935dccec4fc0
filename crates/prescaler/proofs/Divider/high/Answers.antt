-- `prescaler::Divider::high` meets its contract. Assumes nothing.
use Rattle.prescaler.proofs.Laws.{one_shl, step_pos, step_small}
use native.Mathlib.Nat.{add-mod, mod-lt}
use Rattle.std.specs.Prelude.{◌-◌}
use native.Mathlib.Omega.{arith}
use Rattle.prescaler.proofs.Divider.high.Goals as goal

pub nonzero_rem-result : goal.nonzero_rem-result
nonzero_rem-result c = step_pos c.args.stage.shift c.step-step.result c.args.stage.within.1 c.step-step.ensures

pub nonzero_rem-result-2 : goal.nonzero_rem-result-2
nonzero_rem-result-2 c = step_pos c.args.stage.shift c.step-step.result c.args.stage.within.1 c.step-step.ensures

pub overflow_add-result : goal.overflow_add-result
overflow_add-result c = omega (arith, step_small c.args.stage.shift c.step-step.result c.args.stage.within.1 c.step-step.ensures, mod-lt c.args.self.phase (step_pos c.args.stage.shift c.step-step.result c.args.stage.within.1 c.step-step.ensures), mod-lt c.elapsed-edges.result (step_pos c.args.stage.shift c.step-step.result c.args.stage.within.1 c.step-step.ensures))

pub nonzero_rem-result-3 : goal.nonzero_rem-result-3
nonzero_rem-result-3 c = step_pos c.args.stage.shift c.step-step.result c.args.stage.within.1 c.step-step.ensures

pub returns : goal.returns
returns c = simp (← c.elapsed-edges.ensures, ← c.step-step.ensures, one_shl (c.args.stage.shift - 1) (omega (arith, c.args.stage.within.1)), ← add-mod)
