-- `prescaler::stage::Stage::crossings` meets its contract. Assumes nothing.
use Prim.Native.Nat.{◌%◌, ◌+◌, ◌/◌, ◌≤◌, ℕ}
use Rattle.prescaler.proofs.Laws.{step_pos, step_small, steps_le, whole_steps}
use Rattle.prescaler.specs.Prescaler.{crossed}
use mathlib.Core.Path.{◌∙◌, ap, subst, sym}
use native.Mathlib.Nat.{lt_of_le_of_lt, mod-lt}
use native.Mathlib.Omega.{arith}
use Rattle.prescaler.proofs.stage.Stage.crossings.Goals as goal

pub nonzero_div-result : goal.nonzero_div-result
nonzero_div-result c = step_pos c.args.self.shift c.step-step.result c.args.self.within.1 c.step-step.ensures

pub nonzero_rem-result : goal.nonzero_rem-result
nonzero_rem-result c = step_pos c.args.self.shift c.step-step.result c.args.self.within.1 c.step-step.ensures

pub nonzero_rem-result-2 : goal.nonzero_rem-result-2
nonzero_rem-result-2 c = step_pos c.args.self.shift c.step-step.result c.args.self.within.1 c.step-step.ensures

pub overflow_add-result : goal.overflow_add-result
overflow_add-result c = omega (arith, step_small c.args.self.shift c.step-step.result c.args.self.within.1 c.step-step.ensures, mod-lt c.args.phase (step_pos c.args.self.shift c.step-step.result c.args.self.within.1 c.step-step.ensures), mod-lt c.args.elapsed (step_pos c.args.self.shift c.step-step.result c.args.self.within.1 c.step-step.ensures))

pub nonzero_div-result-2 : goal.nonzero_div-result-2
nonzero_div-result-2 c = step_pos c.args.self.shift c.step-step.result c.args.self.within.1 c.step-step.ensures

pub overflow_add-result-2 : goal.overflow_add-result-2
overflow_add-result-2 c =
    let m = c.step-step.result in
    let pos = step_pos c.args.self.shift c.step-step.result c.args.self.within.1 c.step-step.ensures in
    let p = c.args.phase % m in
    record { fits = lt_of_le_of_lt (subst (λ (n : ℕ). n ≤ c.args.elapsed) (sym (whole_steps p c.args.elapsed m pos)) (steps_le p c.args.elapsed m (mod-lt c.args.phase pos))) c.ranges.elapsed.fits }

pub returns : goal.returns
unfolding crossed
returns c =
    whole_steps (c.args.phase % c.step-step.result) c.args.elapsed c.step-step.result (step_pos c.args.self.shift c.step-step.result c.args.self.within.1 c.step-step.ensures)
    ∙ ap (λ (n : ℕ). (c.args.phase % n + c.args.elapsed) / n) c.step-step.ensures
