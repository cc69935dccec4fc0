-- `prescaler::stage::Stage::step` meets its contract. Assumes nothing.
use Rattle.prescaler.proofs.Laws.{one_shl}
use native.Mathlib.Omega.{arith}
use Rattle.prescaler.proofs.stage.Stage.step.Goals as goal

pub returns : goal.returns
returns c = one_shl _ (omega arith)
