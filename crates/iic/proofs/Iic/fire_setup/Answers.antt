use borrow.Author.Rules.{rules}
use Rattle.std.specs.Prelude.{None}
use Rattle.std.proofs.Common.{true}
use Rattle.iic.specs.Answers.{fine}
use Rattle.iic.specs.Setters.{set_setup_wait}
use Rattle.iic.specs.State.{drive_scl}
use Rattle.iic.proofs.Iic.fire_setup.Goals as goal

pub returns : goal.returns
returns c = c.firing.ensures (λ s. fine (set_setup_wait None (drive_scl true s))) (λ s r p. search rules)
