use borrow.Author.Rules.{rules}
use Rattle.std.specs.Prelude.{None}
use Rattle.iic.specs.Clocking.{clock_step_of}
use Rattle.iic.specs.Setters.{set_clock_wait}
use Rattle.iic.proofs.Iic.fire_clock.Goals as goal

pub returns : goal.returns
returns c = c.firing.ensures (λ s. clock_step_of c.args.now c.args.system (set_clock_wait None s)) (λ s r p. search rules)
