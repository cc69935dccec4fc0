use borrow.Author.Rules.{rules}
use Rattle.std.specs.Prelude.{None}
use Rattle.iic.specs.Clocking.{stretch_of}
use Rattle.iic.specs.Setters.{set_monitor_wait}
use Rattle.iic.proofs.Iic.fire_monitor.Goals as goal

pub returns : goal.returns
returns c = c.firing.ensures (λ s. stretch_of c.args.now c.args.system (set_monitor_wait None s)) (λ s r p. search rules)
