use mathlib.Core.Path.{◌∙◌, sym}
use Rattle.iic.proofs.Steps.{start_as}
use Rattle.iic.proofs.Iic.bus_start.Goals as goal

pub returns-then-self : goal.returns-then-self
returns-then-self c = sym (rw c.if-self.true) ∙ start_as c.args.self c.when_lost-self.result c.when_lost-self.ensures

pub returns : goal.returns
returns c = c.begin_frame.ensures ∙ sym (rw c.if-self.false) ∙ start_as c.args.self c.when_lost-self.result c.when_lost-self.ensures
