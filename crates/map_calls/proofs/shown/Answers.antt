use mathlib.Core.Path.{ap, ◌∙◌}
use borrow.Author.Rules.{rules}
use Rattle.iic.specs.declared.Iic.{Iic}
use Rattle.iic.specs.State.{default_iic}
use Rattle.iic.specs.Calls.{peek_of}
use Rattle.lines.specs.ListLaws.{within}
use Rattle.map_calls.specs.Made.{shown_of}
use Rattle.map_calls.proofs.shown.Goals as goal

pub returns : goal.returns
unfolding shown_of
returns c = c.peek.ensures ∙ ap (λ (s : Iic). peek_of s c.args.address) (within c.args.states c.args.u _ default_iic (search rules))
