use mathlib.Core.Path.{sym, ap, ◌∙◌}
use Rattle.answers.specs.WaveLaws.{in_moment, since_is}
use Rattle.answers.proofs.wave.nanoseconds_from.Goals as goal

pub returns-in-Ok : goal.returns-in-Ok
returns-in-Ok c = c.nanoseconds.ensures ∙ ap in_moment (sym c.in-Ok.is ∙ c.duration_since.ensures) ∙ since_is _ _

pub returns-in-Err : goal.returns-in-Err
returns-in-Err c = ap in_moment (sym c.in-Err.is ∙ c.duration_since.ensures) ∙ since_is _ _
