use mathlib.Core.Path.{ap}
use Rattle.answers.specs.Answers.{answer_text, text_of}
use Rattle.answers.proofs.Puts.{put_as}
use Rattle.answers.proofs.Answer.write_answer.Goals as goal

pub returns : goal.returns
unfolding text_of
returns c = put_as (ap answer_text c.line.ensures) c.put.ensures
