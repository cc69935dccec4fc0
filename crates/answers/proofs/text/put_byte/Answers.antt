use native.Mathlib.Omega.{arith}
use Rattle.answers.proofs.Puts.{put_one}
use Rattle.answers.proofs.text.put_byte.Goals as goal

pub returns : goal.returns
returns c = put_one c.args.out.now c.args.at c.args.b (omega arith)
