use native.Mathlib.Omega.{arith}
use Rattle.answers.proofs.Puts.{put_then}
use Rattle.answers.proofs.writing.put_dashes.Goals as goal

pub returns : goal.returns
returns c = put_then (omega (arith, c.requires)) c.put_two-next.ensures c.put_byte.ensures
