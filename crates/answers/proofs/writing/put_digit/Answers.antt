use native.Mathlib.Omega.{arith}
use Rattle.answers.proofs.Puts.{put_then}
use Rattle.answers.proofs.writing.put_digit.Goals as goal

pub returns : goal.returns
returns c = put_then (omega (arith, c.requires)) c.put_byte-next.ensures c.put_decimal.ensures
