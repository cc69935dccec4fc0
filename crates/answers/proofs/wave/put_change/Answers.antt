use native.Mathlib.Omega.{arith}
use Rattle.answers.proofs.Puts.{put_then}
use Rattle.answers.proofs.wave.put_change.Goals as goal

pub returns : goal.returns
returns c =
    put_then (omega (arith, c.requires)) c.put_two-next.ensures c.put_byte.ensures
