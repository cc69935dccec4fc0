use mathlib.Core.List.{[], ◌∷◌, append_assoc}
use native.Mathlib.Omega.{arith}
use Rattle.lines.specs.Numbers.{decimal_in, hex_in}
use Rattle.lines.specs.NumberLaws.{decimal_length}
use Rattle.answers.proofs.Puts.{put_then, put_as}
use Rattle.answers.proofs.writing.put_time.Goals as goal

pub put_byte-next-requires : goal.put_byte-next-requires
put_byte-next-requires c = let d = c.put_decimal-colon in omega (arith, decimal_length 20 c.args.time.seconds, d.ensures.next, d.auto.out, c.requires)

pub put_hex-requires : goal.put_hex-requires
put_hex-requires c =
    let d = c.put_decimal-colon in
    let b = c.put_byte-next in
    omega (arith, decimal_length 20 c.args.time.seconds, d.ensures.next, d.auto.out, b.ensures.next, b.auto.out, c.requires)

pub returns : goal.returns
returns c =
    let a = c.args in
    let h = c.requires in
    put_as (append_assoc (decimal_in 20 a.time.seconds) (58 ∷ []) (hex_in 16 a.time.fraction))
    (put_then (omega (arith, h)) (put_then (omega (arith, h)) c.put_decimal-colon.ensures c.put_byte-next.ensures) c.put_hex.ensures)
