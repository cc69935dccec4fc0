use mathlib.Core.List.{[], ◌∷◌, append_assoc}
use native.Mathlib.Omega.{arith}
use Rattle.lines.specs.Numbers.{hex_in}
use Rattle.answers.specs.Answers.{levels_text}
use Rattle.answers.proofs.Puts.{put_then, put_as}
use Rattle.answers.proofs.Rows.{levels_length}
use Rattle.answers.proofs.writing.put_state.Goals as goal

pub put_byte-b-requires : goal.put_byte-b-requires
put_byte-b-requires c = let d = c.put_levels-a in omega (arith, levels_length c.args.pins, d.ensures.next, d.auto.out, c.requires)

pub put_digits-requires : goal.put_digits-requires
put_digits-requires c =
    let d = c.put_levels-a in
    let b = c.put_byte-b in
    omega (arith, levels_length c.args.pins, d.ensures.next, d.auto.out, b.ensures.next, b.auto.out, c.requires)

pub returns : goal.returns
returns c =
    let a = c.args in
    let h = c.requires in
    put_as (append_assoc (levels_text a.pins) (9 ∷ []) (hex_in 2 a.status))
    (put_then (omega (arith, h)) (put_then (omega (arith, h)) c.put_levels-a.ensures c.put_byte-b.ensures) c.put_digits.ensures)
