use mathlib.Core.List.{[], ◌∷◌, ◌++◌, append_assoc}
use mathlib.Core.Path.{◌∙◌}
use native.Mathlib.Omega.{arith}
use Rattle.answers.specs.Answers.{report_text}
use Rattle.lines.specs.Numbers.{decimal_in}
use Rattle.lines.specs.NumberLaws.{decimal_length}
use Rattle.answers.proofs.Puts.{put_then, put_as}
use Rattle.answers.proofs.writing.write_report.Goals as goal

pub put_byte-b-requires : goal.put_byte-b-requires
put_byte-b-requires c = let d = c.put_decimal-a in omega (arith, decimal_length 20 c.args.number, d.ensures.next, d.auto.out, c.requires)

pub put_decimal-c-requires : goal.put_decimal-c-requires
put_decimal-c-requires c =
    let d = c.put_decimal-a in
    let t = c.put_byte-b in
    omega (arith, decimal_length 20 c.args.number, d.ensures.next, d.auto.out, t.ensures.next, t.auto.out, c.requires)

pub put_byte-requires : goal.put_byte-requires
put_byte-requires c =
    let d = c.put_decimal-a in
    let t = c.put_byte-b in
    let e = c.put_decimal-c in
    let a = c.args in
    omega (arith, decimal_length 20 a.number, decimal_length 20 a.report, d.ensures.next, d.auto.out, t.ensures.next, t.auto.out, e.ensures.next, e.auto.out, c.requires)

pub returns : goal.returns
unfolding report_text
returns c =
    let a = c.args in
    let h = c.requires in
    let n = decimal_in 20 a.number in
    let m = decimal_in 20 a.report in
    put_as (append_assoc (n ++ 9 ∷ []) m (10 ∷ []) ∙ append_assoc n (9 ∷ []) (m ++ 10 ∷ []))
    (put_then (omega (arith, h)) (put_then (omega (arith, h)) (put_then (omega (arith, h)) c.put_decimal-a.ensures c.put_byte-b.ensures) c.put_decimal-c.ensures) c.put_byte.ensures)
