use Rattle.std.specs.Prelude.{Option}
use mathlib.Core.Path.{◌∙◌, ap}
use mathlib.Core.List.{List, [], ◌∷◌, ◌++◌, append_assoc}
use Prim.Native.Nat.{ℕ}
use native.Mathlib.Omega.{arith}
use lib.ListN.{length}
use Rattle.lines.specs.Numbers.{decimal_in}
use Rattle.lines.specs.NumberLaws.{decimal_length}
use Rattle.answers.specs.Wave.{signals_of, changes_from, moment_text}
use Rattle.answers.proofs.Puts.{put_then, put_as}
use Rattle.answers.proofs.wave.write_moment.Goals as goal
use Rattle.bus.specs.declared.Levels.{Levels}

pub put_decimal-b-requires : goal.put_decimal-b-requires
put_decimal-b-requires c = let p = c.put_byte-a in omega (arith, p.ensures.next, p.auto.out, c.requires)

pub put_byte-c-requires : goal.put_byte-c-requires
put_byte-c-requires c =
    let d = c.put_decimal-b in
    let p = c.put_byte-a in
    omega (arith, decimal_length 20 c.args.time, d.ensures.next, d.auto.out, p.ensures.next, p.auto.out, c.requires)

pub put_changes-requires : goal.put_changes-requires
unfolding signals_of
put_changes-requires c =
    let n = c.put_byte-c in
    let d = c.put_decimal-b in
    let p = c.put_byte-a in (
      ap length c.signals-values.ensures,
      omega (arith, decimal_length 20 c.args.time, n.ensures.next, n.auto.out, d.ensures.next, d.auto.out, p.ensures.next, p.auto.out, c.requires),
    )

pub returns : goal.returns
unfolding moment_text
returns c =
    let a = c.args in
    let h = c.requires in
    let s = a.state in
    let d = decimal_in 20 a.time in
    let g = c.signals-values in
    put_as
    (ap (λ (l : List ℕ). 35 ∷ l) (append_assoc d (10 ∷ []) (changes_from 33 g.result))
    ∙ ap (λ (vs : List ℕ). 35 ∷ (d ++ 10 ∷ changes_from 33 vs)) (g.ensures ∙ ap (λ (p : Option Levels). signals_of s.lines.raw p s.registers.status s.flags.gate) c.pins.ensures))
    (put_then (omega (arith, h)) (put_then (omega (arith, h)) (put_then (omega (arith, h)) c.put_byte-a.ensures c.put_decimal-b.ensures) c.put_byte-c.ensures) c.put_changes.ensures)
