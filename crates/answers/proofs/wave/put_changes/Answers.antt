use Rattle.std.proofs.Common.{arith}
use Rattle.answers.specs.WaveLaws.{changes_none, changes_more, changes_all}
use Rattle.answers.proofs.Puts.{put_none, put_then, put_as}
use Rattle.answers.proofs.wave.put_changes.Goals as goal

pub loop-i-init : goal.loop-i-init
loop-i-init c =
    let a = c.args in record { put = put_as (changes_none 33 a.values.now) (put_none a.out.now a.at); next_is = omega arith }

pub loop-i-preserved : goal.loop-i-preserved
loop-i-preserved c =
    let l = c.loop-i in
    let w = c.put_change-next in
    record {
      put = put_as (changes_more 33 l.i c.args.values.now 0 c.loop-i-test.true) (put_then (omega (arith, c.requires)) l.invariant.put w.ensures);
      next_is = omega (arith, w.ensures.next, l.invariant.next_is);
    }

pub returns : goal.returns
returns c = put_as (changes_all 33 _ c.args.values.now c.loop-i-test.false) c.loop-i.invariant.put
