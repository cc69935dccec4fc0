use borrow.Author.Rules.{rules}
use Rattle.bench_calls.proofs.Over.{handed_back}
use Rattle.bench_calls.proofs.bench_over.Goals as goal

pub returns : goal.returns
returns c =
    simp (← c.clocks_of.ensures, c.number_ended.ensures)
    (handed_back
    c.play-ended.result
    _
    c.play-ended.ensures.0
    (search rules)
    _
    _
    _
    _
    _
    _
    _
    c.play-ended.ensures.1
    c.put_iic.ensures
    c.put_iic-2.ensures
    c.put_iic-3.ensures
    c.put_iic-4.ensures)
