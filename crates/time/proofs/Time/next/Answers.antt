-- `time::Time::next` meets its contract: the laws of Sums.antt on one unit more.
-- Assumes nothing.
use Rattle.std.proofs.Common.{◌+◌, ◌^◌, ◌<◌, sym, ◌∙◌, arith, le-ltb, lt-ltb}
use Rattle.time.specs.Time.{time_of, next_time}
use Rattle.time.proofs.Laws.{time_from_lem, in_time}
use Rattle.time.proofs.Sums.{next_past, next_words}
use Rattle.time.proofs.Time.next.Goals as goal

pub returns-then-high-ne0 : goal.returns-then-high-ne0
unfolding next_time
returns-then-high-ne0 c =
    let t = c.args.self in
    sym (rw (le-ltb (time_of t + 1) (2 ^ 128) (next_past t.seconds t.fraction c.sum-low.result.high c.sum-low.result.low c.sum-high.result.high c.sum-high.result.low c.sum-low.ensures c.sum-high.ensures c.if-high-ne0.true)))

pub returns : goal.returns
unfolding next_time
returns c =
    let t = c.args.self in
    let high : c.sum-high.result.low < 2 ^ 64 = omega arith in
    let low : c.sum-low.result.low < 2 ^ 64 = omega arith in
    let e = next_words t.seconds t.fraction c.sum-low.result.high c.sum-low.result.low c.sum-high.result.high c.sum-high.result.low c.sum-low.ensures c.sum-high.ensures c.if-high-ne0.false in
    time_from_lem (time_of t + 1) _ _ e low ∙ sym (rw (lt-ltb (time_of t + 1) (2 ^ 128) (in_time (time_of t + 1) _ _ e high low)))
