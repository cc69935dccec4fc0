-- `time::Time::half` meets its contract: the odd second goes to the fraction.
-- Assumes nothing.
use Rattle.std.proofs.Common.{◌+◌, ◌*◌, ◌/◌, ◌%◌, ◌^◌, arith}
use Rattle.time.specs.Time.{time_of}
use Rattle.time.proofs.Laws.{time_from_lem}
use Rattle.time.proofs.Orders.{half_lt, halved}
use Rattle.time.proofs.Time.half.Goals as goal

pub overflow_add-result : goal.overflow_add-result
overflow_add-result c =
    let t = c.args.self in
    record { fits = half_lt t.seconds t.fraction (omega arith) }

pub returns : goal.returns
returns c =
    let t = c.args.self in
    time_from_lem (time_of t / 2) (t.seconds / 2) (t.seconds % 2 * 2 ^ 63 + t.fraction / 2) (halved t.seconds t.fraction (omega arith)) (half_lt t.seconds t.fraction (omega arith))
