use Rattle.std.proofs.Common.{arith}
use Rattle.clock_calls.proofs.Told.{sets_from_copy}
use Rattle.clock_calls.proofs.put.put_nine.Goals as goal

pub returns : goal.returns
returns c =
    let e = c.copy_from_slice.ensures in
    sets_from_copy c.args.out.now c.copy_from_slice.new.self c.args.words c.args.at _ (omega arith) c.requires c.told-out e.len e.after
