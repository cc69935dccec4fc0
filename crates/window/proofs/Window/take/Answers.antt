use Rattle.std.proofs.Common.{arith}
use Rattle.window.specs.Window.{take_of}
use Rattle.window.proofs.ReportLaws.{rise_le}
use Rattle.window.proofs.Window.take.Goals as goal

pub overflow_add-result : goal.overflow_add-result
overflow_add-result c = record { fits = omega (arith, c.rise.ensures, rise_le c.args.before c.args.after) }

pub returns : goal.returns
unfolding take_of
returns c = simp c.rise.ensures
