-- `iic::Iic::advance` meets its contract. Assumes nothing.
use mathlib.Core.Path.{ap}
use Rattle.iic.specs.OverLaws.{visit_by_ends}
use Rattle.iic.specs.Calls.{guard_by}
use Rattle.iic.specs.Answers.{guarded}
use Rattle.clocks.specs.Clocks.{has_zero}
use Rattle.iic.specs.Calls.{advance_of}
use Rattle.iic.proofs.Iic.advance.Goals as goal

pub returns : goal.returns
unfolding advance_of
returns c =
    let a = c.args in
    simp (c.advance_by.ensures, c.ends.ensures, c.has_zero.ensures)
    (ap (guarded (guard_by (has_zero a.clocks) a.self) a.self) (visit_by_ends a.now a.clocks a.self))
