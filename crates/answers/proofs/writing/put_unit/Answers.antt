use Rattle.answers.proofs.Puts.{put_none}
use Rattle.answers.proofs.writing.put_unit.Goals as goal

pub returns-in-Alone : goal.returns-in-Alone
returns-in-Alone c = simp c.in-Alone.is (put_none _ _)

pub returns-in-Unit : goal.returns-in-Unit
returns-in-Unit c = simp c.in-Unit.is c.put_digit.ensures

pub returns-in-Nobody : goal.returns-in-Nobody
returns-in-Nobody c = simp c.in-Nobody.is c.put_two.ensures
