use Rattle.answers.proofs.writing.put_shown.Goals as goal

pub returns-in-Alone : goal.returns-in-Alone
returns-in-Alone c = simp c.in-Alone.is c.put_state.ensures

pub returns-in-Unit : goal.returns-in-Unit
returns-in-Unit c = simp c.in-Unit.is c.put_state-in-Unit.ensures

pub returns-in-Nobody : goal.returns-in-Nobody
returns-in-Nobody c = simp c.in-Nobody.is c.put_dashes.ensures
