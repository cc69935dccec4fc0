use Rattle.bench.proofs.cursor.Cursor.at.Goals as goal

pub returns : goal.returns
returns c = simp c.next_at.ensures
