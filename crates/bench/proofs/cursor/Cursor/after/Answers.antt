use Rattle.bench.proofs.cursor.Cursor.after.Goals as goal

pub returns-then-answered : goal.returns-then-answered
returns-then-answered c = simp (c.at.ensures, c.past.ensures, c.line_end-end.ensures, c.if-answered.true)
