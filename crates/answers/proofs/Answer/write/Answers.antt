use borrow.Author.Tests.{lt-ltb, le-ltb}
use Rattle.answers.proofs.Puts.{put_none}
use Rattle.answers.proofs.Answer.write.Goals as goal

pub returns-then-out-lt80 : goal.returns-then-out-lt80
returns-then-out-lt80 c = simp (lt-ltb _ 80 c.if-out-lt80.true) (put_none _ 0)

pub returns-in-Answers : goal.returns-in-Answers
returns-in-Answers c =
    simp (le-ltb _ 80 c.if-out-lt80.false, c.in-Answers.is) c.write_answer.ensures

pub returns-in-Reports : goal.returns-in-Reports
returns-in-Reports c =
    simp (le-ltb _ 80 c.if-out-lt80.false, c.in-Reports.is, ← c.report.ensures.report) c.write_report.ensures

pub returns-in-Waves : goal.returns-in-Waves
returns-in-Waves c =
    simp (le-ltb _ 80 c.if-out-lt80.false, c.in-Waves.is) c.write_wave.ensures
