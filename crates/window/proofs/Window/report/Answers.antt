use Rattle.std.proofs.Common.{refl, ap, ◌∙◌}
use Rattle.window.specs.Window.{report_of}
use Rattle.window.proofs.ReportLaws.{counts_latest_lem}
use Rattle.window.proofs.Window.report.Goals as goal

pub returns : goal.returns
returns c = record { report = refl; counts = λ lines e. ap report_of e ∙ counts_latest_lem lines }
