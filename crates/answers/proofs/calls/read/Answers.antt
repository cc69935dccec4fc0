use Rattle.std.proofs.Common.{sym, ap, ◌∙◌}
use Rattle.domain.specs.declared.Domain.{Domain}
use Rattle.iic.specs.Over.{read_over}
use Rattle.iic.specs.OverLaws.{read_over_lem}
use Rattle.answers.specs.Calls.{trace_clocks}
use Rattle.answers.specs.CallLaws.{trace_free}
use Rattle.answers.proofs.calls.read.Goals as goal

pub returns : goal.returns
returns c =
    let a = c.args in
    c.left.ensures ∙ c.read_over.ensures ∙ ap (λ (k : Domain). read_over a.state.now a.address a.time k) c.trace_system.ensures
    ∙ sym (read_over_lem trace_clocks trace_free a.state.now a.address a.time)
