use Rattle.std.proofs.Common.{sym, ap, ◌∙◌}
use Rattle.domain.specs.declared.Domain.{Domain}
use Rattle.iic.specs.Over.{write_over}
use Rattle.iic.specs.OverLaws.{write_over_lem}
use Rattle.answers.specs.Calls.{trace_clocks}
use Rattle.answers.specs.CallLaws.{trace_free}
use Rattle.answers.proofs.calls.written.Goals as goal

pub returns : goal.returns
returns c =
    let a = c.args in
    c.left.ensures ∙ c.write_over.ensures ∙ ap (λ (k : Domain). write_over a.state.now a.address a.value a.time k) c.trace_system.ensures
    ∙ sym (write_over_lem trace_clocks trace_free a.state.now a.address a.value a.time)
