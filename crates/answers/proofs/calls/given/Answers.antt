use Rattle.std.proofs.Common.{sym, ap, ◌∙◌}
use Rattle.domain.specs.declared.Domain.{Domain}
use Rattle.iic.specs.Over.{input_pins_over}
use Rattle.iic.specs.OverLaws.{input_pins_over_lem}
use Rattle.answers.specs.Calls.{trace_clocks}
use Rattle.answers.specs.CallLaws.{trace_free}
use Rattle.answers.proofs.calls.given.Goals as goal

pub returns : goal.returns
returns c =
    let a = c.args in
    c.left.ensures ∙ c.input_pins_over.ensures ∙ ap (λ (k : Domain). input_pins_over a.state.now a.scl a.sda a.time k) c.trace_system.ensures
    ∙ sym (input_pins_over_lem trace_clocks trace_free a.state.now a.scl a.sda a.time)
