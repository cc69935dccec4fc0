use mathlib.Core.Path.{◌≡◌, sym, ap, ◌∙◌}
use Rattle.domain.specs.declared.Domain.{Domain}
use Rattle.iic.specs.Calls.{advance_of}
use Rattle.iic.specs.Over.{advance_over}
use Rattle.iic.specs.OverLaws.{advance_over_lem}
use Rattle.answers.specs.Calls.{trace_clocks}
use Rattle.answers.specs.CallLaws.{trace_free}
use Rattle.answers.proofs.calls.visited.Goals as goal
use Rattle.answers.proofs.calls.visited.Goals.{then-alone, else-alone}

pub returns : goal.returns
returns c =
    let a = c.args in
    let s = a.state.now in
    let done : c.if-alone.done ≡ advance_of s a.time trace_clocks = elim c.if-alone.branch [
      | then-alone w ↦ w.done-is ∙ w.advance_over-done.ensures ∙ ap (λ (k : Domain). advance_over s a.time k) w.trace_system.ensures
          ∙ sym (advance_over_lem trace_clocks trace_free s a.time (sym c.waits_on_system-alone.ensures ∙ w.if-alone.true))
      | else-alone w ↦ w.done-is ∙ simp (w.advance-done.ensures, ← w.trace_clocks.ensures)
    ] in
    c.left.ensures ∙ done
