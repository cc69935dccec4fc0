-- `iic::Iic::filter_fires` meets its contract. Assumes nothing.
use mathlib.Core.Path.{◌≡◌, ◌∙◌, ap, sym}
use Rattle.std.specs.Prelude.{None}
use Rattle.iic.specs.Waiting.{schedule_filter_of}
use Rattle.iic.specs.Setters.{set_filter_wait}
use Rattle.iic.specs.Edges.{filtered_edges_of}
use Rattle.iic.specs.EdgeLaws.{unedged}
use Rattle.iic.specs.Answers.{Stepped, and_then}
use Rattle.iic.specs.Clocking.{filter_fires_of}
use Rattle.iic.specs.declared.Iic.{Iic}
use Rattle.iic.proofs.Iic.filter_fires.Goals as goal
use Rattle.iic.proofs.Iic.filter_fires.Goals.{then-edged, else-edged}

pub returns : goal.returns
unfolding filter_fires_of
returns c =
    let a = c.args in
    let u : Iic = set_filter_wait None c.filter_pass-self.result in
    let f = filtered_edges_of a.self.lines.filtered a.now a.system in
    let found : c.if-edged.next ≡ f u = elim c.if-edged.branch [
      | then-edged w ↦ w.next-is ∙ w.filtered_edges-next.ensures
      | else-edged w ↦ w.next-is ∙ w.fine-next.ensures ∙ sym (unedged a.self.lines.filtered a.now a.system u (sym c.edged.ensures ∙ w.if-edged.false))
    ] in
    c.schedule_filter.ensures ∙ ap (λ (o : Stepped). and_then o (schedule_filter_of a.now a.system)) (found ∙ ap f (ap (set_filter_wait None) c.filter_pass-self.ensures))
