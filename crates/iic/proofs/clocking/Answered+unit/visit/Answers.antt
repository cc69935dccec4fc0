-- `iic::clocking::Answered+unit::visit` meets its contract. Assumes nothing.
-- what is known once the four waits were looked at
use Rattle.std.specs.Prelude.{None, Option, Result}
use mathlib.Core.Path.{◌≡◌, ◌∙◌, ap, refl, sym}
use mathlib.Core.Bool.{true}
use Rattle.waits.specs.Ends.{due_of, half_end}
use Rattle.iic.specs.declared.Iic.{Iic}
use Rattle.iic.specs.State.{drive_scl}
use Rattle.iic.specs.Setters.{set_clock_wait, set_monitor_wait, set_setup_wait}
use Rattle.iic.specs.Kick.{kick_of}
use Rattle.iic.specs.Inside.{due_after}
use Rattle.iic.specs.Clocking.{clock_step_of, filter_fires_of, fire_clock_of, fire_filter_of, fire_monitor_of, fire_setup_of, stretch_of}
use Rattle.iic.specs.Answers.{Stepped, and_then, fine}
use Rattle.iic.proofs.Laws.{acted, idled}
use Rattle.iic.proofs.clocking.Answered+unit.visit.Goals as goal
use Rattle.iic.proofs.clocking.Answered+unit.visit.Goals.{Joined-acts-4, then-acts, else-acts, then-acts-2, else-acts-2, then-acts-3, else-acts-3, then-acts-4, else-acts-4}
use Rattle.refusals.specs.declared.Refusal.{Refusal}
use Rattle.time.specs.declared.Time.{Time}

waits : (c : Joined-acts-4) →
    let a = c.args in
    c.if-acts-4.self ≡ and_then (and_then (and_then (and_then a.self (fire_filter_of a.ends.filter a.now a.system)) (fire_setup_of a.ends.setup a.now))
    (fire_monitor_of a.now a.system)) (fire_clock_of a.now a.system)
unfolding fire_filter_of fire_setup_of fire_monitor_of fire_clock_of
waits c =
    let a = c.args in
    let o1 = c.if-acts.self in
    let o2 = c.if-acts-2.self in
    let o3 = c.if-acts-3.self in
    let f1 : Iic → Stepped = fire_filter_of a.ends.filter a.now a.system in
    let f2 : Iic → Stepped = fire_setup_of a.ends.setup a.now in
    let f3 : Iic → Stepped = fire_monitor_of a.now a.system in
    let f4 : Iic → Stepped = fire_clock_of a.now a.system in
    let e1 : o1 ≡ and_then a.self f1 =
    let d = due_of a.ends.filter a.now in
    let y = filter_fires_of a.now a.system a.self.state in
    let h = c.due-filter.ensures in
    let q = c.acts.ensures in
    elim c.if-acts.branch [
      | then-acts w ↦ w.self-is ∙ w.fire_filter-self.ensures ∙ acted f1 d _ y a.self refl h (sym q ∙ w.if-acts.true)
      | else-acts w ↦ w.self-is ∙ idled f1 d _ y a.self refl h (sym q ∙ w.if-acts.false)
    ] in
    let e2 : o2 ≡ and_then o1 f2 =
    let d = due_of a.ends.setup a.now in
    let y = fine (set_setup_wait None (drive_scl true o1.state)) in
    let h = c.due-setup.ensures in
    let q = c.acts-2.ensures in
    elim c.if-acts-2.branch [
      | then-acts-2 w ↦ w.self-is ∙ w.fire_setup-self.ensures ∙ acted f2 d _ y o1 refl h (sym q ∙ w.if-acts-2.true)
      | else-acts-2 w ↦ w.self-is ∙ idled f2 d _ y o1 refl h (sym q ∙ w.if-acts-2.false)
    ] in
    let e3 : o3 ≡ and_then o2 f3 =
    let d = due_of (half_end o2.state.monitor_wait a.system) a.now in
    let y = stretch_of a.now a.system (set_monitor_wait None o2.state) in
    let h = c.due-monitor.ensures ∙ ap (λ (e : Result (Option Time) Refusal). due_after o2.answer (due_of e a.now)) c.half_end.ensures in
    let q = c.acts-3.ensures in
    elim c.if-acts-3.branch [
      | then-acts-3 w ↦ w.self-is ∙ w.fire_monitor-self.ensures ∙ acted f3 d _ y o2 refl h (sym q ∙ w.if-acts-3.true)
      | else-acts-3 w ↦ w.self-is ∙ idled f3 d _ y o2 refl h (sym q ∙ w.if-acts-3.false)
    ] in
    let e4 : c.if-acts-4.self ≡ and_then o3 f4 =
    let d = due_of (half_end o3.state.clock_wait a.system) a.now in
    let y = clock_step_of a.now a.system (set_clock_wait None o3.state) in
    let h = c.due-clock.ensures ∙ ap (λ (e : Result (Option Time) Refusal). due_after o3.answer (due_of e a.now)) c.half_end-2.ensures in
    let q = c.acts-4.ensures in
    elim c.if-acts-4.branch [
      | then-acts-4 w ↦ w.self-is ∙ w.fire_clock-self.ensures ∙ acted f4 d _ y o3 refl h (sym q ∙ w.if-acts-4.true)
      | else-acts-4 w ↦ w.self-is ∙ idled f4 d _ y o3 refl h (sym q ∙ w.if-acts-4.false)
    ] in
    e4 ∙ ap (λ (u : Stepped). and_then u f4) (e3 ∙ ap (λ (u : Stepped). and_then u f3) (e2 ∙ ap (λ (u : Stepped). and_then u f2) e1))

pub returns : goal.returns
returns c =
    let a = c.args in
    c.kick.ensures ∙ ap (λ (u : Stepped). and_then u (kick_of a.now a.system)) (waits c.before)
