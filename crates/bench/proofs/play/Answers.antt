use Rattle.std.specs.Prelude.{Err}
use mathlib.Core.Path.{ap, ◌∙◌, refl}
use Rattle.bench.specs.declared.Bench.{Bench}
use Rattle.bench.specs.declared.Doing.TheVariants.{Ended}
use Rattle.bench.specs.declared.Step.{Step}
use Rattle.bench.specs.Bench.{bench_of, summary_by}
use Rattle.bench.specs.Steps.{goes}
use Rattle.bench.proofs.play.Goals as goal
use Rattle.refusals.specs.declared.Refusal.TheVariants as refusal

pub returns-in_default : goal.returns-in_default
unfolding bench_of
returns-in_default c =
    simp c.in_default.ensures
    (c.summarize.ensures ∙ ap (λ (b : Bench). summary_by b 0 0) (ap (λ (x : Step). x.bench) c.goes.ensures ∙ ap (λ (b : Bench). (goes (Ended (Err refusal.Peripherals)) b).bench) c.new-in_default.ensures), refl)

pub returns : goal.returns
unfolding bench_of
returns c = let e = c.in-Some.ensures in simp e.0 (rw (← e.1, ← e.2) c.run.ensures)
