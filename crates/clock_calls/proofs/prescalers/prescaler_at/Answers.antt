use Rattle.std.proofs.Common.{arith, ap, drop, take, ◌∙◌, ◌+◌, ◌-◌, ◌≡◌}
use Rattle.clock_calls.specs.Sets.{prescaler_at}
use Rattle.clock_calls.proofs.Told.{words_from_part}
use Rattle.clock_calls.proofs.prescalers.prescaler_at.Goals as goal

pub returns : goal.returns
unfolding prescaler_at
returns g c =
    let a = c.args in
    let n = g.row.STAGES in
    let many : a.at + 3 + n - (a.at + 3) ≡ n = omega arith in
    let emitted = c.copy_from_slice.ensures.after ∙ ap (λ k. take k (drop (a.at + 3) a.words.now)) many ∙ words_from_part n a.words.now (a.at + 3) c.requires in
    simp (c.divider_of.ensures, emitted)
