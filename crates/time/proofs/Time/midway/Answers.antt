-- `time::Time::midway` meets its contract: half of the difference is added, which never passes the later time.
-- Assumes nothing.
use Rattle.std.specs.Prelude.{Result}
use Rattle.std.specs.Result.{result_unwrap_or}
use Rattle.std.proofs.Common.{◌≡◌, ℕ, ◌+◌, ◌-◌, ◌/◌, ◌^◌, ◌<◌, refl, ap, ◌∙◌, lt_of_le_of_lt, rules}
use Rattle.refusals.specs.declared.Refusal.{Refusal}
use Rattle.time.specs.Time.{time_of, moment_of, sum_of, midway}
use Rattle.time.specs.declared.Time.{Time}
use Rattle.time.proofs.Laws.{time_from_lem, time_of_from, in_time, moment_at}
use Rattle.time.proofs.Orders.{midway_late, midway_le}
use Rattle.time.proofs.Time.midway.Goals as goal
use Rattle.time.proofs.Time.midway.Goals.{After-checked_add}

abbrev between : Time → Time → ℕ
between a b = time_of a + (time_of b - time_of a) / 2

-- the sum is that of the time and half of the difference
added : (h : After-checked_add) → h.checked_add.result ≡ moment_of (between h.args.self h.args.later)
unfolding sum_of
added h =
    let a = h.args in
    h.checked_add.ensures
    ∙ ap (λ (t : Time). moment_of (time_of a.self + time_of t)) h.half.ensures
    ∙ ap (λ (n : ℕ). moment_of (time_of a.self + n)) (time_of_from (time_of h.since-gap.result / 2))
    ∙ ap (λ (t : Time). moment_of (time_of a.self + time_of t / 2)) h.since-gap.ensures
    ∙ ap (λ (n : ℕ). moment_of (time_of a.self + n / 2)) (time_of_from (time_of a.later - time_of a.self))

pub returns-then-lt : goal.returns-then-lt
unfolding midway
returns-then-lt c =
    let a = c.args in
    time_from_lem _ a.self.seconds a.self.fraction (midway_late (time_of a.self) (time_of a.later) (search rules)) (search rules)

pub returns : goal.returns
unfolding midway
returns c =
    let a = c.args in
    let last : time_of a.later < 2 ^ 128 = in_time (time_of a.later) a.later.seconds a.later.fraction refl (search rules) (search rules) in
    let n = between a.self a.later in
    c.unwrap_or.ensures
    ∙ ap (λ (m : Result Time Refusal). result_unwrap_or m a.self) (added c.before ∙ moment_at n (lt_of_le_of_lt (midway_le (time_of a.self) (time_of a.later) (search rules)) last))
