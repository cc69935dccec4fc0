-- `time::Time::checked_add` meets its contract: the laws of Sums.antt, at the sums of the words.
-- Assumes nothing.
use Rattle.std.proofs.Common.{ℕ, ◌+◌, ◌^◌, ◌<◌, ◌≤◌, sym, ap, ◌∙◌, arith, rules}
use Rattle.time.specs.Time.{time_of, sum_of}
use Rattle.std.specs.Prelude.{Ok}
use Rattle.time.proofs.Laws.{time_from_lem, in_time, moment_at, moment_past}
use Rattle.time.proofs.Sums.{carry_le, sum_past, sum_words}
use Rattle.time.proofs.Time.checked_add.Goals as goal
use Rattle.time.proofs.Time.checked_add.Goals.{After-sum-high, After-sum-top}

high_le : (s : After-sum-high) → s.sum-high.result.high ≤ 1
high_le s = carry_le _ _ _ _ s.sum-high.ensures (omega arith) (omega arith)

top_le : (s : After-sum-top) → s.sum-top.result.high ≤ 1
top_le s = carry_le _ _ _ _ s.sum-top.ensures (search rules) (search rules)

few : {h t : ℕ} → h ≤ 1 → t ≤ 1 → h + t < 2 ^ 64
few f g = omega arith

pub overflow_add-high : goal.overflow_add-high
overflow_add-high c =
    let h = high_le c.before.before.before in
    let t = top_le c.before.before in
    record { fits = few (search rules) (search rules) }

pub returns-then-high-top-ne0 : goal.returns-then-high-top-ne0
unfolding sum_of
returns-then-high-top-ne0 c =
    let a = c.args in
    sym (moment_past (time_of a.self + time_of a.by) (sum_past a.self.seconds a.self.fraction a.by.seconds a.by.fraction c.sum-low.result.high c.sum-low.result.low c.sum-high.result.high c.sum-high.result.low c.sum-top.result.high c.sum-top.result.low c.sum-low.ensures c.sum-high.ensures c.sum-top.ensures c.if-high-top-ne0.true))

pub returns : goal.returns
unfolding sum_of
returns c =
    let a = c.args in
    let n = time_of a.self + time_of a.by in
    let high = c.sum-top.type_inv.1.1.1.0.1 in
    let low = c.sum-low.type_inv.1.1.1.0.1 in
    let e = sum_words a.self.seconds a.self.fraction a.by.seconds a.by.fraction c.sum-low.result.high c.sum-low.result.low c.sum-high.result.high c.sum-high.result.low c.sum-top.result.high c.sum-top.result.low c.sum-low.ensures c.sum-high.ensures c.sum-top.ensures c.if-high-top-ne0.false in
    ap Ok (time_from_lem n _ _ e low) ∙ sym (moment_at n (in_time n _ _ e high low))
