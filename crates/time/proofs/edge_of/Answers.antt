-- `time::edge_of` meets its contract: the laws of Edges.antt on whole seconds and what they leave.
-- Assumes nothing.
-- the whole seconds
-- the quick way: one word of periods, and nothing left over
use Rattle.std.proofs.Common.{◌≡◌, ℕ, ◌+◌, ◌*◌, ◌/◌, ◌^◌, ◌<◌, true, ◌&&◌, eqb, sym, ap, ◌∙◌, add-zero, zero-add, arith, eqb-true, rules}
use Rattle.time.specs.Time.{moment_of, sum_of, time_of}
use Rattle.words.specs.Words.{value_of}
use Rattle.words.specs.declared.Divided.{Divided}
use Rattle.words.specs.declared.Wide.{Wide}
use Rattle.words.specs.Laws.{quotient_of, remainder_of}
use Rattle.time.proofs.Laws.{moment_past}
use Rattle.time.specs.Truths.{and_left, and_right}
use Rattle.time.proofs.Edges.{edge_past, edge_words}
use Rattle.time.proofs.edge_of.Goals as goal
use Rattle.time.proofs.edge_of.Goals.{After-divide-whole, Start}

word : (s : Start) → s.args.part < 2 ^ 64
word s = omega arith

seconds : (d : After-divide-whole) →
    let a = d.args in
    value_of d.divide-whole.result.quotient ≡ value_of a.periods / a.numerator
seconds d =
    let a = d.args in
    ap (λ (r : Divided Wide). value_of r.quotient) d.divide-whole.ensures ∙ quotient_of (value_of a.periods) a.numerator

quick : (h l f n : ℕ) → (eqb h 0 && eqb f 0) ≡ true → l * 2 ^ 64 / n ≡ ((h * 2 ^ 64 + l) * 2 ^ 64 + f) / n
quick h l f n e =
    let z : h ≡ 0 = eqb-true h 0 (and_left (eqb h 0) (eqb f 0) e) in
    let w : f ≡ 0 = eqb-true f 0 (and_right (eqb h 0) (eqb f 0) e) in
    sym ((λ i. ((z i * 2 ^ 64 + l) * 2 ^ 64 + w i) / n) ∙ ap (λ (x : ℕ). x / n) (add-zero ((0 + l) * 2 ^ 64) ∙ ap (λ (x : ℕ). x * 2 ^ 64) (zero-add l)))

pub returns-then-periods-part : goal.returns-then-periods-part
unfolding sum_of
returns-then-periods-part c =
    let a = c.args in
    c.checked_add.ensures
    ∙ ap (λ (n : ℕ). moment_of (time_of a.start + n)) (c.scaled_quotient-since.ensures ∙ quick a.periods.high a.periods.low a.part a.numerator c.if-periods-part.true)

pub returns-then-whole-ne0 : goal.returns-then-whole-ne0
returns-then-whole-ne0 c =
    let a = c.args in
    let n = value_of a.periods in
    let t = time_of a.start in
    sym (moment_past (t + (n * 2 ^ 64 + a.part) / a.numerator) (edge_past n a.part a.numerator c.divide-whole.result.quotient.high c.divide-whole.result.quotient.low c.requires (search rules) (seconds c.before.before) t c.if-whole-ne0.true))

pub returns : goal.returns
unfolding sum_of
returns c =
    let a = c.args in
    let h = a.numerator in
    let n = value_of a.periods in
    let left = ap (λ (r : Divided Wide). r.remainder) c.divide-whole.ensures ∙ remainder_of n h c.requires in
    let rest = ap (λ (r : Divided Wide). value_of r.quotient) c.divide-rest.ensures ∙ quotient_of (c.divide-whole.result.remainder * 2 ^ 64 + a.part) h ∙ ap (λ (x : ℕ). (x * 2 ^ 64 + a.part) / h) left in
    c.checked_add-2.ensures
    ∙ ap (λ (x : ℕ). moment_of (time_of a.start + x)) (edge_words n a.part h c.divide-whole.result.quotient.high c.divide-whole.result.quotient.low c.requires (search rules) (seconds c.before.before.before.before) c.divide-rest.result.quotient.high c.divide-rest.result.quotient.low rest c.if-whole-ne0.false)
