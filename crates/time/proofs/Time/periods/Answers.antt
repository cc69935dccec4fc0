-- `time::Time::periods` meets its contract: the quotient is that of the two words by the denominator, unless it is more than a word.
-- Assumes nothing.
-- the two words that are divided
use Rattle.std.proofs.Common.{◌≡◌, ℕ, ◌-◌, ◌*◌, ◌/◌, ◌^◌, ◌<◌, sym, ap, ◌∙◌, div-one, arith}
use Rattle.time.specs.Time.{time_of}
use Rattle.words.specs.Words.{value_of}
use Rattle.words.specs.declared.Divided.{Divided}
use Rattle.words.specs.declared.Wide.{Wide}
use Rattle.words.specs.Laws.{quotient_of}
use Rattle.time.proofs.Edges.{capped_full, capped_part}
use Rattle.time.proofs.Time.periods.Goals as goal
use Rattle.time.proofs.Time.periods.Goals.{After-upper_of_less-scaled, Start}

abbrev scaled : Start → ℕ
scaled s = (time_of s.args.self * s.args.numerator - 1 - s.args.part) / 2 ^ 64

words : (o : After-upper_of_less-scaled) → value_of o.upper_of_less-scaled.result ≡ scaled o.before.before
words o = o.upper_of_less-scaled.ensures ∙ ap (λ (n : ℕ). (n - 1 - o.args.part) / 2 ^ 64) o.product_by.ensures

pub returns-then-denominator-scaled : goal.returns-then-denominator-scaled
returns-then-denominator-scaled c =
    capped_full (scaled c.before.before.before.before) c.args.denominator c.upper_of_less-scaled.result.high c.upper_of_less-scaled.result.low (words c.before.before) c.requires c.if-denominator-scaled.true

pub returns-then-denominator-eq1 : goal.returns-then-denominator-eq1
returns-then-denominator-eq1 c =
    let low : c.upper_of_less-scaled.result.low < 2 ^ 64 = omega arith in
    capped_part (scaled c.before.before.before.before.before) c.args.denominator c.upper_of_less-scaled.result.high c.upper_of_less-scaled.result.low (words c.before.before.before) c.requires c.upper_of_less-scaled.result.high c.upper_of_less-scaled.result.low c.if-denominator-scaled.false low (words c.before.before.before ∙ sym (ap (λ (d : ℕ). scaled c.before.before.before.before.before / d) c.if-denominator-eq1.true ∙ div-one (scaled c.before.before.before.before.before)))

pub returns : goal.returns
returns c =
    let low : c.upper_of_less-scaled.result.low < 2 ^ 64 = omega arith in
    capped_part (scaled c.before.before.before.before.before.before) c.args.denominator c.upper_of_less-scaled.result.high c.upper_of_less-scaled.result.low (words c.before.before.before.before) c.requires c.divide.result.quotient.high c.divide.result.quotient.low c.if-denominator-scaled.false low
    (ap (λ (r : Divided Wide). value_of r.quotient) c.divide.ensures ∙ quotient_of (value_of c.upper_of_less-scaled.result) c.args.denominator ∙ ap (λ (n : ℕ). n / c.args.denominator) (words c.before.before.before.before))
