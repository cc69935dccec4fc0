-- `time::Clock::count` meets its contract: the closed form of the count, and the ordinal at or before the start.
-- Assumes nothing.
use Rattle.std.proofs.Common.{◌≡◌, ℕ, ◌+◌, ◌-◌, ◌*◌, ◌/◌, ◌^◌, min, sym, ap, ◌∙◌, arith, rules}
use Rattle.time.specs.Time.{time_of}
use Rattle.time.specs.declared.Time.{Time}
use Rattle.time.proofs.Laws.{time_of_from, none_before}
use Rattle.time.proofs.Edges.{edges_before_words}
use Rattle.time.proofs.Clock.count.Goals as goal

-- a sum with what was at most a word
capped : (o x w : ℕ) → min (o + min x w) w ≡ min (o + x) w
capped o x w = omega arith

pub returns-then-lt : goal.returns-then-lt
returns-then-lt c =
    let a = c.args in
    let n = time_of a.limit - time_of a.self.start in
    c.capped_sum.ensures
    ∙ ap (λ (x : ℕ). min (a.self.ordinal + x) (2 ^ 64 - 1))
    (c.periods-more.ensures
    ∙ ap (λ (t : Time). min ((time_of t * a.self.numerator - 1 - a.self.fraction) / 2 ^ 64 / a.self.denominator) (2 ^ 64 - 1)) c.since-since.ensures
    ∙ ap (λ (x : ℕ). min ((x * a.self.numerator - 1 - a.self.fraction) / 2 ^ 64 / a.self.denominator) (2 ^ 64 - 1)) (time_of_from n))
    ∙ capped a.self.ordinal ((n * a.self.numerator - 1 - a.self.fraction) / 2 ^ 64 / a.self.denominator) (2 ^ 64 - 1)
    ∙ sym (edges_before_words a.self (time_of a.limit) c.requires.0 c.requires.1 (search rules))

pub returns : goal.returns
returns c =
    let a = c.args in
    sym (none_before a.self (time_of a.limit) c.requires.0 c.requires.1 (search rules))
