-- `map::checks::Spans::lowest_in_none` meets its contract: the lowest of 0 and the addresses tried so far, each after a last one, that lies in no range.
-- Assumes nothing.
use Rattle.std.proofs.Common.{ℕ, suc, sym, subst, add-one, arith}
use Rattle.map.specs.Spans.{in_none_of}
use Rattle.map.proofs.SpanLaws.{Tried, after_at, none_on, none_lowest}
use Rattle.map.proofs.checks.Spans.lowest_in_none.Goals as goal

pub loop-last-preserved : goal.loop-last-preserved
loop-last-preserved c =
    let s = c.args.self.now in
    let l = c.loop-last in
    let i = l.last-index in
    subst (λ (n : ℕ). Tried (in_none_of s.firsts s.lasts) (after_at s.lasts) (suc n) c.lower_after-least.result) (sym (add-one i))
    (subst (λ (n : ℕ). Tried (in_none_of s.firsts s.lasts) (after_at s.lasts) (suc (suc i)) n) (sym c.lower_after-least.ensures) (none_on s.firsts s.lasts i l.least l.invariant))

pub returns : goal.returns
returns c = let s = c.args.self.now in none_lowest s.firsts s.lasts _ _ (omega (arith, c.loop-last-test.false)) c.loop-last.invariant
