-- `map::Map::wrong_line` meets its contract: each range so far is sound.
-- Assumes nothing.
use Rattle.std.proofs.Common.{ℕ, suc, ◌+◌, Some, sym, ap, ◌∙◌, add-one, drop}
use Rattle.map.specs.Map.{wrong_from}
use Rattle.map.proofs.MapLaws.{line_at, line_end, wrong_here, wrong_on, wrong_none, wrong_some, wrong_many, wrong_clear}
use Rattle.map.proofs.Map.wrong_line.Goals as goal

pub returns-then-not-is_sound : goal.returns-then-not-is_sound
returns-then-not-is_sound c =
    let l = c.loop-i in
    sym (wrong_some _ (l.i + 1) (ap (wrong_from 1) (sym c.lines-range-items.ensures.ranges) ∙ l.invariant
    ∙ wrong_here (suc l.i) _ _ _ (line_at _ l.i _ c.loop-i-test.true) (sym c.is_sound.ensures ∙ c.if-not-is_sound.true) ∙ ap Some (sym (add-one l.i))))

pub loop-i-preserved : goal.loop-i-preserved
loop-i-preserved c =
    let l = c.loop-i in
    l.invariant ∙ wrong_on (suc l.i) _ _ _ (line_at _ l.i _ c.loop-i-test.true) (sym c.is_sound.ensures ∙ c.if-not-is_sound.false)
    ∙ ap (λ (n : ℕ). wrong_from (suc n) (drop (l.i + 1) c.lines-range-items.result.now)) (sym (add-one l.i))

pub returns-then-self-gt64 : goal.returns-then-self-gt64
returns-then-self-gt64 c =
    let l = c.loop-i in
    sym (wrong_many _ (ap (wrong_from 1) (sym c.lines-range-items.ensures.ranges) ∙ l.invariant ∙ wrong_none _ _ (line_end _ l.i c.loop-i-test.false)) c.if-self-gt64.true)

pub returns-else-self-gt64 : goal.returns-else-self-gt64
returns-else-self-gt64 c =
    let l = c.loop-i in
    sym (wrong_clear _ (ap (wrong_from 1) (sym c.lines-range-items.ensures.ranges) ∙ l.invariant ∙ wrong_none _ _ (line_end _ l.i c.loop-i-test.false)) c.if-self-gt64.false)
