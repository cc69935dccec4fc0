-- `search::play_from` meets its contract: the lines played so far stand before those that are left, and none of them drew the number.
-- Assumes nothing.
use mathlib.Core.Path.{◌≡◌, ap, ◌∙◌, sym, subst}
use mathlib.Core.Logic.{inl, inr, ⊎_elim}
use native.Mathlib.Omega.{arith}
use Rattle.std.specs.Iterator.Adapters.{take_source, take_count}
use Rattle.lines.specs.declared.each.Lines.{Lines}
use Rattle.lines.specs.Lines.{lines_in}
use Rattle.player.specs.declared.Player.{Player}
use Rattle.player.specs.Trace.{fresh_player}
use Rattle.search.specs.Shortest.{unplayed}
use Rattle.search.proofs.ShortestLaws.{less_or}
use Rattle.search.proofs.SearchLaws.{Left, all_left, none_left, left_next, next_within, taken_next, playing, playing_on, met_none, met_here}
use Rattle.search.proofs.play_from.Goals as goal

pub loop-line-init : goal.loop-line-init
unfolding unplayed fresh_player
loop-line-init c =
    let it = c.into_iter-line-iterator in
    let t = c.take-line-items in
    let given = it.ensures.into_iter_gives in
    let source : take_source it.result ≡ c.args.lines = ap take_source given ∙ t.ensures.source in
    let count : take_count it.result ≡ c.args.most = ap take_count given ∙ t.ensures.count in (
      subst (λ (s : Lines). Left (lines_in s.ended s.rest.now) (lines_in c.args.lines.ended c.args.lines.rest.now) 0) (sym source) (all_left _),
      playing _ _ _ (ap (λ (p : Player). p.host) c.new.ensures),
      omega (arith, count),
    )

pub returns-then-number_ended-number : goal.returns-then-number_ended-number
returns-then-number_ended-number c =
    let v = c.loop-line in
    let s = c.in-Some in
    let a = c.answer-answer in
    let next = s.ensures.steps.0 in
    let within = next_within v.invariant.0 s.line.now _ next in
    (met_here v.invariant.1 s.line.now a.result a.ensures (taken_next v.invariant.0 s.line.now _ next) _ (omega (arith, s.ensures.steps.1)) within (sym c.number_ended.ensures ∙ c.if-number_ended-number.true), omega arith)

pub loop-line-preserved : goal.loop-line-preserved
loop-line-preserved c =
    let v = c.loop-line in
    let s = c.in-Some in
    let a = c.answer-answer in
    let next = s.ensures.steps.0 in (
      left_next v.invariant.0 s.line.now _ next,
      playing_on v.invariant.1 s.line.now a.result a.ensures (taken_next v.invariant.0 s.line.now _ next) (λ e. c.if-number_ended-number.false (c.number_ended.ensures ∙ e)),
      omega (arith, s.ensures.steps.1),
    )

pub returns : goal.returns
returns c =
    let v = c.loop-line in
    let end = ⊎_elim (λ lt. inr (none_left v.invariant.0 (c.in-None.ensures.steps lt).0)) (λ ge. inl (omega arith)) (less_or 0 (take_count v.line-iterator)) in
    (met_none v.invariant.1 _ end, v.invariant.0.n_le)
