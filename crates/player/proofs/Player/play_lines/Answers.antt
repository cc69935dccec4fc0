-- `player::Player::play_lines` meets its contract: the invariant and its turn are those of Runs.antt.
-- Assumes nothing.
use mathlib.Core.Path.{ap, sym, ◌∙◌, subst}
use mathlib.Core.Logic.{⊎_elim}
use native.Mathlib.Omega.{arith}
use mathlib.Core.List.{List}
use Prim.Native.Nat.{ℕ, ◌+◌, ◌-◌, ◌≤◌, ◌<◌}
use lib.ListN.{length}
use Rattle.std.specs.Prelude.{Ok, Err}
use Rattle.std.specs.Iterator.Adapters.{take_count}
use Rattle.lines.specs.NumberLaws.{below_or_not}
use Rattle.refusals.specs.declared.Refusal.TheVariants.{NoRoom}
use Rattle.answers.specs.Puts.{Put}
use Rattle.answers.specs.Answers.{text_by}
use Rattle.answers.proofs.Puts.{put_as, with_room_lem}
use Rattle.lines.proofs.Tails.{tail_mid, tail_put, part_long}
use Rattle.player.proofs.Runs.{going_as, finish, no_room, again, run_none, run_over}
use Rattle.player.proofs.Player.play_lines.Goals as goal

pub returns-then-out-written-lt80 : goal.returns-then-out-written-lt80
returns-then-out-written-lt80 c =
    let v = c.loop-line in
    let g = v.invariant.0 in
    let s = c.in-Some.ensures.steps in
    finish g (Err NoRoom) (no_room g c.in-Some.line.now _ (omega (arith, s.1, v.invariant.1)) s.0 (subst (λ (n : ℕ). n - v.written < 80) g.same_long c.if-out-written-lt80.true))

pub loop-line-preserved : goal.loop-line-preserved
loop-line-preserved c =
    let w = c.write-written in
    let v = c.loop-line in
    let g = v.invariant.0 in
    let s = c.in-Some.ensures.steps in (
      going_as (sym (tail_put v.written v.out w.new.out))
          (again g c.in-Some.line.now _ (omega (arith, s.1, v.invariant.1)) s.0
          (subst (λ (n : ℕ). 80 ≤ n - v.written) g.same_long c.if-out-written-lt80.false)
          c.answer-answer.result c.answer-answer.ensures w.new.out w.result c.past-used.result c.after-seen.result c.after-seen.ensures
          (subst (λ (l : List ℕ). Put l w.new.out 0 w.result (text_by c.args.output (v.lines + 1) c.after-seen.result c.answer-answer.result)) (tail_mid v.written v.out) (put_as (with_room_lem _ _ (subst (λ (n : ℕ). 80 ≤ n) (sym (part_long v.written v.out)) c.if-out-written-lt80.false)) w.ensures))
          (w.auto.out ∙ ap length (tail_mid v.written v.out)) c.past-used.ensures),
      omega (arith, s.1, v.invariant.1),
    )

pub returns : goal.returns
returns c =
    let v = c.loop-line in
    let g = v.invariant.0 in
    finish g (Ok tt) (⊎_elim (λ lt. run_none _ _ _ _ _ (c.in-None.ensures.steps lt).0) (λ ge. run_over _ _ _ _ _ (omega (arith, v.invariant.1))) (below_or_not 0 (take_count v.line-iterator)))
