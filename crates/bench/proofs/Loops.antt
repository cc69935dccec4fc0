-- The invariant of the loop over steps, and its turn.
-- Assumes nothing.
use Rattle.std.specs.Prelude.{None, Option}
use Prim.Native.Nat.{ℕ, suc, ◌+◌, ◌-◌, ◌≤◌, ◌<◌}
use mathlib.Core.Bool.{Bool, true, false, cond}
use mathlib.Core.List.{List, [], ◌++◌, append_assoc}
use mathlib.Core.Logic.{⊎_elim}
use mathlib.Core.Path.{◌≡◌, refl, sym, ap, ◌∙◌, subst}
use native.Mathlib.Omega.{arith}
use lib.Dec.{ltb}
use lib.ListN.{length, take, drop, length-append, length-drop, take-append-drop}
use lib.Seq.{length-take-le, drop-drop, take_at, drop_at}
use Rattle.clocks.specs.declared.Clocks.{Clocks}
use Rattle.answers.specs.Answers.{room_for}
use Rattle.lines.specs.NumberLaws.{below_or_not}
use Rattle.answers.specs.Puts.{Put}
use Rattle.answers.proofs.Puts.{put_within}
use Rattle.bench.specs.declared.Bench.{Bench}
use Rattle.bench.specs.declared.Step.{Step}
use Rattle.bench.specs.declared.cursor.Cursor.{Cursor}
use Rattle.bench.specs.Bench.{Run, after, has_ended, next, over, ran, start, summary_by, summary_of, told_text, with_step}
use Rattle.bench.proofs.EndLaws.{after_last, ran_is, step_less}
use Rattle.bench.specs.Measure.{steps_left}
use Rattle.bench.specs.Cursor.{cursor_after, cursor_at, left, next_at}
use Rattle.script.specs.Script.{next_of}
use Rattle.bench.specs.StepLaws.{full_quiet, none_answered}
use Rattle.bench.specs.Steps.{step_of}
use Rattle.bench.specs.Moments.{fresh_bench}
use Rattle.bench.proofs.Cursors.{left_after, next_over}
use Rattle.lines.specs.declared.Call.{Call}

-- the run that the loop's variables stand for
abbrev pub seen : List ℕ → List ℕ → Bench → Cursor → ℕ → Run
seen script out b c written = record { bench = b; lines = left script c.at c.lines; answered = c.lines; bytes = take written out }

pub record Going (k : Clocks) (count : ℕ) (script before out : List ℕ) (b : Bench) (c : Cursor) (written : ℕ) : Type 0 where
  pub steps : ℕ
  pub is : after k count (length before) steps (start script) ≡ seen script out b c written
  pub written_le : written ≤ length before
  pub long : length out ≡ length before
  pub rest : drop written out ≡ drop written before
  pub few : c.lines ≤ 1000000
  pub cursor : c ≡ cursor_at script c.at c.lines

pub going : (k : Clocks) (count : ℕ) (script before : List ℕ) (b : Bench) (c : Cursor) → b ≡ fresh_bench → c ≡ cursor_at script 0 0 → Going k count script before before b c 0
unfolding after fresh_bench
going k count script before b c e f =
    subst (λ (x : Bench). Going k count script before before x c 0) (sym e)
    (subst (λ (x : Cursor). Going k count script before before fresh_bench x 0) (sym f)
    (record {
      steps = 0;
      is = refl;
      written_le = omega arith;
      long = refl;
      rest = refl;
      few = omega arith;
      cursor = refl;
    }))

-- ## At the end

pub finish : {k : Clocks} {count : ℕ} {script before out : List ℕ} {b : Bench} {c : Cursor} {written : ℕ} → count ≤ 4 → Going k count script before out b c written → has_ended b.place.doing ≡ true
    → (summary_by b written c.lines ≡ summary_of (ran k count (length before) (start script))) × (out ≡ over (ran k count (length before) (start script)) before)
finish {k} {count} {script} {before} {out} {b} {c} {written} small go done =
    let all : ran k count (length before) (start script) ≡ seen script out b c written =
    ran_is k count (length before) small script go.steps (ap (λ (r : Run). has_ended r.bench.place.doing) go.is ∙ done) ∙ go.is in
    let many : length (take written out) ≡ written = length-take-le written out (omega (arith, go.long, go.written_le)) in (
      ap (λ (n : ℕ). summary_by b n c.lines) (sym many) ∙ sym (ap summary_of all),
      sym (take-append-drop written out)
          ∙ ap (λ (l : List ℕ). take written out ++ l) go.rest
          ∙ ap (λ (n : ℕ). take written out ++ drop n before) (sym many)
          ∙ sym (ap (λ (r : Run). over r before) all),
    )

-- ## A turn

module _ {k : Clocks} {count : ℕ} {script before out : List ℕ} {b : Bench} {c : Cursor} {written : ℕ} (go : Going k count script before out b c written) where
  pub many : length (take written out) ≡ written
  many = length-take-le written out (omega (arith, go.long, go.written_le))

  abbrev free : ℕ
  free = length out - written

  next_is : next_of (left script c.at c.lines) ≡ c.next
  unfolding next_at
  next_is = sym (ap (λ (x : Cursor). x.next) go.cursor)

  -- a line that is answered was there
  few_after : (s : Step) → s ≡ step_of k count free (c.lines + 1) c.next b → s.answered ≡ true → c.lines < 1000000
  few_after s e h =
      ⊎_elim (λ l. l)
      (λ l. absurd (clash (sym h ∙ ap (λ (x : Step). x.answered) e ∙ ap (λ (n : Option (Option (ℕ × Call))). (step_of k count free (c.lines + 1) n b).answered) (none l) ∙ none_answered k count free (c.lines + 1) b)))
      (below_or_not c.lines 1000000)
    where
      none : 1000000 ≤ c.lines → c.next ≡ None
      none l = ap (λ (x : Cursor). x.next) go.cursor ∙ next_over script c.at c.lines l

      clash : true ≡ false → ⊥
      clash z = omega (arith, ap {B = ℕ} (λ (t : Bool). cond t 1 0) z)

  -- what is written is all of the text
  all_text : (s : Step) → s ≡ step_of k count free (c.lines + 1) c.next b → room_for free (told_text s.told) ≡ told_text s.told
  all_text s e = by (ltb free 80) refl
    where
      by : (t : Bool) → ltb free 80 ≡ t → cond t [] (told_text s.told) ≡ told_text s.told
      by false f = refl
      by true f = sym (ap told_text (ap (λ (x : Step). x.told) e ∙ full_quiet k count free (c.lines + 1) b f c.next))

  -- the lines and their number after a step
  lines_after : (a : Bool) → cond a (drop 1 (left script c.at c.lines)) (left script c.at c.lines) ≡ left script (cursor_after a script c).at (cursor_after a script c).lines
  lines_after true = left_after script c.at c.lines
  lines_after false = refl

  count_after : (a : Bool) → cond a (c.lines + 1) c.lines ≡ (cursor_after a script c).lines
  count_after true = refl
  count_after false = refl

  cursor_after_lem : (a : Bool) → cursor_after a script c ≡ cursor_at script (cursor_after a script c).at (cursor_after a script c).lines
  cursor_after_lem true = refl
  cursor_after_lem false = go.cursor

  -- fewer steps are left
  pub less : count ≤ 4 → has_ended b.place.doing ≡ false → (s : Step) → s ≡ step_of k count free (c.lines + 1) c.next b
      → steps_left k count s.bench (left script (cursor_after s.answered script c).at (cursor_after s.answered script c).lines) < steps_left k count b (left script c.at c.lines)
  less small on s e =
      subst (λ (l : List (List ℕ)). steps_left k count s.bench l < steps_left k count b (left script c.at c.lines)) (lines_after s.answered)
      (subst (λ (x : Step). steps_left k count x.bench (cond x.answered (drop 1 (left script c.at c.lines)) (left script c.at c.lines)) < steps_left k count b (left script c.at c.lines))
      (ap (λ (n : Option (Option (ℕ × Call))). step_of k count free (c.lines + 1) n b) next_is ∙ sym e)
      (step_less k count small free (c.lines + 1) (left script c.at c.lines) b on))

  module _ (s : Step) (s-is : s ≡ step_of k count free (c.lines + 1) c.next b) (inner : List ℕ) (r : ℕ)
      (put : Put (drop written out) inner 0 r (room_for (length (drop written out)) (told_text s.told))) (same : length inner ≡ length (drop written out)) where
    abbrev text : List ℕ
    text = told_text s.told

    part_long : length (drop written out) ≡ free
    part_long = length-drop written out

    text_is : room_for (length (drop written out)) text ≡ text
    text_is = ap (λ (n : ℕ). room_for n text) part_long ∙ all_text s s-is

    inner_is : inner ≡ text ++ drop r (drop written out)
    inner_is = put.is ∙ ap (λ (l : List ℕ). l ++ drop r (drop written out)) text_is

    r_is : r ≡ length text
    r_is = put.next ∙ none (length (room_for (length (drop written out)) text)) ∙ ap length text_is
      where
        none : (n : ℕ) → 0 + n ≡ n
        none n = omega arith

    pub r_le : r ≤ free
    r_le = let w : r ≤ length (drop written out) = put_within put same in omega (arith, part_long)

    abbrev pub out_after : List ℕ
    out_after = take written out ++ inner

    apart : out_after ≡ (take written out ++ text) ++ drop r (drop written out)
    apart = ap (λ (l : List ℕ). take written out ++ l) inner_is ∙ sym (append_assoc (take written out) text (drop r (drop written out)))

    front_long : length (take written out ++ text) ≡ written + r
    front_long = length-append (take written out) text ∙ (omega (arith, many, r_is))

    step_at : next k count (length before) (seen script out b c written) ≡ with_step (seen script out b c written) s
    unfolding next
    step_at =
        ap (with_step (seen script out b c written)) (
        ap (λ (n : ℕ). step_of k count (length before - n) (c.lines + 1) (next_of (left script c.at c.lines)) b) many
        ∙ ap (λ (n : ℕ). step_of k count (n - written) (c.lines + 1) (next_of (left script c.at c.lines)) b) (sym go.long)
        ∙ ap (λ (n : Option (Option (ℕ × Call))). step_of k count free (c.lines + 1) n b) next_is
        ∙ sym s-is)

    seen_after : with_step (seen script out b c written) s ≡ seen script out_after s.bench (cursor_after s.answered script c) (written + r)
    seen_after =
        ap (λ (l : List (List ℕ)). record { bench = s.bench; lines = l; answered = cond s.answered (c.lines + 1) c.lines; bytes = take written out ++ text }) (lines_after s.answered)
        ∙ ap (λ (n : ℕ). record { bench = s.bench; lines = left script (cursor_after s.answered script c).at (cursor_after s.answered script c).lines; answered = n; bytes = take written out ++ text }) (count_after s.answered)
        ∙ ap (λ (l : List ℕ). record { bench = s.bench; lines = left script (cursor_after s.answered script c).at (cursor_after s.answered script c).lines; answered = (cursor_after s.answered script c).lines; bytes = l })
        (sym (ap (take (written + r)) apart ∙ take_at (take written out ++ text) (drop r (drop written out)) (written + r) front_long))

    few_then : (a : Bool) → s.answered ≡ a → (cursor_after a script c).lines ≤ 1000000
    few_then true e = let l : c.lines < 1000000 = few_after s s-is e in omega arith
    few_then false e = go.few

    pub turn : Going k count script before out_after s.bench (cursor_after s.answered script c) (written + r)
    turn = record {
      steps = suc go.steps;
      is = after_last k count (length before) go.steps (start script) ∙ ap (next k count (length before)) go.is ∙ step_at ∙ seen_after;
      written_le = omega (arith, r_le, go.long, go.written_le);
      long = length-append (take written out) inner ∙ (omega (arith, many, same, part_long, go.long, go.written_le));
      rest =
          ap (drop (written + r)) apart
          ∙ drop_at (take written out ++ text) (drop r (drop written out)) (written + r) front_long
          ∙ ap (drop r) go.rest
          ∙ drop-drop r written before;
      few = few_then s.answered refl;
      cursor = cursor_after_lem s.answered;
    }
