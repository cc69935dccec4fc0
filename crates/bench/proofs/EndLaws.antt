-- Laws: a bench ends. Each step leaves fewer steps (`step_less`), so that after `enough` of them it has ended (`it_ends`).
-- Assumes nothing.
use Prim.Native.Nat.{ℕ, zero, suc, ◌+◌, ◌-◌, ◌*◌, ◌≤◌, ◌<◌}
use Rattle.std.proofs.Math.Bool.{Bool, true, false, cond}
use Rattle.std.specs.Prelude.{◌&&◌, ◌||◌, ◌≡◌, leb, ltb, drop, get_or, set, Option, None, Some, Ok, Err, Result, ⊤}
use Rattle.std.proofs.Common.{true≢false, sym, ◌∙◌}
use Rattle.std.proofs.lemmas.Bool.{false≢true}
use mathlib.Core.List.{List, [], ◌∷◌, append-nil}
use Rattle.std.proofs.Math.Logic.{⊎_elim}
use Rattle.std.proofs.Math.Path.{refl, ap, subst}
use native.Mathlib.Omega.{arith}
use Rattle.std.proofs.Math.ListN.{length}
use borrow.Author.Tests.{leb-true, leb-false, le-ltb}
use Rattle.bus.specs.declared.Levels.{Levels}
use Rattle.clocks.specs.declared.Clocks.{Clocks}
use Rattle.time.specs.declared.Time.{Time}
use Rattle.time.specs.Time.{same_time}
use Rattle.time.specs.Truths.{by_cases, either}
use Rattle.iic.specs.declared.Iic.{Iic}
use Rattle.iic.specs.State.{default_iic}
use Rattle.answers.specs.declared.Shown.{Shown}
use Rattle.answers.specs.declared.Shown.TheVariants.{Nobody}
use Rattle.lines.specs.declared.Verb.TheVariants.{Visit}
use Rattle.lines.specs.NumberLaws.{below_or_not}
use Rattle.answers.specs.Calls.{outcome_of}
use Rattle.bench.specs.declared.Bench.{Bench}
use Rattle.bench.specs.declared.Doing.{Doing}
use Rattle.bench.specs.declared.Doing.TheVariants.{Looks, Visits, Plays, Reports, Ended}
use Rattle.bench.specs.declared.Place.{Place}
use Rattle.bench.specs.declared.Step.{Step}
use Rattle.bench.specs.declared.Turn.{Turn}
use Rattle.bench.specs.Bench.{Run, after, enough, has_ended, next, ran, start, with_step}
use Rattle.bench.specs.MomentLaws.{left, moment_due, next_from, no, none_from, same_self}
use Rattle.bench.specs.Measure.{due_from, line_due, most_of, steps_by, steps_left, unit_due}
use Rattle.script.specs.Script.{next_of}
use Rattle.bench.specs.Steps.{Judged, goes, goes_to, judged_by, look_of, play_now_of, play_of, reports_of, seek_by, seek_of, step_by, step_of, to_reports, turned, turned_away, unless_bad, unmarked, visits_of}
use Rattle.bench.specs.Turns.{passed_by, play_line_of, played_by, report_of, set_doing, shown_by, visit_due_of, visit_of, visited_by}
use Rattle.bench.specs.Moments.{fresh_bench, moment_of, mark_of, state_at}
use Rattle.units.specs.Units.{is_named, is_present}
use Rattle.script.specs.declared.Unplayed.TheVariants.{Unread, Early}
use Rattle.script.specs.Script as Script
use Rattle.lines.specs.declared.Call.{Call}
use Rattle.refusals.specs.declared.Refusal.{Refusal}
use Rattle.refusals.specs.declared.Refusal.TheVariants as refusal

-- ## Each step leaves fewer steps

-- how a line is judged depends on the last one alone
judged_same : (count : ℕ) (n : Option (Option (ℕ × Call))) (p q : Place) → p.last ≡ q.last → judged_by count n p ≡ judged_by count n q
judged_same count None p q e = refl
judged_same count (Some line) p q e = ap (λ (l : Option Time). Some (Script.judged_by count line l)) e

three : (b : Bool) → (3 ≤ cond b 3 18) × (cond b 3 18 ≤ 18)
three true = (omega arith, omega arith)
three false = (omega arith, omega arith)

two : (b : Bool) → (2 ≤ cond b 2 17) × (cond b 2 17 ≤ 17)
two true = (omega arith, omega arith)
two false = (omega arith, omega arith)

both : (b : Bool) → cond b 2 17 < cond b 3 18
both true = omega arith
both false = omega arith

-- one visit fewer is left, or one line
one : (v n : ℕ) → v < 65536 → 16 + 16 * ((65536 - (v + 1)) + n) ≡ 16 * ((65536 - v) + n)
one v n h = omega arith

spent : (x y : Bool) (m n u : ℕ) → 16 + n ≡ m → u < 4 → n + (cond x 3 18 + (4 - (u + 1))) < m + (cond y 3 18 + (4 - u))
spent x y m n u e h = omega (arith, (three x).1, (three y).0)

-- a list with its own element set
set_own : (ss : List Iic) (u : ℕ) (d : Iic) → set ss u (get_or ss u d) ≡ ss
set_own [] u d = refl
set_own (x ∷ ss) zero d = refl
set_own (x ∷ ss) (suc u) d = ap (λ (l : List Iic). x ∷ l) (set_own ss u d)

module _ (k : Clocks) (count : ℕ) (small : count ≤ 4) (free number : ℕ) (ls : List (List ℕ)) (b : Bench) where
  abbrev j : Judged
  j = judged_by count (next_of ls) b.place

  -- the steps left after one
  abbrev then : Step → ℕ
  then s = steps_left k count s.bench (cond s.answered (drop 1 ls) ls)

  ends : (n : Result ⊤ Refusal) (m : ℕ) (c : Bench) → 0 < m → then (goes (Ended n) c) < m
  unfolding steps_left
  ends n m c h = h

  -- a line that is answered was there
  fewer : (x : Judged) → j ≡ x → (x ≡ None → ⊥) → 16 + most_of b (drop 1 ls) ≡ most_of b ls
  fewer x e n = go ls e
    where
      go : (l : List (List ℕ)) → judged_by count (next_of l) b.place ≡ x → 16 + most_of b (drop 1 l) ≡ most_of b l
      go [] e = absurd (n (sym e))
      go (y ∷ l) e = sum (65536 - b.place.visits) (length l)
        where
          sum : (v n : ℕ) → 16 + 16 * (v + n) ≡ 16 * (v + suc n)
          sum v n = omega arith

  away_less : (why : Refusal) (shown : Shown) (m : ℕ) → 0 < m → steps_left k count b (drop 1 ls) < m → then (turned_away why shown number free b) < m
  unfolding turned_away
  away_less why shown m h g = either (λ (s : Step). then s < m) (ltb free 80) (ends (Err refusal.NoRoom) m b h) g

  -- going to a moment
  seek_less : (p : Option Time) (line : Result (Option Time) Refusal) → ((t : Time) → line ≡ Ok (Some t) → line_due t j ≡ true) → then (seek_of k count p line b) < most_of b ls + 8
  unfolding seek_of goes_to steps_left unmarked
  seek_less p line due = go (moment_of k count p line b) refl
    where
      there : (t : Time) (c : Bool) → is_present p t ≡ c → moment_of k count p line b ≡ Ok (Some t)
          → (due_from (unit_due k count t (left k count p t b c)) 0 || line_due t j) ≡ true
      there t c f e = ⊎_elim (λ h. ap (λ (x : Bool). x || line_due t j) h) (λ h. ap (λ (x : Bool). due_from (unit_due k count t (left k count p t b c)) 0 || x) (due t h) ∙ yes (due_from (unit_due k count t (left k count p t b c)) 0)) (moment_due k count p t line b c f e)
        where
          yes : (x : Bool) → (x || true) ≡ true
          yes true = refl
          yes false = refl

      steps : (t : Time) (c : Bool) → is_present p t ≡ c → moment_of k count p line b ≡ Ok (Some t) → steps_left k count (left k count p t b c) ls < most_of b ls + 8
      steps t true f e =
          let d : (due_from (unit_due k count t (left k count p t b true)) 0 || line_due t j) ≡ true = there t true f e in
          simp (judged_same count (next_of ls) (left k count p t b true).place b.place refl, d) (omega arith)
      steps t false f e =
          let d : (due_from (unit_due k count t (left k count p t b false)) 0 || line_due t j) ≡ true = there t false f e in
          simp (judged_same count (next_of ls) (left k count p t b false).place b.place refl, d) (omega arith)

      go : (m : Result (Option Time) Refusal) → moment_of k count p line b ≡ m → then (seek_by p b m) < most_of b ls + 8
      go (Ok None) e = ends (Ok tt) _ b (omega arith)
      go (Err n) e = ends (Ok tt) _ b (omega arith)
      go (Ok (Some t)) e = by_cases (λ (s : Step). then s < most_of b ls + 8) (is_present p t) (λ f. steps t true f e) (λ f. steps t false f e)

  -- the steps left where the doing is known
  left_by : (c : Bench) (l : List (List ℕ)) (d : Doing) → c.place.doing ≡ d → steps_left k count c l ≡ steps_by k count c (judged_by count (next_of l) c.place) (most_of c l) d
  unfolding steps_left
  left_by c l d e = ap (steps_by k count c (judged_by count (next_of l) c.place) (most_of c l)) e

  look_less : (p : Option Time) → b.place.doing ≡ Looks p → then (look_of k count free number (next_of ls) p b) < most_of b ls + 8
  unfolding look_of
  look_less p e = go j refl
    where
      less : (x : Judged) → j ≡ x → (x ≡ None → ⊥) → steps_left k count b (drop 1 ls) < most_of b ls + 8
      less x f n = let g : steps_left k count b (drop 1 ls) ≡ most_of b (drop 1 ls) + 8 = left_by b (drop 1 ls) (Looks p) e in omega (arith, g, fewer x f n)

      go : (x : Judged) → j ≡ x → then (unless_bad number free b (seek_of k count p (Ok None) b) (λ u c. seek_of k count p (Ok (Some c.time)) b) x) < most_of b ls + 8
      go None f = seek_less p (Ok None) (λ t g. absurd (let z : ◌≡◌ {A = ℕ} 0 1 = cc in omega arith))
      go (Some (Err Unread)) f = away_less refusal.Malformed Nobody _ (omega arith) (less (Some (Err Unread)) f (λ g. let z : ◌≡◌ {A = ℕ} 0 1 = cc in omega arith))
      go (Some (Err (Early u))) f = away_less refusal.NotLater (shown_by u (state_at b u)) _ (omega arith) (less (Some (Err (Early u))) f (λ g. let z : ◌≡◌ {A = ℕ} 0 1 = cc in omega arith))
      go (Some (Ok (u, c))) f = seek_less p (Ok (Some c.time)) (λ t g. ap (line_due t) f ∙ due t g)
        where
          due : (t : Time) → ◌≡◌ {A = Result (Option Time) Refusal} (Ok (Some c.time)) (Ok (Some t)) → same_time c.time t ≡ true
          due t g = let same : c.time ≡ t = cc in subst (λ (x : Time). same_time c.time x ≡ true) same (same_self c.time)

  visits_less : (t : Time) (u : ℕ) → then (visits_of k count free t u b) < most_of b ls + (cond (due_from (unit_due k count t b) u || line_due t j) 3 18 + (4 - u))
  unfolding visits_of visit_of visit_due_of steps_left
  visits_less t u =
      by_cases Less (leb count u) (λ e. all (leb-true count u e))
      (λ e. let below : u < count = leb-false count u e in
      by_cases (λ (x : Turn). Less (turned u x b)) (is_named k t (mark_of b.place u) (state_at b u))
      (λ n. either (λ (x : Turn). Less (turned u x b)) (ltb free 80) some
      (by_cases (λ (x : Turn). Less (turned u x b)) (leb 65536 b.place.visits) (λ f. some) (λ f. visited below (leb-false 65536 b.place.visits f))))
      (λ n. passed below n))
    where
      due : Bool
      due = due_from (unit_due k count t b) u || line_due t j

      Less : Step → Type 0
      Less s = then s < most_of b ls + (cond due 3 18 + (4 - u))

      some : 0 < most_of b ls + (cond due 3 18 + (4 - u))
      some = omega (arith, (three due).0)

      all : count ≤ u → Less (goes (Plays t) b)
      all h =
          let none : due_from (unit_due k count t b) u ≡ false = none_from (unit_due k count t b) u (λ v g. ap (λ (x : Bool). x && is_named k t (mark_of b.place v) (state_at b v)) (le-ltb v count (omega arith))) in
          simp (judged_same count (next_of ls) (set_doing (Plays t) b.place) b.place refl, none) (omega (arith, both (line_due t j)))

      passed : u < count → is_named k t (mark_of b.place u) (state_at b u) ≡ false → Less (turned u (passed_by (Visits t (u + 1)) b.place (state_at b u)) b)
      passed h n =
          let undue : unit_due k count t b u ≡ false = ap (λ (x : Bool). ltb u count && x) n ∙ no (ltb u count) in
          simp (set_own b.states u default_iic, judged_same count (next_of ls) (set_doing (Visits t (u + 1)) b.place) b.place refl, next_from (unit_due k count t b) u undue) (omega (arith, (three due).0))

      visited : u < count → b.place.visits < 65536 → Less (turned u (visited_by t u (outcome_of k t (state_at b u) Visit) b.place) b)
      visited h v =
          let c : Bench = (turned u (visited_by t u (outcome_of k t (state_at b u) Visit) b.place) b).bench in
          spent (due_from (unit_due k count t c) (u + 1) || line_due t (judged_by count (next_of ls) c.place)) due (most_of b ls) (most_of c ls) u (one b.place.visits (length ls) v) (omega arith)

  play_less : (t : Time) → b.place.doing ≡ Plays t → then (play_of k count free number (next_of ls) t b) < most_of b ls + cond (line_due t j) 2 17
  unfolding play_of play_now_of play_line_of steps_left
  play_less t e = go j refl
    where
      -- after a line
      fewer_left : (x : Judged) → j ≡ x → (x ≡ None → ⊥) → (c : Bench) → c.place.doing ≡ Plays t → c.place.visits ≡ b.place.visits
          → steps_left k count c (drop 1 ls) < most_of b ls + 2
      fewer_left x f n c g v =
          let due : Bool = line_due t (judged_by count (next_of (drop 1 ls)) c.place) in
          let h : steps_left k count c (drop 1 ls) ≡ most_of c (drop 1 ls) + cond due 2 17 = left_by c (drop 1 ls) (Plays t) g in
          let same : most_of c (drop 1 ls) ≡ most_of b (drop 1 ls) = ap (λ (y : ℕ). 16 * ((65536 - y) + length (drop 1 ls))) v in
          omega (arith, (two due).1, fewer x f n)

      go : (x : Judged) → j ≡ x → then (unless_bad number free b (to_reports count t b) (λ u c. play_now_of k count free number t u c b) x) < most_of b ls + cond (line_due t x) 2 17
      go None f = omega arith
      go (Some (Err Unread)) f = away_less refusal.Malformed Nobody _ (omega arith) (fewer_left (Some (Err Unread)) f (λ g. let z : ◌≡◌ {A = ℕ} 0 1 = cc in omega arith) b e refl)
      go (Some (Err (Early u))) f = away_less refusal.NotLater (shown_by u (state_at b u)) _ (omega arith) (fewer_left (Some (Err (Early u))) f (λ g. let z : ◌≡◌ {A = ℕ} 0 1 = cc in omega arith) b e refl)
      go (Some (Ok (u, c))) f = now (same_time c.time t)
        where
          played : Turn
          played = played_by c.time number u (outcome_of k c.time (state_at b u) c.verb) b.place

          now : (s : Bool) → then (cond s (turned u (play_line_of k free number u c b.place (state_at b u)) b) (to_reports count t b)) < most_of b ls + cond s 2 17
          now false = omega arith
          now true =
              either (λ (x : Turn). then (turned u x b) < most_of b ls + 2) (ltb free 80) (omega arith)
              (fewer_left (Some (Ok (u, c))) f (λ g. let z : ◌≡◌ {A = ℕ} 0 1 = cc in omega arith) (turned u played b).bench e refl)

  reports_less : (t : Time) (w : Levels) (u : ℕ) → then (reports_of k count free t w u b) < most_of b ls + (9 + (4 - u))
  unfolding reports_of report_of steps_left
  reports_less t w u =
      by_cases (λ (s : Step). then s < most_of b ls + (9 + (4 - u))) (leb count u) (λ e. omega arith)
      (λ e. let below : u < count = leb-false count u e in
      either (λ (x : Turn). then (turned u x b) < most_of b ls + (9 + (4 - u))) (ltb free 80) (omega arith) (omega arith))

  pub step_less : has_ended b.place.doing ≡ false → then (step_of k count free number (next_of ls) b) < steps_left k count b ls
  unfolding step_of
  step_less h = subst (λ (n : ℕ). then (step_of k count free number (next_of ls) b) < n) (sym (left_by b ls b.place.doing refl)) (go b.place.doing refl h)
    where
      go : (d : Doing) → b.place.doing ≡ d → has_ended d ≡ false → then (step_by k count free number (next_of ls) b d) < steps_by k count b j (most_of b ls) d
      go (Looks p) e f = look_less p e
      go (Visits t u) e f = visits_less t u
      go (Plays t) e f = play_less t e
      go (Reports t w u) e f = reports_less t w u
      go (Ended n) e f = absurd (true≢false f)

-- ## It ends

abbrev ended : Run → Bool
ended r = has_ended r.bench.place.doing

-- a step of a run
run_less : (k : Clocks) (count room : ℕ) → count ≤ 4 → (r : Run) → ended r ≡ false
    → steps_left k count (next k count room r).bench (next k count room r).lines < steps_left k count r.bench r.lines
unfolding next
run_less k count room small r h = step_less k count small (room - length r.bytes) (r.answered + 1) r.lines r.bench h

-- after the end nothing moves
pub ended_stays : (k : Clocks) (count room : ℕ) (r : Run) → ended r ≡ true → next k count room r ≡ r
unfolding next step_of
ended_stays k count room r h =
    ap (with_step r) (go r.bench.place.doing h)
    ∙ ap (λ (l : List ℕ). record { bench = r.bench; lines = r.lines; answered = r.answered; bytes = l }) (append-nil r.bytes)
  where
    go : (d : Doing) → has_ended d ≡ true → step_by k count (room - length r.bytes) (r.answered + 1) (next_of r.lines) r.bench d ≡ goes d r.bench
    go (Looks p) e = absurd (false≢true e)
    go (Visits t u) e = absurd (false≢true e)
    go (Plays t) e = absurd (false≢true e)
    go (Reports t w u) e = absurd (false≢true e)
    go (Ended n) e = refl

pub ended_after : (k : Clocks) (count room n : ℕ) (r : Run) → ended r ≡ true → after k count room n r ≡ r
unfolding after
ended_after k count room zero r h = refl
ended_after k count room (suc n) r h = ap (after k count room n) (ended_stays k count room r h) ∙ ended_after k count room n r h

ends_within : (k : Clocks) (count room : ℕ) → count ≤ 4 → (n : ℕ) (r : Run) → steps_left k count r.bench r.lines ≤ n → ended (after k count room n r) ≡ true
unfolding after
ends_within k count room small zero r h = go (ended r) refl
  where
    go : (b : Bool) → ended r ≡ b → ended r ≡ true
    go true e = e
    go false e = absurd (let l = run_less k count room small r e in omega arith)
ends_within k count room small (suc n) r h = go (ended r) refl (λ l. ends_within k count room small n (next k count room r) l)
  where
    go : (b : Bool) → ended r ≡ b → (steps_left k count (next k count room r).bench (next k count room r).lines ≤ n → ended (after k count room n (next k count room r)) ≡ true)
        → ended (after k count room n (next k count room r)) ≡ true
    go true e more = ap (λ (x : Run). ended (after k count room n x)) (ended_stays k count room r e) ∙ ap ended (ended_after k count room n r e) ∙ e
    go false e more = more (let l = run_less k count room small r e in omega arith)

fresh_within : (k : Clocks) (count : ℕ) (lines : List (List ℕ)) → steps_left k count fresh_bench lines ≤ enough lines
unfolding steps_left fresh_bench enough
fresh_within k count lines = omega arith

pub it_ends : (k : Clocks) (count room : ℕ) → count ≤ 4 → (script : List ℕ) → ended (ran k count room (start script)) ≡ true
it_ends k count room small script = ends_within k count room small (enough (start script).lines) (start script) (fresh_within k count (start script).lines)

-- ## Runs

pub after_last : (k : Clocks) (count room n : ℕ) (r : Run) → after k count room (suc n) r ≡ next k count room (after k count room n r)
unfolding after
after_last k count room zero r = refl
after_last k count room (suc n) r = after_last k count room n (next k count room r)

after_sum : (k : Clocks) (count room m n : ℕ) (r : Run) → after k count room (m + n) r ≡ after k count room n (after k count room m r)
unfolding after
after_sum k count room zero n r = ap (λ (x : ℕ). after k count room x r) (none n)
  where
    none : (n : ℕ) → 0 + n ≡ n
    none n = omega arith
after_sum k count room (suc m) n r = ap (λ (x : ℕ). after k count room x r) (more m n) ∙ after_sum k count room m n (next k count room r)
  where
    more : (m n : ℕ) → suc m + n ≡ suc (m + n)
    more m n = omega arith

-- wherever a run has ended, it is where it ends
pub ran_is : (k : Clocks) (count room : ℕ) → count ≤ 4 → (script : List ℕ) (n : ℕ) → ended (after k count room n (start script)) ≡ true
    → ran k count room (start script) ≡ after k count room n (start script)
ran_is k count room small script n h =
    ⊎_elim
    (λ l. ap (λ (x : ℕ). after k count room x (start script)) (sum n m (omega arith)) ∙ after_sum k count room n (m - n) (start script) ∙ ended_after k count room (m - n) (after k count room n (start script)) h)
    (λ l. sym (ap (λ (x : ℕ). after k count room x (start script)) (sum m n l) ∙ after_sum k count room m (n - m) (start script) ∙ ended_after k count room (n - m) (after k count room m (start script)) (it_ends k count room small script)))
    (below_or_not n m)
  where
    m : ℕ
    m = enough (start script).lines

    sum : (a b : ℕ) → a ≤ b → b ≡ a + (b - a)
    sum a b l = omega arith
