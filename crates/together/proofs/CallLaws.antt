-- Laws: the states after a step of a bench are those that the call which it makes leaves, and that call by what the bench does. Assumes nothing.
use Rattle.std.specs.Prelude.{ℕ, ◌+◌, ◌-◌, ◌<◌, cond, ◌&&◌, List, ◌≡◌, leb, ltb, length, set, Option, Some, None, Ok, Err, Result}
use Rattle.std.proofs.Math.Bool.{Bool, true, false, not}
use Rattle.std.proofs.Math.Path.{refl, ap}
use Rattle.std.proofs.Common.{◌∙◌}
use Rattle.std.proofs.lemmas.List.{set-get_or}
use borrow.Author.Tests.{leb-false}
use Rattle.bus.specs.declared.Levels.{Levels}
use Rattle.clocks.specs.declared.Clocks.{Clocks}
use Rattle.time.specs.Time.{same_time}
use Rattle.time.specs.Truths.{and_left, by_cases, either, if_true, not_so}
use Rattle.time.specs.declared.Time.{Time}
use Rattle.hosts.specs.Calls.{advance, input_pins, outcome_of}
use Rattle.iic.specs.State.{default_iic}
use Rattle.iic.specs.declared.Iic.{Iic}
use Rattle.answers.specs.Calls as player
use Rattle.lines.specs.declared.Call.{Call as ScriptCall}
use Rattle.answers.specs.declared.Shown.{Shown}
use Rattle.answers.specs.declared.Shown.TheVariants.{Nobody}
use Rattle.lines.specs.declared.Verb.{Verb}
use Rattle.lines.specs.declared.Verb.TheVariants as verb
use Rattle.bench.specs.declared.Bench.{Bench}
use Rattle.bench.specs.declared.Doing.{Doing}
use Rattle.bench.specs.declared.Doing.TheVariants.{Looks, Visits, Plays, Reports, Ended}
use Rattle.bench.specs.declared.Step.{Step}
use Rattle.bench.specs.Bench.{Run, next}
use Rattle.script.specs.Script.{next_of}
use Rattle.bench.specs.Steps.{Judged, goes, goes_to, look_of, play_now_of, play_of, reports_of, seek_by, seek_of, step_by, step_of, to_reports, turned, turned_away, unless_bad, unmarked, visits_of}
use Rattle.bench.specs.Turns.{passed_by, play_line_of, played_by, report_of, reported_by, shown_by, visit_due_of, visit_of, visited_by}
use Rattle.units.specs.Units.{is_named, is_present}
use Rattle.bench.specs.Moments.{mark_of, moment_of, state_at, state_in}
use Rattle.together.specs.Calls.{Made, asks, asks_by, call_from, doing_in, goes_on, has_room, is_visited, line_in, line_made, made, made_by, none, one}
use Rattle.together.specs.UnitLaws.{playable, state_is}
use Rattle.script.specs.declared.Unplayed.TheVariants.{Unread, Early}
use Rattle.refusals.specs.declared.Refusal.{Refusal}
use Rattle.refusals.specs.declared.Refusal.TheVariants as refusal

-- ## The states after a step

-- those that a call leaves
abbrev pub states_by : Clocks → Made → List Iic → List Iic
states_by k none ss = ss
states_by k (one u x) ss = set ss u (outcome_of k x (state_in ss u)).state

abbrev pub Below : ℕ → Made → Type 0
Below count none = Unit {0}
Below count (one u x) = u < count

module _ (k : Clocks) (count room : ℕ) (r : Run) where
  abbrev b : Bench
  b = r.bench

  abbrev free : ℕ
  free = room - length r.bytes

  abbrev number : ℕ
  number = r.answered + 1

  -- a unit that isn't called
  own : (u : ℕ) → set b.states u (state_at b u) ≡ b.states
  own u = set-get_or b.states u default_iic

  -- one that is
  left : (u : ℕ) (t : Time) (v : Verb) → set b.states u (player.outcome_of k t (state_at b u) v).state ≡ states_by k (one u (call_from t v)) b.states
  left u t v = ap (set b.states u) (state_is k t (state_at b u) v)

  seek_keeps : (p : Option Time) (line : Result (Option Time) Refusal) → (seek_of k count p line b).bench.states ≡ b.states
  unfolding seek_of goes_to unmarked
  seek_keeps p line = go (moment_of k count p line b)
    where
      go : (m : Result (Option Time) Refusal) → (seek_by p b m).bench.states ≡ b.states
      go (Ok None) = refl
      go (Ok (Some t)) = either (λ (s : Step). s.bench.states ≡ b.states) (is_present p t) refl refl
      go (Err n) = refl

  away_keeps : (why : Refusal) (shown : Shown) → (turned_away why shown number free b).bench.states ≡ b.states
  unfolding turned_away
  away_keeps why shown = either (λ (s : Step). s.bench.states ≡ b.states) (ltb free 80) refl refl

  look_keeps : (p : Option Time) (j : Judged) → (unless_bad number free b (seek_of k count p (Ok None) b) (λ u c. seek_of k count p (Ok (Some c.time)) b) j).bench.states ≡ b.states
  look_keeps p None = seek_keeps p (Ok None)
  look_keeps p (Some (Err Unread)) = away_keeps refusal.Malformed Nobody
  look_keeps p (Some (Err (Early u))) = away_keeps refusal.NotLater (shown_by u (state_at b u))
  look_keeps p (Some (Ok (u, c))) = seek_keeps p (Ok (Some c.time))

  visits_made : (t : Time) (u : ℕ) → (visits_of k count free t u b).bench.states ≡ states_by k (made_by k count room r (Visits t u)) b.states
  unfolding visits_of visit_of visit_due_of
  visits_made t u = go (leb count u) (is_named k t (mark_of b.place u) (state_at b u)) (ltb free 80) (leb 65536 b.place.visits)
    where
      go : (c n f v : Bool)
          → (cond c (goes (Plays t) b)
          (turned u (cond n (cond f (passed_by (Ended (Err refusal.NoRoom)) b.place (state_at b u)) (cond v (passed_by (Ended (Err refusal.Visits)) b.place (state_at b u))
          (visited_by t u (player.outcome_of k t (state_at b u) verb.Visit) b.place))) (passed_by (Visits t (u + 1)) b.place (state_at b u))) b)).bench.states
          ≡ states_by k (cond (not c && n && not f && not v) (one u (advance t)) none) b.states
      go true n f v = refl
      go false false f v = own u
      go false true true v = own u
      go false true false true = own u
      go false true false false = left u t verb.Visit

  plays_made : (t : Time) (j : Judged) → (unless_bad number free b (to_reports count t b) (λ u c. play_now_of k count free number t u c b) j).bench.states
      ≡ states_by k (line_made (has_room room r) t j) b.states
  unfolding play_now_of play_line_of
  plays_made t None = refl
  plays_made t (Some (Err Unread)) = away_keeps refusal.Malformed Nobody
  plays_made t (Some (Err (Early u))) = away_keeps refusal.NotLater (shown_by u (state_at b u))
  plays_made t (Some (Ok (u, c))) = go (same_time c.time t) (ltb free 80)
    where
      go : (s f : Bool)
          → (cond s (turned u (cond f (passed_by (Ended (Err refusal.NoRoom)) b.place (state_at b u)) (played_by c.time number u (player.outcome_of k c.time (state_at b u) c.verb) b.place)) b)
          (to_reports count t b)).bench.states
          ≡ states_by k (cond (s && not f) (one u (call_from c.time c.verb)) none) b.states
      go false f = refl
      go true true = own u
      go true false = left u c.time c.verb

  reports_made : (t : Time) (w : Levels) (u : ℕ) → (reports_of k count free t w u b).bench.states ≡ states_by k (made_by k count room r (Reports t w u)) b.states
  unfolding reports_of report_of
  reports_made t w u = go (leb count u) (ltb free 80)
    where
      v : Verb
      v = verb.Pins w.scl w.sda

      go : (c f : Bool)
          → (cond c (goes (Looks (Some t)) b) (turned u (cond f (passed_by (Ended (Err refusal.NoRoom)) b.place (state_at b u)) (reported_by t w u (player.outcome_of k t (state_at b u) v) b.place)) b)).bench.states
          ≡ states_by k (cond (not c && not f) (one u (input_pins w.scl w.sda t)) none) b.states
      go true f = refl
      go false true = own u
      go false false = left u t v

  pub states_after : (next k count room r).bench.states ≡ states_by k (made k count room r) r.bench.states
  unfolding next step_of look_of play_of made
  states_after = go (doing_in r)
    where
      go : (d : Doing) → (step_by k count free number (next_of r.lines) b d).bench.states ≡ states_by k (made_by k count room r d) b.states
      go (Looks p) = look_keeps p (line_in count r)
      go (Visits t u) = visits_made t u
      go (Plays t) = plays_made t (line_in count r)
      go (Reports t w u) = reports_made t w u
      go (Ended n) = refl

  -- it is of a unit that the bench has
  line_below : (t : Time) (j : Judged) → line_in count r ≡ j → Below count (line_made (has_room room r) t j)
  line_below t None e = tt
  line_below t (Some (Err Unread)) e = tt
  line_below t (Some (Err (Early u))) e = tt
  line_below t (Some (Ok (u, c))) e = either (Below count) (same_time c.time t && has_room room r) (playable count u c r.lines b.place e).there tt

  pub made_below : Below count (made k count room r)
  unfolding made
  made_below = go (doing_in r)
    where
      go : (d : Doing) → Below count (made_by k count room r d)
      go (Looks p) = tt
      go (Visits t u) =
          let named : Bool = is_named k t (mark_of b.place u) (state_at b u) in
          by_cases (Below count) (is_visited k count room r t u)
          (λ e. leb-false count u (not_so (leb count u)
          (and_left (not (leb count u)) named (and_left (not (leb count u) && named) (has_room room r) (and_left (not (leb count u) && named && has_room room r) (not (leb 65536 b.place.visits)) e)))))
          (λ e. tt)
      go (Plays t) = line_below t (line_in count r) refl
      go (Reports t w u) = by_cases (Below count) (not (leb count u) && has_room room r) (λ e. leb-false count u (not_so (leb count u) (and_left (not (leb count u)) (has_room room r) e))) (λ e. tt)
      go (Ended n) = tt

  -- ## The call by what the bench does

  pub made_visit : (t : Time) (u : ℕ) → doing_in r ≡ Visits t u → leb count u ≡ false → is_named k t (mark_of b.place u) (state_at b u) ≡ true → ltb free 80 ≡ false
      → leb 65536 b.place.visits ≡ false → made k count room r ≡ one u (advance t)
  unfolding made
  made_visit t u e c n f v = ap (made_by k count room r) e ∙ if_true (is_visited k count room r t u) (one u (advance t)) none (simp (c, n, f, v))

  pub made_line : (t : Time) (u : ℕ) (c : ScriptCall) → doing_in r ≡ Plays t → line_in count r ≡ Some (Ok (u, c)) → same_time c.time t ≡ true → ltb free 80 ≡ false
      → made k count room r ≡ one u (call_from c.time c.verb)
  unfolding made
  made_line t u c e j s f =
      ap (made_by k count room r) e ∙ ap (line_made (has_room room r) t) j
      ∙ if_true (same_time c.time t && has_room room r) (one u (call_from c.time c.verb)) none (simp (s, f))

  pub made_report : (t : Time) (w : Levels) (u : ℕ) → doing_in r ≡ Reports t w u → leb count u ≡ false → ltb free 80 ≡ false
      → made k count room r ≡ one u (input_pins w.scl w.sda t)
  unfolding made
  made_report t w u e c f = ap (made_by k count room r) e ∙ if_true (not (leb count u) && has_room room r) (one u (input_pins w.scl w.sda t)) none (simp (c, f))

  pub asks_now : (p : Option Time) → doing_in r ≡ Looks p → goes_on (line_in count r) ≡ true → asks count r ≡ true
  unfolding asks
  asks_now p e g = ap (asks_by (goes_on (line_in count r))) e ∙ g
