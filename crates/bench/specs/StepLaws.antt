-- Laws: a step writes nothing where fewer than 80 bytes are free, and answers no line where the script has none.
-- Assumes nothing.
use Rattle.std.specs.Prelude.{ℕ, true, ◌≡◌, None, leb, ltb, Option, Some, Ok, Err, Result}
use Rattle.std.proofs.Math.Bool.{false}
use Rattle.std.proofs.Math.Path.{refl}
use Rattle.clocks.specs.declared.Clocks.{Clocks}
use Rattle.time.specs.Time.{same_time}
use Rattle.time.specs.Truths.{either}
use Rattle.lines.specs.declared.Call.{Call}
use Rattle.answers.specs.declared.Shown.{Shown}
use Rattle.answers.specs.declared.Shown.TheVariants.{Nobody}
use Rattle.bench.specs.declared.Bench.{Bench}
use Rattle.bench.specs.declared.Doing.{Doing}
use Rattle.bench.specs.declared.Doing.TheVariants.{Looks, Visits, Plays, Reports, Ended}
use Rattle.bench.specs.declared.Step.{Step}
use Rattle.bench.specs.declared.Turn.{Turn}
use Rattle.bench.specs.Steps.{Judged, goes_to, judged_by, look_of, play_now_of, play_of, reports_of, seek_by, seek_of, step_by, step_of, to_reports, turned, turned_away, unless_bad, visits_of}
use Rattle.bench.specs.Turns.{play_line_of, report_of, shown_by, visit_due_of, visit_of}
use Rattle.units.specs.Units.{is_named, is_present}
use Rattle.bench.specs.Moments.{mark_of, moment_of, state_at}
use Rattle.time.specs.declared.Time.{Time}
use Rattle.script.specs.declared.Unplayed.TheVariants.{Unread, Early}
use Rattle.refusals.specs.declared.Refusal.{Refusal}
use Rattle.refusals.specs.declared.Refusal.TheVariants as refusal

module _ (k : Clocks) (count free number : ℕ) (b : Bench) where
  -- going to a moment
  seek_quiet : (p : Option Time) (line : Result (Option Time) Refusal) → ((seek_of k count p line b).told ≡ None) × ((seek_of k count p line b).answered ≡ false)
  unfolding seek_of goes_to
  seek_quiet p line = go (moment_of k count p line b)
    where
      go : (m : Result (Option Time) Refusal) → ((seek_by p b m).told ≡ None) × ((seek_by p b m).answered ≡ false)
      go (Ok None) = (refl, refl)
      go (Ok (Some t)) = either (λ (s : Step). (s.told ≡ None) × (s.answered ≡ false)) (is_present p t) (refl, refl) (refl, refl)
      go (Err n) = (refl, refl)

  module _ (full : ltb free 80 ≡ true) where
    away_quiet : (why : Refusal) (shown : Shown) → (turned_away why shown number free b).told ≡ None
    unfolding turned_away
    away_quiet why shown = rw full refl

    pub full_quiet : (n : Option (Option (ℕ × Call))) → (step_of k count free number n b).told ≡ None
    unfolding step_of look_of visits_of visit_of visit_due_of play_of play_now_of play_line_of reports_of report_of
    full_quiet n = go b.place.doing
      where
        Quiet : Step → Type 0
        Quiet s = s.told ≡ None

        lines : (none : Step) (plays : ℕ → Call → Step) → Quiet none → ((u : ℕ) (c : Call) → Quiet (plays u c)) → (j : Judged) → Quiet (unless_bad number free b none plays j)
        lines none plays h g None = h
        lines none plays h g (Some (Err Unread)) = away_quiet refusal.Malformed Nobody
        lines none plays h g (Some (Err (Early u))) = away_quiet refusal.NotLater (shown_by u (state_at b u))
        lines none plays h g (Some (Ok (u, c))) = g u c

        go : (d : Doing) → Quiet (step_by k count free number n b d)
        go (Looks p) = lines (seek_of k count p (Ok None) b) (λ u c. seek_of k count p (Ok (Some c.time)) b) (seek_quiet p (Ok None)).0 (λ u c. (seek_quiet p (Ok (Some c.time))).0) (judged_by count n b.place)
        go (Visits t u) = either Quiet (leb count u) refl (either (λ (x : Turn). Quiet (turned u x b)) (is_named k t (mark_of b.place u) (state_at b u)) (rw full refl) refl)
        go (Plays t) =
            lines (to_reports count t b) (λ u c. play_now_of k count free number t u c b) refl
            (λ u c. either Quiet (same_time c.time t) (rw full refl) refl) (judged_by count n b.place)
        go (Reports t w u) = either Quiet (leb count u) refl (rw full refl)
        go (Ended m) = refl

  -- no line
  pub none_answered : (step_of k count free number None b).answered ≡ false
  unfolding step_of look_of visits_of visit_of visit_due_of play_of reports_of report_of
  none_answered = go b.place.doing
    where
      go : (d : Doing) → (step_by k count free number None b d).answered ≡ false
      go (Looks p) = (seek_quiet p (Ok None)).1
      go (Visits t u) =
          either (λ (s : Step). s.answered ≡ false) (leb count u) refl
          (either (λ (x : Turn). x.answered ≡ false) (is_named k t (mark_of b.place u) (state_at b u))
          (either (λ (x : Turn). x.answered ≡ false) (ltb free 80) refl (either (λ (x : Turn). x.answered ≡ false) (leb 65536 b.place.visits) refl refl)) refl)
      go (Plays t) = refl
      go (Reports t w u) = either (λ (s : Step). s.answered ≡ false) (leb count u) refl (either (λ (x : Turn). x.answered ≡ false) (ltb free 80) refl refl)
      go (Ended m) = refl
