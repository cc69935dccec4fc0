-- Definitions: what a bench does, step by step (document 02, (g)). It looks for the next moment, "visits the peripherals whose deadline names it in
-- rising number, plays script lines of that moment, then reports to every peripheral, rising too". A step makes at most one call of one unit.
use Rattle.std.specs.Prelude.{ℕ, true, false, cond, [], ◌∷◌, None, Some, leb, ltb, set, Option, Result, Ok, Err}
use Rattle.bus.specs.declared.Levels.{Levels}
use Rattle.clocks.specs.declared.Clocks.{Clocks}
use Rattle.time.specs.declared.Time.{Time}
use Rattle.time.specs.Time.{same_time}
use Rattle.lines.specs.declared.Call.{Call}
use Rattle.answers.specs.declared.Shown.{Shown}
use Rattle.answers.specs.declared.Shown.TheVariants.{Nobody}
use Rattle.bench.specs.declared.Bench.{Bench}
use Rattle.bench.specs.declared.Doing.{Doing}
use Rattle.bench.specs.declared.Doing.TheVariants.{Looks, Visits, Plays, Reports, Ended}
use Rattle.bench.specs.declared.Place.{Place}
use Rattle.bench.specs.declared.Step.{Step}
use Rattle.bench.specs.declared.Turn.{Turn}
use Rattle.bench.specs.Turns.{play_line_of, report_of, set_doing, shown_by, unplayed_by, visit_of}
use Rattle.units.specs.Units.{is_present}
use Rattle.bench.specs.Moments.{moment_of, state_at, wires_of}
use Rattle.script.specs.declared.Unplayed.{Unplayed}
use Rattle.script.specs.declared.Unplayed.TheVariants.{Unread, Early}
use Rattle.script.specs.Script as Script
use Rattle.refusals.specs.declared.Refusal.{Refusal}
use Rattle.refusals.specs.declared.Refusal.TheVariants as refusal

-- ## What a step leaves

-- nothing is written, and no line answered
abbrev pub goes : Doing → Bench → Step
goes d b = record { bench = record { states = b.states; place = set_doing d b.place }; told = None; answered = false }

-- the turn of a unit; the others stay
abbrev pub turned : ℕ → Turn → Bench → Step
turned u t b = record { bench = record { states = set b.states u t.state; place = t.place }; told = t.told; answered = t.answered }

-- ## Script lines

-- what becomes of the next one: none is left, or it is the unit's call or isn't played
abbrev pub Judged : Type 0
Judged = Option (Result (ℕ × Call) Unplayed)

-- as the script says, by the time of the last line that wasn't refused 4 or 5
abbrev pub judged_by : ℕ → Option (Option (ℕ × Call)) → Place → Judged
judged_by count None p = None
judged_by count (Some line) p = Some (Script.judged_by count line p.last)

-- a line that isn't played "comes right after the line before it"; 6 where fewer than 80 bytes are free
unfoldable pub turned_away : Refusal → Shown → ℕ → ℕ → Bench → Step
turned_away why shown number free b =
    cond (ltb free 80) (goes (Ended (Err refusal.NoRoom)) b) (record { bench = b; told = Some (unplayed_by number why shown); answered = true })

-- "one refused 4 has `-` for unit, levels and status"; one refused 5 has its unit's
abbrev pub unless_bad : ℕ → ℕ → Bench → Step → (ℕ → Call → Step) → Judged → Step
unless_bad number free b none plays None = none
unless_bad number free b none plays (Some (Err Unread)) = turned_away refusal.Malformed Nobody number free b
unless_bad number free b none plays (Some (Err (Early u))) = turned_away refusal.NotLater (shown_by u (state_at b u)) number free b
unless_bad number free b none plays (Some (Ok (u, c))) = plays u c

-- ## The next moment

-- no visit was refused in a moment that the bench comes to
unfoldable pub unmarked : Bench → Bench
unmarked b = record {
  states = b.states;
  place = record { doing = b.place.doing; last = b.place.last; visits = b.place.visits; refused = false ∷ false ∷ false ∷ false ∷ [] };
}

unfoldable pub goes_to : Option Time → Time → Bench → Step
goes_to present t b = cond (is_present present t) (goes (Visits t 0) b) (goes (Visits t 0) (unmarked b))

-- "It ends when no moment is named"
abbrev pub seek_by : Option Time → Bench → Result (Option Time) Refusal → Step
seek_by present b (Ok None) = goes (Ended (Ok tt)) b
seek_by present b (Ok (Some t)) = goes_to present t b
seek_by present b (Err n) = goes (Ended (Ok tt)) b

unfoldable pub seek_of : Clocks → ℕ → Option Time → Result (Option Time) Refusal → Bench → Step
seek_of k count present line b = seek_by present b (moment_of k count present line b)

unfoldable pub look_of : Clocks → ℕ → ℕ → ℕ → Option (Option (ℕ × Call)) → Option Time → Bench → Step
look_of k count free number next present b =
    unless_bad number free b (seek_of k count present (Ok None) b) (λ u c. seek_of k count present (Ok (Some c.time)) b) (judged_by count next b.place)

-- ## Visits, script lines of the moment, reports

unfoldable pub visits_of : Clocks → ℕ → ℕ → Time → ℕ → Bench → Step
visits_of k count free t u b = cond (leb count u) (goes (Plays t) b) (turned u (visit_of k free t u b.place (state_at b u)) b)

-- the wires are those "before the first report"
abbrev pub to_reports : ℕ → Time → Bench → Step
to_reports count t b = goes (Reports t (wires_of count b) 0) b

-- a line, where it is of the moment
unfoldable pub play_now_of : Clocks → ℕ → ℕ → ℕ → Time → ℕ → Call → Bench → Step
play_now_of k count free number t u c b =
    cond (same_time c.time t) (turned u (play_line_of k free number u c b.place (state_at b u)) b) (to_reports count t b)

unfoldable pub play_of : Clocks → ℕ → ℕ → ℕ → Option (Option (ℕ × Call)) → Time → Bench → Step
play_of k count free number next t b =
    unless_bad number free b (to_reports count t b) (λ u c. play_now_of k count free number t u c b) (judged_by count next b.place)

unfoldable pub reports_of : Clocks → ℕ → ℕ → Time → Levels → ℕ → Bench → Step
reports_of k count free t w u b = cond (leb count u) (goes (Looks (Some t)) b) (turned u (report_of k free t w u b.place (state_at b u)) b)

-- ## A step

abbrev pub step_by : Clocks → ℕ → ℕ → ℕ → Option (Option (ℕ × Call)) → Bench → Doing → Step
step_by k count free number next b (Looks present) = look_of k count free number next present b
step_by k count free number next b (Visits t u) = visits_of k count free t u b
step_by k count free number next b (Plays t) = play_of k count free number next t b
step_by k count free number next b (Reports t w u) = reports_of k count free t w u b
step_by k count free number next b (Ended n) = goes (Ended n) b

-- with so many peripherals, so many free bytes, and what the script has next, under its number
unfoldable pub step_of : Clocks → ℕ → ℕ → ℕ → Option (Option (ℕ × Call)) → Bench → Step
step_of k count free number next b = step_by k count free number next b b.place.doing
