-- Definitions: what a step of a bench does to the unit that it calls, and what is written for it (document 02, (g)).
use Rattle.std.specs.Prelude.{ℕ, ◌+◌, true, false, cond, not, Option, None, Some, eqb, leb, ltb, set, Result, Ok, Err}
use Rattle.bus.specs.declared.Levels.{Levels}
use Rattle.clocks.specs.declared.Clocks.{Clocks}
use Rattle.time.specs.declared.Time.{Time}
use Rattle.iic.specs.declared.Iic.{Iic}
use Rattle.iic.specs.Calls.{pins_of}
use Rattle.lines.specs.declared.Call.{Call}
use Rattle.answers.specs.declared.Line.{Line}
use Rattle.answers.specs.declared.Shown.{Shown}
use Rattle.answers.specs.declared.Shown.TheVariants.{Unit as OfUnit}
use Rattle.lines.specs.declared.Verb.TheVariants.{Visit, Pins}
use Rattle.answers.specs.Calls.{Outcome, outcome_of}
use Rattle.bench.specs.declared.Doing.{Doing}
use Rattle.bench.specs.declared.Doing.TheVariants.{Visits, Reports, Ended}
use Rattle.bench.specs.declared.Place.{Place}
use Rattle.bench.specs.declared.Turn.{Turn}
use Rattle.units.specs.Units.{is_named}
use Rattle.bench.specs.Moments.{mark_of}
use Rattle.refusals.specs.Refusals.{number_ended}
use Rattle.refusals.specs.declared.Refusal.TheVariants as refusal
use Rattle.refusals.specs.declared.Refusal.{Refusal}
use Rattle.answers.specs.declared.Value.{Value}

-- ## Answer lines

-- "an answer line as in the player, the unit after the line number"
abbrev pub shown_by : ℕ → Iic → Shown
shown_by u s = OfUnit u (pins_of s) s.registers.status

abbrev pub answer_by : ℕ → ℕ → Outcome → Line
answer_by number u o = record { number = number; answer = o.answer; shown = shown_by u o.state }

-- "A refused visit or report gets one with line number 0"
abbrev pub note_by : ℕ → Outcome → Option Line
note_by u o = cond (eqb (number_ended o.answer) 0) None (Some (answer_by 0 u o))

-- that of a line that isn't played
abbrev pub unplayed_by : ℕ → Refusal → Shown → Line
unplayed_by number why shown = record { number = number; answer = Err why; shown = shown }

-- ## A unit that isn't called

abbrev pub set_doing : Doing → Place → Place
set_doing d p = record { doing = d; last = p.last; visits = p.visits; refused = p.refused }

abbrev pub passed_by : Doing → Place → Iic → Turn
passed_by d p s = record { state = s; place = set_doing d p; told = None; answered = false }

-- "Fewer than 80 free bytes before a visit, script line or report end it with 6"
abbrev pub with_room : ℕ → Place → Iic → Turn → Turn
with_room free p s t = cond (ltb free 80) (passed_by (Ended (Err refusal.NoRoom)) p s) t

-- ## A visit or a report that is made: its place, and a note where it is refused

abbrev pub noted_by : ℕ → Outcome → Place → Turn
noted_by u o p = record { state = o.state; place = p; told = note_by u o; answered = false }

-- ## A visit

abbrev pub visited_place : Time → ℕ → Result (Option Value) Refusal → Place → Place
visited_place t u answer p =
    record { doing = Visits t (u + 1); last = p.last; visits = p.visits + 1; refused = set p.refused u (not (eqb (number_ended answer) 0)) }

abbrev pub visited_by : Time → ℕ → Outcome → Place → Turn
visited_by t u o p = noted_by u o (visited_place t u o.answer p)

-- "16, after 6, when the 65,537th visit, all peripherals counted together, would be due, with the state before that visit"
unfoldable pub visit_due_of : Clocks → ℕ → Time → ℕ → Place → Iic → Turn
visit_due_of k free t u p s =
    with_room free p s (cond (leb 65536 p.visits) (passed_by (Ended (Err refusal.Visits)) p s) (visited_by t u (outcome_of k t s Visit) p))

-- "visits the peripherals whose deadline names it in rising number"
unfoldable pub visit_of : Clocks → ℕ → Time → ℕ → Place → Iic → Turn
visit_of k free t u p s = cond (is_named k t (mark_of p u) s) (visit_due_of k free t u p s) (passed_by (Visits t (u + 1)) p s)

-- ## A script line

abbrev pub played_by : Time → ℕ → ℕ → Outcome → Place → Turn
played_by t number u o p = record {
  state = o.state;
  place = record { doing = p.doing; last = Some t; visits = p.visits; refused = p.refused };
  told = Some (answer_by number u o);
  answered = true;
}

unfoldable pub play_line_of : Clocks → ℕ → ℕ → ℕ → Call → Place → Iic → Turn
play_line_of k free number u c p s = with_room free p s (played_by c.time number u (outcome_of k c.time s c.verb) p)

-- ## A report

abbrev pub reported_by : Time → Levels → ℕ → Outcome → Place → Turn
reported_by t w u o p = noted_by u o (set_doing (Reports t w (u + 1)) p)

-- "then reports to every peripheral, rising too"
unfoldable pub report_of : Clocks → ℕ → Time → Levels → ℕ → Place → Iic → Turn
report_of k free t w u p s = with_room free p s (reported_by t w u (outcome_of k t s (Pins w.scl w.sda)) p)
