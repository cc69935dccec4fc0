-- Definitions: how many steps a bench has at most before it ends. No paper has it: EndLaws.antt shows by it that a bench ends on every input.
use Rattle.std.specs.Prelude.{ℕ, ◌+◌, ◌-◌, ◌*◌, Bool, true, false, cond, ◌&&◌, ◌||◌, List, leb, ltb, length, None, Some, Ok, Err}
use Rattle.clocks.specs.declared.Clocks.{Clocks}
use Rattle.time.specs.declared.Time.{Time}
use Rattle.time.specs.Time.{same_time}
use Rattle.bench.specs.declared.Bench.{Bench}
use Rattle.bench.specs.declared.Doing.{Doing}
use Rattle.bench.specs.declared.Doing.TheVariants.{Looks, Visits, Plays, Reports, Ended}
use Rattle.script.specs.Script.{next_of}
use Rattle.bench.specs.Steps.{Judged, judged_by}
use Rattle.units.specs.Units.{is_named}
use Rattle.bench.specs.Moments.{mark_of, state_at}
use Rattle.script.specs.declared.Unplayed.TheVariants.{Unread, Early}

-- the next script line is answered in the moment: it is of that moment, or refused
abbrev pub line_due : Time → Judged → Bool
line_due t None = false
line_due t (Some (Err Unread)) = true
line_due t (Some (Err (Early u))) = true
line_due t (Some (Ok (u, c))) = same_time c.time t

-- a unit is visited in the moment
abbrev pub unit_due : Clocks → ℕ → Time → Bench → ℕ → Bool
unit_due k count t b u = ltb u count && is_named k t (mark_of b.place u) (state_at b u)

-- one of those from a number on
abbrev pub due_from : (ℕ → Bool) → ℕ → Bool
due_from f u = (leb u 0 && f 0) || (leb u 1 && f 1) || (leb u 2 && f 2) || (leb u 3 && f 3)

-- Each pass over a moment visits a unit or answers a line, and has at most 16 steps beside those that do; so many visits and lines are left as
-- `most` says, each worth 16 steps. Before the first of them in a moment fewer steps are left than that, after it the others of the moment.
abbrev pub steps_by : Clocks → ℕ → Bench → Judged → ℕ → Doing → ℕ
steps_by k count b j most (Looks present) = most + 8
steps_by k count b j most (Visits t u) = most + (cond (due_from (unit_due k count t b) u || line_due t j) 3 18 + (4 - u))
steps_by k count b j most (Plays t) = most + cond (line_due t j) 2 17
steps_by k count b j most (Reports t w u) = most + (9 + (4 - u))
steps_by k count b j most (Ended n) = 0

abbrev pub most_of : Bench → List (List ℕ) → ℕ
most_of b lines = 16 * ((65536 - b.place.visits) + length lines)

unfoldable pub steps_left : Clocks → ℕ → Bench → List (List ℕ) → ℕ
steps_left k count b lines = steps_by k count b (judged_by count (next_of lines) b.place) (most_of b lines) b.place.doing
