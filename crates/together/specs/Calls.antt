-- Definitions: the calls that a bench makes of its units, step by step (document 02, (g)). That the bench's own definition makes these is `states_after` in
-- proofs/CallLaws.antt.
use Rattle.std.specs.Prelude.{ℕ, ◌-◌, Bool, true, false, cond, not, ◌&&◌, List, leb, ltb, length, None, Some, Ok, Err}
use Rattle.clocks.specs.declared.Clocks.{Clocks}
use Rattle.time.specs.declared.Time.{Time}
use Rattle.time.specs.Time.{same_time}
use Rattle.iic.specs.declared.Iic.{Iic}
use Rattle.hosts.specs.Calls.{Call, advance, deadline, input_pins, read, set_gate, write}
use Rattle.lines.specs.declared.Verb.{Verb}
use Rattle.lines.specs.declared.Verb.TheVariants as verb
use Rattle.bench.specs.declared.Doing.{Doing}
use Rattle.bench.specs.declared.Doing.TheVariants.{Looks, Visits, Plays, Reports, Ended}
use Rattle.bench.specs.Bench.{Run, after, start}
use Rattle.script.specs.Script.{next_of}
use Rattle.bench.specs.Steps.{Judged, judged_by}
use Rattle.units.specs.Units.{is_named}
use Rattle.bench.specs.Moments.{mark_of, state_at}
use Rattle.script.specs.declared.Unplayed.TheVariants.{Unread, Early}

-- ## A run

-- the bench after so many steps of a script
abbrev pub run_at : Clocks → ℕ → ℕ → List ℕ → ℕ → Run
run_at k count room script n = after k count room n (start script)

-- what it does next
abbrev pub doing_in : Run → Doing
doing_in r = r.bench.place.doing

-- a unit's state
abbrev pub unit_in : Run → ℕ → Iic
unit_in r u = state_at r.bench u

-- what becomes of the next script line
abbrev pub line_in : ℕ → Run → Judged
line_in count r = judged_by count (next_of r.lines) r.bench.place

-- ## The call that a step makes

-- none, or one of the unit of that number
pub data Made : Type 0 where
  none : Made
  one : ℕ → Call → Made

-- "Fewer than 80 free bytes before a visit, script line or report end it with 6"
abbrev pub has_room : ℕ → Run → Bool
has_room room r = not (ltb (room - length r.bytes) 80)

-- "visits the peripherals whose deadline names it", unless it ends with 6, or with 16, "when the 65,537th visit .. would be due"
abbrev pub is_visited : Clocks → ℕ → ℕ → Run → Time → ℕ → Bool
is_visited k count room r t u =
    not (leb count u) && is_named k t (mark_of r.bench.place u) (unit_in r u) && has_room room r && not (leb 65536 r.bench.place.visits)

-- a verb of a script line, as a call
abbrev pub call_from : Time → Verb → Call
call_from t (verb.Read a) = read a t
call_from t (verb.Write a value) = write a value t
call_from t (verb.Pins scl sda) = input_pins scl sda t
call_from t (verb.Gate on) = set_gate on t
call_from t verb.Visit = advance t
call_from t verb.Deadline = deadline

-- "plays script lines of that moment"
abbrev pub line_made : Bool → Time → Judged → Made
line_made room t None = none
line_made room t (Some (Err Unread)) = none
line_made room t (Some (Err (Early u))) = none
line_made room t (Some (Ok (u, c))) = cond (same_time c.time t && room) (one u (call_from c.time c.verb)) none

-- "then reports to every peripheral"
abbrev pub made_by : Clocks → ℕ → ℕ → Run → Doing → Made
made_by k count room r (Looks present) = none
made_by k count room r (Visits t u) = cond (is_visited k count room r t u) (one u (advance t)) none
made_by k count room r (Plays t) = line_made (has_room room r) t (line_in count r)
made_by k count room r (Reports t w u) = cond (not (leb count u) && has_room room r) (one u (input_pins w.scl w.sda t)) none
made_by k count room r (Ended n) = none

unfoldable pub made : Clocks → ℕ → ℕ → Run → Made
made k count room r = made_by k count room r (doing_in r)

-- ## Deadlines

-- no line is answered 4 or 5 first
abbrev pub goes_on : Judged → Bool
goes_on None = true
goes_on (Some (Err Unread)) = false
goes_on (Some (Err (Early u))) = false
goes_on (Some (Ok (u, c))) = true

-- a step that looks for the next moment asks every unit for its deadline
abbrev pub asks_by : Bool → Doing → Bool
asks_by goes (Looks present) = goes
asks_by goes (Visits t u) = false
asks_by goes (Plays t) = false
asks_by goes (Reports t w u) = false
asks_by goes (Ended n) = false

unfoldable pub asks : ℕ → Run → Bool
asks count r = asks_by (goes_on (line_in count r)) (doing_in r)
