-- Definitions: one of several peripherals, a unit, on a pair of wires (document 02, (g)): what the bench does to it in a pass over a moment, and what the statement on
-- two of them asks of each.
use Rattle.std.specs.Prelude.{ℕ, ◌≤◌, Bool, true, false, cond, List, [], ◌∷◌, ◌≡◌, Ok, Some}
use Rattle.bus.specs.declared.Levels.{Levels}
use Rattle.clocks.specs.declared.Clocks.{Clocks}
use Rattle.hosts.specs.Calls.{Call, is_now, outcome_of}
use Rattle.hosts.specs.Calls as call
use Rattle.iic.specs.Calls.{deadline_of}
use Rattle.iic.specs.State.{awake, default_iic}
use Rattle.iic.specs.Told.{is_refusal}
use Rattle.iic.specs.declared.Iic.{Iic}
use Rattle.time.specs.Time.{time_of}
use Rattle.time.specs.declared.Time.{Time}
use Rattle.waits.specs.Ends.{due_of}

-- ## Calls of a unit

-- the unit after a call, refused or not
abbrev pub after : Clocks → Call → Iic → Iic
after k x s = (outcome_of k x s).state

abbrev pub Answered : Clocks → Call → Iic → Type 0
Answered k x s = is_refusal (outcome_of k x s).answer ≡ false

-- enabled and gated on
abbrev pub On : Iic → Type 0
On s = awake s ≡ true

-- a script line of the unit: `r`, `w` or `g`
pub data Line : Type 0 where
  read : ℕ → Line
  write : ℕ → ℕ → Line
  gate : Bool → Line

abbrev pub call_at : Time → Line → Call
call_at now (read a) = call.read a now
call_at now (write a value) = call.write a value now
call_at now (gate on) = call.set_gate on now

-- ## A pass over a moment: what the bench does to the unit in it

-- the moment, the unit's own lines of it, and the levels that every unit is told
pub record Turn : Type 0 where
  pub moment : Time
  pub lines : List Line
  pub wires : Levels

abbrev pub turn : Time → List Line → Levels → Turn
turn m ls w = record { moment = m; lines = ls; wires = w }

-- the unit's deadline names the moment
abbrev pub named : Clocks → Time → Iic → Bool
named k now s = is_now (due_of (deadline_of s k) now)

-- it is visited where that is so
abbrev pub visited : Clocks → Time → Iic → Iic
visited k now s = cond (named k now s) (after k (call.advance now) s) s

-- its lines are played in order
abbrev pub played : Clocks → Time → List Line → Iic → Iic
played k now [] s = s
played k now (l ∷ rest) s = played k now rest (after k (call_at now l) s)

-- as it is when the levels are reported
abbrev pub untold : Clocks → Turn → Iic → Iic
untold k p s = played k p.moment p.lines (visited k p.moment s)

-- it is told the levels
abbrev pub report : Turn → Call
report p = call.input_pins p.wires.scl p.wires.sda p.moment

abbrev pub passed : Clocks → Turn → Iic → Iic
passed k p s = after k (report p) (untold k p s)

-- ## "with no call of either refused, deadlines included"

abbrev pub LinesAnswered : Clocks → Time → List Line → Iic → Type 0
LinesAnswered k now [] s = Unit {0}
LinesAnswered k now (l ∷ rest) s = Answered k (call_at now l) s × LinesAnswered k now rest (after k (call_at now l) s)

pub record Unrefused (k : Clocks) (s : Iic) (p : Turn) : Type 0 where
  pub dated : Answered k call.deadline s
  pub visit : named k p.moment s ≡ true → Answered k (call.advance p.moment) s
  pub lines : LinesAnswered k p.moment p.lines (visited k p.moment s)
  pub told : Answered k (report p) (untold k p s)

-- ## "enabled and gated on in the first moment and ever since"

-- a first pass, over any moment: the unit begins at its default, and is on when the levels are reported
pub record First (k : Clocks) (p : Turn) : Type 0 where
  pub unrefused : Unrefused k default_iic p
  pub on : On (untold k p default_iic)

-- on after each line
abbrev pub StaysOn : Clocks → Time → List Line → Iic → Type 0
StaysOn k now [] s = Unit {0}
StaysOn k now (l ∷ rest) s = On (after k (call_at now l) s) × StaysOn k now rest (after k (call_at now l) s)

-- "the earliest moment, not before the present one, that an unplayed script line or any deadline names": so not past the unit's deadline, where that isn't before
-- the present moment. The same moment can be gone over again. (That the bench doesn't go back isn't needed.)
abbrev pub NotPast : Clocks → Time → Iic → Time → Type 0
NotPast k now s m = (t : Time) → deadline_of s k ≡ Ok (Some t) → time_of now ≤ time_of t → time_of m ≤ time_of t

-- a pass after one over the moment now
pub record Next (k : Clocks) (now : Time) (s : Iic) (p : Turn) : Type 0 where
  pub chosen : NotPast k now s p.moment
  pub unrefused : Unrefused k s p
  pub on : StaysOn k p.moment p.lines (visited k p.moment s)
