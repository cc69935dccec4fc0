-- Definitions: script lines (document 02, (g)): "a trace line of verb `r`, `w` or `g` with a unit, a digit counted from 0, before the verb". By writing
-- one, and by reading it from the left; ScriptLaws.antt shows that the two agree, both ways.
use Rattle.std.specs.Prelude.{ℕ, ◌<◌, Bool, true, false, cond, not, ◌&&◌, List, [], ◌∷◌, ◌++◌, ◌≡◌, ltb, leb, eqb, length, drop, get_or, Option, None, Some, Result, Ok, Err, option_and_then}
use Rattle.time.specs.declared.Time.{Time}
use Rattle.lines.specs.declared.Call.{Call}
use Rattle.lines.specs.declared.Verb.{Verb}
use Rattle.lines.specs.declared.Verb.TheVariants.{Read, Write, Pins, Gate, Visit, Deadline}
use Rattle.lines.specs.Numbers.{glyph}
use Rattle.lines.specs.Format.{tab, time_text, spell_verb, InRange}
use Rattle.lines.specs.Lines.{may_follow}
use Rattle.lines.specs.Reading.{digit_of, timed_of, verb_of}
use Rattle.script.specs.declared.Unplayed.{Unplayed}
use Rattle.script.specs.declared.Unplayed.TheVariants.{Unread, Early}

-- the verbs of a script
unfoldable pub is_scripted : Verb → Bool
is_scripted (Read a) = true
is_scripted (Write a b) = true
is_scripted (Pins scl sda) = false
is_scripted (Gate g) = true
is_scripted Visit = false
is_scripted Deadline = false

-- ## By writing

-- a trace line, with the unit and a tab before its verb
abbrev pub spell_line : ℕ → Call → List ℕ
spell_line u c = time_text c.time ++ (glyph u ∷ tab ∷ spell_verb c.verb)

pub record LineInRange (u : ℕ) (c : Call) : Type 0 where
  pub unit : u < 10
  pub call : InRange c
  pub verb : is_scripted c.verb ≡ true

-- ## By reading

-- what follows the time: a unit, a tab, a verb with its operands
unfoldable pub called_of : Time → List ℕ → Option (ℕ × Call)
called_of t l =
    cond (ltb (length l) 2) None
    (cond (not (ltb (digit_of (get_or l 0 0)) 10 && eqb (get_or l 1 0) 9)) None
    (option_and_then (λ v. cond (is_scripted v) (Some (digit_of (get_or l 0 0), record { time = t; verb = v })) None) (verb_of (drop 2 l))))

-- what a line says
unfoldable pub line_of : List ℕ → Option (ℕ × Call)
line_of l = option_and_then (λ t. called_of t.0 (drop t.1 l)) (timed_of l)

-- what a script has next
abbrev pub next_of : List (List ℕ) → Option (Option (ℕ × Call))
next_of [] = None
next_of (l ∷ ls) = Some (line_of l)

-- ## What a line is to a bench

-- "a malformed line or a unit that the bench lacks draws 4, an earlier time 5"; by the time of the last line that wasn't refused so
unfoldable pub judged_as : ℕ → ℕ → Call → Option Time → Result (ℕ × Call) Unplayed
judged_as count u c last = cond (leb count u) (Err Unread) (cond (may_follow last c.time) (Ok (u, c)) (Err (Early u)))

unfoldable pub judged_by : ℕ → Option (ℕ × Call) → Option Time → Result (ℕ × Call) Unplayed
judged_by count None last = Err Unread
judged_by count (Some (u, c)) last = judged_as count u c last
