-- Definitions: the line of a call, by writing it (document 01, "The trace player"). A line is well formed exactly if it is `spell c` for a
-- call c in range; `ReadingLaws` shows that the reading definition agrees, both ways.
use Rattle.std.specs.Prelude.{Bool, cond, List, [], ◌∷◌, ◌++◌, ℕ, ◌<◌, ◌^◌}
use Rattle.time.specs.declared.Time.{Time}
use Rattle.lines.specs.declared.Verb.{Verb}
use Rattle.lines.specs.declared.Verb.TheVariants.{Read, Write, Pins, Gate, Visit, Deadline}
use Rattle.lines.specs.declared.Call.{Call}
use Rattle.lines.specs.Numbers.{glyph, decimal_in, hex_in}

-- a tab parts the fields
abbrev pub tab : ℕ
tab = 9

-- no value, no levels, no unit
abbrev pub dash : ℕ
dash = 45

-- a level or a gate: 0 or 1
abbrev pub bit_glyph : Bool → ℕ
bit_glyph b = cond b 49 48

-- verbs r, w, p, g, v, d, each with its operands: an address is one digit, a byte two
abbrev pub spell_verb : Verb → List ℕ
spell_verb (Read a) = 114 ∷ tab ∷ glyph a ∷ []
spell_verb (Write a b) = 119 ∷ tab ∷ glyph a ∷ tab ∷ hex_in 2 b
spell_verb (Pins scl sda) = 112 ∷ tab ∷ bit_glyph scl ∷ tab ∷ bit_glyph sda ∷ []
spell_verb (Gate g) = 103 ∷ tab ∷ bit_glyph g ∷ []
spell_verb Visit = 118 ∷ []
spell_verb Deadline = 100 ∷ []

-- seconds and fraction (16 hexadecimal digits), each with the tab after it
abbrev pub time_text : Time → List ℕ
time_text t = decimal_in 20 t.seconds ++ tab ∷ (hex_in 16 t.fraction ++ tab ∷ [])

-- seconds, fraction, verb, operands
abbrev pub spell : Call → List ℕ
spell c = time_text c.time ++ spell_verb c.verb

-- an address is 0 to 7, a byte below 256
abbrev pub VerbInRange : Verb → Type 0
VerbInRange (Read a) = a < 8
VerbInRange (Write a b) = (a < 8) × (b < 256)
VerbInRange (Pins scl sda) = 0 < 1
VerbInRange (Gate g) = 0 < 1
VerbInRange Visit = 0 < 1
VerbInRange Deadline = 0 < 1

-- seconds 0 to 2^64 - 1, a fraction in units of 2^-64 s
pub record TimeInRange (t : Time) : Type 0 where
  pub seconds : t.seconds < 2 ^ 64
  pub fraction : t.fraction < 2 ^ 64

pub record InRange (c : Call) : Type 0 where
  pub time : TimeInRange c.time
  pub verb : VerbInRange c.verb
