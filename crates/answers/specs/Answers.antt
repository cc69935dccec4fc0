-- Definitions: what is written for a line. Answer lines (document 01, "The trace player"): line number, refusal number or 0, value, levels, status
-- byte, parted by tabs and closed by a newline, the last two as after the call; a bench's have the unit after the line number. Reports (document 02, (d) and (l)): line number and report. Signals: Wave.antt.
use Rattle.std.specs.Prelude.{Result, Ok, Err, cond, List, [], ◌∷◌, ◌++◌, ℕ, ltb, Option, None, Some}
use Rattle.iic.specs.Calls.{pins_of}
use Rattle.answers.specs.declared.Value.{Value}
use Rattle.answers.specs.declared.Value.TheVariants.{Byte, Bit, Moment}
use Rattle.answers.specs.declared.Answer.{Answer}
use Rattle.answers.specs.declared.Line.{Line}
use Rattle.answers.specs.declared.Shown.{Shown}
use Rattle.answers.specs.declared.Shown.TheVariants.{Alone, Unit, Nobody}
use Rattle.answers.specs.declared.Output.{Output}
use Rattle.answers.specs.declared.Output.TheVariants.{Answers, Reports, Waves}
use Rattle.answers.specs.declared.Host.{Host}
use Rattle.answers.specs.declared.Seen.{Seen}
use Rattle.window.specs.Window.{take_of, report_of}
use Rattle.lines.specs.Numbers.{decimal_in, hex_in}
use Rattle.lines.specs.Format.{tab, dash, bit_glyph}
use Rattle.answers.specs.Wave.{began_by, wave_text}
use Rattle.bus.specs.declared.Levels.{Levels}
use Rattle.refusals.specs.Refusals.{number_ended}
use Rattle.refusals.specs.declared.Refusal.{Refusal}

-- a byte, 0 or 1, or seconds:fraction in the forms of the input
abbrev pub value_text : Option Value → List ℕ
value_text None = dash ∷ []
value_text (Some (Byte b)) = hex_in 2 b
value_text (Some (Bit b)) = bit_glyph b ∷ []
value_text (Some (Moment t)) = decimal_in 20 t.seconds ++ 58 ∷ hex_in 16 t.fraction

-- none for a refusal
abbrev pub value_in : Result (Option Value) Refusal → Option Value
value_in (Ok v) = v
value_in (Err r) = None

-- SCL, then SDA
abbrev pub levels_text : Option Levels → List ℕ
levels_text None = dash ∷ []
levels_text (Some l) = bit_glyph l.scl ∷ bit_glyph l.sda ∷ []

-- the digit of a unit after the line number, in the answers of a bench alone (document 02, (g)); `-` where the line is no unit's
abbrev pub unit_text : Shown → List ℕ
unit_text (Alone p s) = []
unit_text (Unit n p s) = tab ∷ decimal_in 1 n
unit_text Nobody = tab ∷ dash ∷ []

-- levels and status
abbrev pub state_text : Option Levels → ℕ → List ℕ
state_text p s = levels_text p ++ tab ∷ hex_in 2 s

abbrev pub shown_text : Shown → List ℕ
shown_text (Alone p s) = state_text p s
shown_text (Unit n p s) = state_text p s
shown_text Nobody = dash ∷ tab ∷ dash ∷ []

unfoldable pub answer_text : Line → List ℕ
answer_text l =
    decimal_in 20 l.number ++ (unit_text l.shown ++ tab ∷ (decimal_in 3 (number_ended l.answer) ++ tab ∷ (value_text (value_in l.answer) ++ tab ∷ (shown_text l.shown ++ 10 ∷ []))))

-- a line is written where 80 bytes are free
abbrev pub room_for : ℕ → List ℕ → List ℕ
room_for free text = cond (ltb free 80) [] text

-- the line of an answer
abbrev pub line_of : ℕ → Answer → Line
line_of number a =
    record { number = number; answer = a.answer; shown = Alone (pins_of a.host.state) a.host.state.registers.status }

-- its text
unfoldable pub text_of : ℕ → Answer → List ℕ
text_of number a = answer_text (line_of number a)

-- a line's number and the report after it
unfoldable pub report_text : ℕ → ℕ → List ℕ
report_text number report = decimal_in 20 number ++ tab ∷ (decimal_in 20 report ++ 10 ∷ [])

-- what is kept after a line: the window "takes each line's status before and after"
abbrev pub seen_by : Output → Seen → ℕ → Host → Seen
seen_by t w before h = record { window = take_of w.window before h.state.registers.status; began = began_by t w.began h.last }

-- "beside the answer lines, which stay": one of the three is written
abbrev pub text_by : Output → ℕ → Seen → Answer → List ℕ
text_by Answers number w a = text_of number a
text_by Reports number w a = report_text number (report_of w.window)
text_by Waves number w a = wave_text w.began a
