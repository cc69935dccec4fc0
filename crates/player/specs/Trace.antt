-- Definitions: what playing a trace gives (document 01, "The trace player", refusal 6).
use Rattle.std.specs.Prelude.{Bool, true, cond, List, [], ◌∷◌, ◌++◌, None, ℕ, suc, ◌+◌, ◌-◌, min, ltb, length, take, drop, Result, Ok, Err, ⊤}
use Rattle.refusals.specs.declared.Refusal.{Refusal}
use Rattle.refusals.specs.declared.Refusal.TheVariants.{NoRoom}
use Rattle.clocks.specs.declared.Clocks.{Clocks}
use Rattle.iic.specs.State.{default_iic}
use Rattle.answers.specs.declared.Host.{Host}
use Rattle.answers.specs.declared.Answer.{Answer}
use Rattle.answers.specs.declared.Output.{Output}
use Rattle.window.specs.Window.{empty_window}
use Rattle.player.specs.declared.Player.{Player}
use Rattle.player.specs.declared.Progress.{Progress}
use Rattle.player.specs.declared.Summary.{Summary}
use Rattle.lines.specs.Lines.{lines_in}
use Rattle.answers.specs.Calls.{answer_of, trace_clocks}
use Rattle.answers.specs.Answers.{seen_by, text_by}

abbrev pub fresh_host : Host
fresh_host = record { last = None; state = default_iic }

unfoldable pub fresh_player : Player
fresh_player = record { lines = 0; seen = record { window = empty_window; began = None }; host = fresh_host }

-- after 1,000,000 lines no more is read
abbrev pub lines_left : Player → List (List ℕ) → List (List ℕ)
lines_left p ls = take (1000000 - p.lines) ls

-- what playing lines gives: the bytes written, the bytes of the lines played with their newlines, the player after them, and whether room lacked (`NoRoom`)
pub record Run : Type 0 where
  pub bytes : List ℕ
  pub used : ℕ
  pub player : Player
  pub ended : Result ⊤ Refusal

abbrev pub stopped : Player → Result ⊤ Refusal → Run
stopped p e = record { bytes = []; used = 0; player = p; ended = e }

-- a line of that length with its text, and the run after it
abbrev pub then : ℕ → List ℕ → Run → Run
then n text r = record { bytes = text ++ r.bytes; used = suc n + r.used; player = r.player; ended = r.ended }

-- a line with its answer: line numbers count every line from 1, and the window takes its status before and after
abbrev pub answered : Output → Player → Answer → Player
answered t p a = record { lines = p.lines + 1; seen = seen_by t p.seen p.host.state.registers.status a.host; host = a.host }

-- the player after the next line
abbrev pub next_player : Output → Clocks → Player → List ℕ → Player
next_player t k p line = answered t p (answer_of k p.host line)

-- what is written for it
unfoldable pub line_text : Output → Clocks → Player → List ℕ → List ℕ
line_text t k p line = text_by t (p.lines + 1) (next_player t k p line).seen (answer_of k p.host line)

-- `NoRoom` where fewer than 80 bytes are free before a line
unfoldable pub run : Output → Clocks → Player → List (List ℕ) → ℕ → Run
run t k p [] free = stopped p (Ok tt)
run t k p (l ∷ ls) free =
    cond (ltb free 80) (stopped p (Err NoRoom)) (then (length l) (line_text t k p l) (run t k (next_player t k p l) ls (free - length (line_text t k p l))))

-- a part of a trace, from the player that the part before left; the trace ends with it or goes on
abbrev pub part_of : Output → Player → Bool → List ℕ → ℕ → Run
part_of t p ended part free = run t trace_clocks p (lines_left p (lines_in ended part)) free

-- a whole trace
unfoldable pub run_of : Output → List ℕ → ℕ → Run
run_of t trace free = part_of t fresh_player true trace free

-- the buffer after it: the lines' text from its first byte on, the rest unchanged
abbrev pub over : Run → List ℕ → List ℕ
over r before = r.bytes ++ drop (length r.bytes) before

-- a last line may lack the newline that is counted
abbrev pub progress_of : ℕ → Run → Progress
progress_of long r = record { used = min long r.used; written = length r.bytes; ended = r.ended; player = r.player }

-- bytes written, lines played, whether room lacked
abbrev pub summary_of : Run → Summary
summary_of r = record { written = length r.bytes; lines = r.player.lines; ended = r.ended }
