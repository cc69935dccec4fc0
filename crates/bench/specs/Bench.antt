-- Definitions: what playing a script on a bench gives (document 02, (g)).
use Rattle.std.specs.Prelude.{ℕ, zero, suc, ◌+◌, ◌-◌, ◌*◌, Bool, true, false, cond, ◌&&◌, List, [], ◌++◌, Option, None, Some, leb, length, take, drop, Result, Ok, Err, ⊤}
use Rattle.clocks.specs.declared.Clocks.{Clocks}
use Rattle.answers.specs.Answers.{answer_text}
use Rattle.answers.specs.declared.Line.{Line}
use Rattle.lines.specs.Lines.{lines_in}
use Rattle.bench.specs.declared.Bench.{Bench}
use Rattle.bench.specs.declared.Doing.{Doing}
use Rattle.bench.specs.declared.Doing.TheVariants.{Looks, Visits, Plays, Reports, Ended}
use Rattle.bench.specs.declared.Step.{Step}
use Rattle.bench.specs.declared.Summary.{Summary}
use Rattle.script.specs.Script.{next_of}
use Rattle.bench.specs.Steps.{goes, step_of}
use Rattle.bench.specs.Moments.{fresh_bench}
use Rattle.refusals.specs.declared.Refusal.TheVariants as refusal
use Rattle.refusals.specs.declared.Refusal.{Refusal}

-- ## A run

-- the bench, the script lines that aren't answered yet, the number of those that are, and the bytes written
pub record Run : Type 0 where
  pub bench : Bench
  pub lines : List (List ℕ)
  pub answered : ℕ
  pub bytes : List ℕ

-- at the start; limits as in the player: after 1,000,000 lines no more is read
abbrev pub start : List ℕ → Run
start script = record { bench = fresh_bench; lines = take 1000000 (lines_in true script); answered = 0; bytes = [] }

abbrev pub told_text : Option Line → List ℕ
told_text None = []
told_text (Some l) = answer_text l

-- after a step
abbrev pub with_step : Run → Step → Run
with_step r s = record {
  bench = s.bench;
  lines = cond s.answered (drop 1 r.lines) r.lines;
  answered = cond s.answered (r.answered + 1) r.answered;
  bytes = r.bytes ++ told_text s.told;
}

-- a step with so many peripherals, into a buffer of so many bytes
unfoldable pub next : Clocks → ℕ → ℕ → Run → Run
next k count room r =
    with_step r (step_of k count (room - length r.bytes) (r.answered + 1) (next_of r.lines) r.bench)

-- after some steps
unfoldable pub after : Clocks → ℕ → ℕ → ℕ → Run → Run
after k count room zero r = r
after k count room (suc n) r = after k count room n (next k count room r)

-- ## The end

abbrev pub has_ended : Doing → Bool
has_ended (Looks present) = false
has_ended (Visits t u) = false
has_ended (Plays t) = false
has_ended (Reports t w u) = false
has_ended (Ended n) = true

-- 0, 6 or 16
abbrev pub end_of : Doing → Result ⊤ Refusal
end_of (Looks present) = Ok tt
end_of (Visits t u) = Ok tt
end_of (Plays t) = Ok tt
end_of (Reports t w u) = Ok tt
end_of (Ended n) = n

-- so many steps that the bench has ended: EndLaws.antt, `it_ends`
unfoldable pub enough : List (List ℕ) → ℕ
enough lines = 16 * (65536 + length lines) + 16

abbrev pub ran : Clocks → ℕ → ℕ → Run → Run
ran k count room r = after k count room (enough r.lines) r

-- "15 when the number of peripherals isn't 1 to 4, before all else"
abbrev pub is_count : ℕ → Bool
is_count count = leb 1 count && leb count 4

-- the bench at its end, with the script lines that were answered and the bytes
unfoldable pub bench_of : Clocks → ℕ → List ℕ → ℕ → Run
bench_of k count script room =
    cond (is_count count) (ran k count room (start script))
    (record { bench = (goes (Ended (Err refusal.Peripherals)) fresh_bench).bench; lines = []; answered = 0; bytes = [] })

-- "returns bytes written, script lines answered, the states, and 0 or the refusal"
abbrev pub summary_by : Bench → ℕ → ℕ → Summary
summary_by b written lines = record {
  written = written;
  lines = lines;
  ended = end_of b.place.doing;
  states = b.states;
}

abbrev pub summary_of : Run → Summary
summary_of r = summary_by r.bench (length r.bytes) r.answered

-- the buffer after it: the lines' text from its first byte on, the rest unchanged
abbrev pub over : Run → List ℕ → List ℕ
over r before = r.bytes ++ drop (length r.bytes) before
