-- Definitions: the shortest run of consecutive lines that draws a refusal on its last line (document 02, (h) and (i)).
use Rattle.std.specs.Prelude.{◌≡◌, cond, List, [], ◌∷◌, None, Result, Ok, Err, ℕ, zero, suc, ◌+◌, ◌-◌, ◌*◌, ◌≤◌, ◌<◌, ltb, eqb, length, take, drop}
use Rattle.clocks.specs.declared.Clocks.{Clocks}
use Rattle.answers.specs.declared.Answer.{Answer}
use Rattle.answers.specs.Calls.{answer_of}
use Rattle.answers.specs.Calls.{trace_clocks}
use Rattle.player.specs.Trace.{fresh_host}
use Rattle.refusals.specs.Refusals.{number_of, number_ended}
use Rattle.refusals.specs.declared.Refusal.{Refusal}
use Rattle.refusals.specs.declared.Refusal.TheVariants as refusal
use Rattle.search.specs.declared.Run.{Run}
use Rattle.search.specs.declared.Unfound.{Unfound}
use Rattle.search.specs.declared.Unfound.TheVariants.{LongTrace, NotDrawn}

-- 17 where there are more lines than the limit, 18 where no run draws the number
abbrev pub refusal_of : Unfound → Refusal
refusal_of LongTrace = refusal.LongTrace
refusal_of NotDrawn = refusal.NotDrawn

-- before the first line: the default state, no time, and no line has drawn anything
unfoldable pub unplayed : Answer
unplayed = record { answer = Ok None; host = fresh_host }

-- the answer to the last of some lines, played one after the other
unfoldable pub last_answer : Clocks → Answer → List (List ℕ) → Answer
last_answer k a [] = a
last_answer k a (l ∷ ls) = last_answer k (answer_of k a.host l) ls

-- what the last of some lines draws, played from the default: its refusal, or 0
unfoldable pub drawn_by : List (List ℕ) → ℕ
drawn_by ls = number_ended (last_answer trace_clocks unplayed ls).answer

-- so many consecutive lines, from a line on; the first is line 1
abbrev pub run_at : List (List ℕ) → ℕ → ℕ → List (List ℕ)
run_at ls first n = take n (drop (first - 1) ls)

-- ## What is asked

-- a run of the lines that draws the number on its last line; a line answered 0 draws none
pub record Draws (ls : List (List ℕ)) (number first n : ℕ) : Type 0 where
  pub refuses : 0 < number
  pub begins : 0 < first
  pub some : 0 < n
  pub within : first - 1 + n ≤ length ls
  pub draws : drawn_by (run_at ls first n) ≡ number

-- the shortest of these runs, and the earliest among equals
pub record Least (ls : List (List ℕ)) (number first n : ℕ) : Type 0 where
  pub is : Draws ls number first n
  pub shortest : (f m : ℕ) → Draws ls number f m → n ≤ m
  pub earliest : (f : ℕ) → Draws ls number f n → first ≤ f

-- no run draws it
abbrev pub Never : List (List ℕ) → ℕ → Type 0
Never ls number = (f m : ℕ) → Draws ls number f m → ⊥

-- what the search answers for lines, a number and a limit: 17 where there are more lines than that, then 18 where no run draws the number
abbrev pub Answers : List (List ℕ) → ℕ → ℕ → Result Run Unfound → Type 0
Answers ls number limit (Ok run) = (length ls ≤ limit) × Least ls number run.first run.length
Answers ls number limit (Err LongTrace) = (limit < length ls) × (number_of (refusal_of LongTrace) ≡ 17)
Answers ls number limit (Err NotDrawn) = (length ls ≤ limit) × Never ls number × (number_of (refusal_of NotDrawn) ≡ 18)

-- ## The same as one answer, lengths first and then first lines: `shortest_answers` in ShortestLaws.antt

-- the earliest run of n lines that draws the number, of so many from a first line on; where there is none, the answer handed in
unfoldable pub earliest_of : List (List ℕ) → ℕ → ℕ → Result Run Unfound → ℕ → ℕ → Result Run Unfound
earliest_of ls number n otherwise first zero = otherwise
earliest_of ls number n otherwise first (suc more) = cond (eqb (drawn_by (run_at ls first n)) number) (Ok (record { first = first; length = n })) (earliest_of ls number n otherwise (first + 1) more)

-- the shortest run of n lines or more, so many lengths, and the earliest of these; 18 where there is none
unfoldable pub least_of : List (List ℕ) → ℕ → ℕ → ℕ → Result Run Unfound
least_of ls number n zero = Err NotDrawn
least_of ls number n (suc more) = earliest_of ls number n (least_of ls number (n + 1) more) 1 (length ls + 1 - n)

-- 17 where there are more lines than the limit; a line answered 0 draws none
unfoldable pub shortest_of : List (List ℕ) → ℕ → ℕ → Result Run Unfound
shortest_of ls number limit = cond (ltb limit (length ls)) (Err LongTrace) (cond (eqb number 0) (Err NotDrawn) (least_of ls number 1 (length ls)))

-- in one number: a run's first line and length, at most 65535 both, or a refusal
abbrev pub one_number : Result Run Unfound → ℕ
one_number (Ok run) = run.first * 65536 + run.length
one_number (Err why) = number_of (refusal_of why)
