-- Definitions: what the laws on a trace in parts (`SplitLaws`) speak of. No paper has parts: document 01 speaks of whole traces.
use Rattle.std.specs.Prelude.{◌≡◌, List, [], ◌∷◌, ◌++◌, ℕ, suc, ◌+◌, ◌-◌, ◌<◌, length}
use Rattle.clocks.specs.declared.Clocks.{Clocks}
use Rattle.answers.specs.declared.Output.{Output}
use Rattle.player.specs.Trace.{Run, run}

-- the bytes of closed lines, their newlines counted
unfoldable pub spent_on : List (List ℕ) → ℕ
spent_on [] = 0
spent_on (l ∷ ls) = suc (length l) + spent_on ls

-- one run after another
abbrev pub run_then : Run → Run → Run
run_then r q = record { bytes = r.bytes ++ q.bytes; used = r.used + q.used; player = q.player; ended = q.ended }

-- a run goes on where the one before it ended
abbrev pub onward : Output → Clocks → ℕ → List (List ℕ) → Run → Run
onward t k free ys r = run_then r (run t k r.player ys (free - length r.bytes))

-- the same lines, or two first lines that are too long and the same lines after them
pub data Alike : List (List ℕ) → List (List ℕ) → Type 0 where
  same : {ls : List (List ℕ)} → Alike ls ls
  long : {l m : List ℕ} {ls : List (List ℕ)} → 64 < length l → 64 < length m → Alike (l ∷ ls) (m ∷ ls)

-- what is told of two runs
pub record Same (r q : Run) : Type 0 where
  pub bytes : r.bytes ≡ q.bytes
  pub player : r.player ≡ q.player
  pub ended : r.ended ≡ q.ended
