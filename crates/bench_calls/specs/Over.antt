-- Definitions: what of a bench is handed back, for the comparison.
use Rattle.std.specs.Prelude.{ℕ, length, List, [], ◌∷◌, ◌≡◌}
use Rattle.bench.specs.Bench.{Run, over, summary_of}
use Rattle.bench.specs.Moments.{state_at}
use Rattle.refusals.specs.Refusals.{number_ended}
use Rattle.calls.specs.States.{Begins, register_words}

-- the words of a peripheral's state begin with its registers
abbrev pub Registered : Run → ℕ → List ℕ → Type 0
Registered b u words = Begins (register_words (state_at b.bench u).registers) words

-- of a bench at its end: r is 0 or the refusal; the buffer holds the lines' text, the rest of it unchanged; the counts are the bytes written and the
-- script lines answered; then come the four states
pub record HandedBack (b : Run) (r : ℕ) (before after counts first second third fourth : List ℕ) : Type 0 where
  pub refusal : r ≡ number_ended (summary_of b).ended
  pub text : after ≡ over b before
  pub done : counts ≡ length b.bytes ∷ b.answered ∷ []
  pub unit0 : Registered b 0 first
  pub unit1 : Registered b 1 second
  pub unit2 : Registered b 2 third
  pub unit3 : Registered b 3 fourth
