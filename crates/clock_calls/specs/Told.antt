-- Definitions: what a call leaves in the words that are lent to it (compare/words/src/layout.rs says where what lies).
use Rattle.std.specs.Prelude.{◌+◌, ◌<◌, ℕ, zero, suc, get_or, length, cond, List, [], ◌∷◌, ◌≡◌, Bool, Err, None, Ok, Option, Result, Some, ⊤}
use Rattle.clocks.specs.Tap.{source_number}
use Rattle.clocks.specs.declared.Frequencies.{Frequencies}
use Rattle.clocks.specs.declared.tap.Tap.{Tap}
use Rattle.clocks.specs.declared.wait.ClockWait.{ClockWait}
use Rattle.clocks.specs.declared.wait.WaitState.TheVariants.{Running, Paused, Ready}
use Rattle.clocks.specs.declared.wait.WaitState.{WaitState}
use Rattle.domain.specs.declared.Domain.{Domain}
use Rattle.refusals.specs.Refusals.{number_of}
use Rattle.refusals.specs.declared.Refusal.{Refusal}
use Rattle.time.specs.declared.Clock.{Clock}
use Rattle.time.specs.declared.Time.{Time}
use Rattle.std.proofs.lemmas.List.Edits.{sets}

-- the number r of the refusal, 0 for none, stands first, and behind it fewer than n words; the rest stays as it was
pub record Written (n r : ℕ) (before after : List ℕ) : Type 0 where
  pub words : List ℕ
  pub few : length words < n
  pub is : after ≡ sets before 0 (r ∷ words)

-- and a refused call writes its number alone
pub record Told (n r : ℕ) (before after : List ℕ) : Type 0 where
  pub written : Written n r before after
  pub none : 0 < r → written.words ≡ []

-- the words of an answer: the number of its refusal alone; or 0, and the words of what is answered
abbrev pub answer_words : {A : Type 0} → (A → List ℕ) → Result A Refusal → List ℕ
answer_words words (Ok a) = 0 ∷ words a
answer_words words (Err r) = number_of r ∷ []

-- ## The words of what is answered: nine of them, what isn't used being 0; five of a wait, and none where there is nothing to tell

-- so many zeros
abbrev pub zeros : ℕ → List ℕ
zeros zero = []
zeros (suc n) = 0 ∷ zeros n

abbrev pub nothing_words : ⊤ → List ℕ
nothing_words u = []

abbrev pub count_words : ℕ → List ℕ
count_words n = n ∷ zeros 8

abbrev pub truth_words : Bool → List ℕ
truth_words b = count_words (cond b 1 0)

abbrev pub time_words : Time → List ℕ
time_words t = t.seconds ∷ t.fraction ∷ zeros 7

-- whether there is a time, then it
abbrev pub deadline_words : Option Time → List ℕ
deadline_words None = zeros 9
deadline_words (Some t) = 1 ∷ t.seconds ∷ t.fraction ∷ zeros 6

abbrev pub clock_words : Clock → List ℕ
clock_words c = c.start.seconds ∷ c.start.fraction ∷ c.numerator ∷ c.denominator ∷ c.ordinal ∷ c.fraction ∷ zeros 3

-- a clock, whether it runs, and when it was held
abbrev pub domain_words : Domain → List ℕ
domain_words d =
    let c = d.clock in
    c.start.seconds ∷ c.start.fraction ∷ c.numerator ∷ c.denominator ∷ c.ordinal ∷ c.fraction ∷ cond d.running 1 0 ∷ d.held_at.seconds ∷ d.held_at.fraction ∷ []

abbrev pub tap_words : Tap → List ℕ
tap_words t = source_number t.source ∷ t.divide ∷ zeros 7

abbrev pub frequencies_words : Frequencies → List ℕ
frequencies_words f = f.main_hz ∷ f.watch_hz ∷ f.on_chip_hz ∷ zeros 6

-- the number of the state, and what it holds
abbrev pub state_words : WaitState → List ℕ
state_words (Running target) = 0 ∷ target ∷ 0 ∷ []
state_words (Paused remaining) = 1 ∷ remaining ∷ 0 ∷ []
state_words (Ready t) = 2 ∷ t.seconds ∷ t.fraction ∷ []

-- a tap, then the state
abbrev pub wait_words : ClockWait → List ℕ
wait_words w = source_number w.tap.source ∷ w.tap.divide ∷ state_words w.state

-- ## The arguments of `Clocks::new`

-- the time at a place
abbrev pub time_at : List ℕ → ℕ → Time
time_at w at = record { seconds = get_or w at 0; fraction = get_or w (at + 1) 0 }

-- the frequencies behind the time
abbrev pub frequencies_at : List ℕ → Frequencies
frequencies_at w = record { main_hz = get_or w 2 0; watch_hz = get_or w 3 0; on_chip_hz = get_or w 4 0 }
