-- Definitions: the clock set that 81 words are (compare/words/src/layout.rs says where what lies).
use Rattle.std.specs.Prelude.{◌%◌, ◌+◌, suc, zero, ℕ, eqb, get_or, Bool, not, List, [], ◌∷◌}
use Rattle.clock_calls.specs.Told.{time_at}
use Rattle.clocks.specs.declared.Clocks.{Clocks}
use Rattle.domain.specs.declared.Domain.{Domain}
use Rattle.time.specs.declared.Clock.{Clock}
use Rattle.prescaler.specs.declared.Divider.{Divider}
use Rattle.prescaler.specs.declared.Prescaler.{Prescaler}

-- a word that isn't 0 is true
abbrev pub bool_at : List ℕ → ℕ → Bool
bool_at w at = not (eqb (get_or w at 0) 0)

-- so many words, from a place on
abbrev pub words_at : ℕ → List ℕ → ℕ → List ℕ
words_at zero w at = []
words_at (suc n) w at = get_or w at 0 ∷ words_at n w (at + 1)

-- the six words of a clock, from a place on
abbrev pub clock_at : List ℕ → ℕ → Clock
clock_at w at = record {
  start = time_at w at;
  numerator = get_or w (at + 2) 0;
  denominator = get_or w (at + 3) 0;
  ordinal = get_or w (at + 4) 0;
  fraction = get_or w (at + 5) 0;
}

-- the nine words of a clock domain, from a place on
unfoldable pub domain_at : List ℕ → ℕ → Domain
domain_at w at = record { clock = clock_at w at; running = bool_at w (at + 6); held_at = time_at w (at + 7) }

-- a divider, its phase the low 16 bits of a word
abbrev pub divider_by : ℕ → ℕ → ℕ → Divider
divider_by anchor phase running = record { anchor = anchor; phase = phase % 65536; running = not (eqb running 0) }

-- the three words of a divider, from a place on
abbrev pub divider_at : List ℕ → ℕ → Divider
divider_at w at = divider_by (get_or w at 0) (get_or w (at + 1) 0) (get_or w (at + 2) 0)

-- a prescaler, from a place on: its divider, and what each of its stages emitted
unfoldable pub prescaler_at : (stages : ℕ) → List ℕ → ℕ → Prescaler stages
prescaler_at stages w at = record { divider = divider_at w at; emitted = words_at stages w (at + 3) }

-- prescaler S of 13 stages
abbrev pub prescaler_s_at : List ℕ → Prescaler 13
prescaler_s_at w = prescaler_at 13 w 54

-- prescaler W of 8 stages
abbrev pub prescaler_w_at : List ℕ → Prescaler 8
prescaler_w_at w = prescaler_at 8 w 70

-- the six domains, then the two prescalers
unfoldable pub clocks_at : List ℕ → Clocks
clocks_at w = record {
  system = domain_at w 0;
  cpu = domain_at w 9;
  watch = domain_at w 18;
  on_chip = domain_at w 27;
  oscillator = domain_at w 36;
  subclock = domain_at w 45;
  prescaler_s = prescaler_s_at w;
  prescaler_w = prescaler_w_at w;
}
