-- Laws: rate sets at the limits of document 02 (f), accepted and refused 14, as one table with one fact. Assumes nothing.
use Rattle.std.specs.Prelude.{ℕ, Bool, true, false, List, [], ◌∷◌, map, ◌≡◌, refl, replicate, set}
use Rattle.rates.specs.Rates.{default_rates, lengths_hold, monitor_below, monitor_halves, period_of, rate, rates_hold}
use Rattle.rates.specs.declared.Rates.{Rates}

-- a set, and whether it is accepted
pub record Row : Type 0 where
  pub rates : Rates
  pub accepted : Bool

abbrev pub row : List ℕ → List ℕ → List ℕ → Bool → Row
row clocks monitors setups accepted = record {
  rates = record { half_clocks = clocks; monitors = monitors; setups = setups };
  accepted = accepted;
}

-- the default with one length, or all of a kind, replaced
abbrev pub clock : ℕ → ℕ → Bool → Row
clock i n accepted = row (set default_rates.half_clocks i n) default_rates.monitors default_rates.setups accepted

abbrev pub monitor : ℕ → ℕ → Bool → Row
monitor i n accepted = row default_rates.half_clocks (set default_rates.monitors i n) default_rates.setups accepted

abbrev pub setup : ℕ → ℕ → Bool → Row
setup i n accepted = row default_rates.half_clocks default_rates.monitors (set default_rates.setups i n) accepted

abbrev pub alike : ℕ → ℕ → Bool → Row
alike h m accepted = row (replicate 8 h) (replicate 4 m) default_rates.setups accepted

abbrev pub rows : List Row
rows =
    record { rates = default_rates; accepted = true }
    -- a half clock from 15 to 4096
    ∷ clock 3 4096 true ∷ clock 3 4097 false ∷ clock 7 4096 true ∷ clock 7 4097 false ∷ clock 0 14 false
    -- a monitor length from 15 to 4096, which a doubled half clock can stand above
    ∷ monitor 0 14 false ∷ alike 16 15 true ∷ alike 4096 4095 true ∷ row (replicate 8 4096) (4095 ∷ 4095 ∷ 4096 ∷ 4096 ∷ []) (10 ∷ 20 ∷ []) true
    ∷ row (replicate 8 4096) (4095 ∷ 4095 ∷ 4096 ∷ 4097 ∷ []) (10 ∷ 20 ∷ []) false
    -- a setup length from 1 to 4096
    ∷ setup 0 0 false ∷ setup 0 1 true ∷ setup 1 4096 true ∷ setup 1 4097 false
    -- a monitor length is below every half clock of its group: equal to the first, to the last, and one below
    ∷ alike 15 15 false ∷ monitor 0 27 true ∷ monitor 0 28 false ∷ clock 3 15 false ∷ clock 3 18 true ∷ monitor 1 79 true ∷ monitor 1 80 false
    -- where CKS3 is set, the half clocks are doubled
    ∷ clock 3 17 false ∷ monitor 2 55 true ∷ monitor 2 56 false ∷ monitor 3 159 true ∷ monitor 3 160 false ∷ []

-- each is accepted, or refused, as it should be
pub rows_hold : map (λ (r : Row). rates_hold r.rates) rows ≡ map (λ (r : Row). r.accepted) rows
unfolding rates_hold lengths_hold monitor_below monitor_halves period_of rate
rows_hold = refl
