-- Definitions: the lengths of the waits, by CKS, bits 0 to 3 of ICCR1 (document 01, Registers and steps; the manual's table of transfer rates), out of
-- a rate set, and which sets are refused (document 02, (f)). Numbers in brackets are lines of iic.rs.
use Rattle.std.specs.Prelude.{ℕ, zero, suc, ◌+◌, ◌*◌, ◌/◌, Bool, true, ◌&&◌, cond, List, [], ◌∷◌, eqb, leb, ltb, get_or}
use Rattle.std.specs.Int.Bits.{bit_and}
use Rattle.bus.specs.Bits.{has}
use Rattle.rates.specs.declared.Rates.{Rates}

-- CKS is bits 3 to 0 of ICCR1; this is bit 3
abbrev pub CKS3 : ℕ
CKS3 = 8

-- document 01: a half clock, in half counts by ICCR1's CKS2 to CKS0 (181); the monitor wait, in half counts by CKS3 and CKS2 (881); a slave's setup
-- wait, in clocks by CKS3 (777)
abbrev pub default_rates : Rates
default_rates = record {
  half_clocks = 28 ∷ 40 ∷ 48 ∷ 64 ∷ 80 ∷ 100 ∷ 112 ∷ 128 ∷ [];
  monitors = 15 ∷ 39 ∷ 35 ∷ 83 ∷ [];
  setups = 10 ∷ 20 ∷ [];
}

-- by ICCR1's CKS2 to CKS0 (181)
unfoldable pub rate : Rates → ℕ → ℕ
rate r control = get_or r.half_clocks (bit_and control 7) 0

-- document 01: a half clock is doubled by ICCR1's CKS3 (182)
unfoldable pub period_of : Rates → ℕ → ℕ
period_of r control = cond (has control CKS3) (2 * rate r control) (rate r control)

-- by ICCR1's CKS3 and CKS2 (881)
unfoldable pub monitor_halves : Rates → ℕ → ℕ
monitor_halves r control = get_or r.monitors (bit_and (control / 4) 3) 0

-- by ICCR1's CKS3 (777)
unfoldable pub setup_cycles : Rates → ℕ → ℕ
setup_cycles r control = get_or r.setups (bit_and (control / 8) 1) 0

-- ## Refusal 14, document 02 (f), where `rates_hold` is false

-- of each number below n
abbrev pub each : (ℕ → Bool) → ℕ → Bool
each p zero = true
each p (suc n) = each p n && p n

-- a length from low to 4096
abbrev pub length_in : ℕ → ℕ → Bool
length_in low n = leb low n && leb n 4096

-- a half clock or monitor length from 15 on, a setup length from 1 on
unfoldable pub lengths_hold : Rates → Bool
lengths_hold r =
    each (λ i. length_in 15 (get_or r.half_clocks i 0)) 8 && each (λ i. length_in 15 (get_or r.monitors i 0)) 4
    && each (λ i. length_in 1 (get_or r.setups i 0)) 2

-- at a value of CKS, the monitor length is below the half clock, which CKS3 doubles
unfoldable pub monitor_below : Rates → ℕ → Bool
monitor_below r control = ltb (monitor_halves r control) (period_of r control)

-- at each of the sixteen: a group, CKS3 and CKS2, has one monitor length and four half clocks
unfoldable pub rates_hold : Rates → Bool
rates_hold r = lengths_hold r && each (monitor_below r) 16

-- ## The default, looked for first: it isn't refused (RateLaws.antt)

-- four lengths in a row, from place i on
abbrev pub are_four : List ℕ → ℕ → ℕ → ℕ → ℕ → ℕ → Bool
are_four ls i a b c d = eqb (get_or ls i 0) a && eqb (get_or ls (1 + i) 0) b && eqb (get_or ls (2 + i) 0) c && eqb (get_or ls (3 + i) 0) d

unfoldable pub is_default : Rates → Bool
is_default r =
    are_four r.half_clocks 0 28 40 48 64 && are_four r.half_clocks 4 80 100 112 128 && are_four r.monitors 0 15 39 35 83
    && eqb (get_or r.setups 0 0) 10 && eqb (get_or r.setups 1 0) 20

-- four lengths as one word
abbrev pub word_of : ℕ → ℕ → ℕ → ℕ → ℕ
word_of a b c d = a + b * 0x10000 + c * 0x100000000 + d * 0x1000000000000
