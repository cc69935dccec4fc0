-- Laws: the lengths of waits. They go by CKS alone; in a rate set that isn't refused none is 0 and the monitor's wait is below half a clock, and in the set of
-- document 01 by 3 or more. Assumes nothing.
use Rattle.std.specs.Prelude.{ℕ, zero, suc, ◌+◌, ◌*◌, ◌/◌, ◌%◌, ◌≤◌, ◌<◌, not, ◌&&◌, List, ◌≡◌, refl, eqb, leb}
use Rattle.std.proofs.Math.Bool.{Bool, true, cond}
use Rattle.std.proofs.Common.{⊎_elim, ◌∙◌, eq-or-lt_of_le, le_of_suc-le-suc, mod-lt, not-suc-le-zero, leb-true, ltb-true, lit<}
use Rattle.std.proofs.Math.Path.{sym, ap, ap₂, subst}
use native.Mathlib.Omega.{arith}
use Rattle.std.proofs.lemmas.Nat.Bits.{and_high}
use Rattle.std.specs.Int.Bits.{and_le_r, and_mask, bit_and}
use Rattle.std.proofs.Math.ListN.{get_or}
use Rattle.time.specs.Truths.{and_left, and_right}
use Rattle.rates.specs.RateLaws.{default_holds}
use Rattle.rates.specs.Rates.{default_rates, each, is_default, length_in, lengths_hold, monitor_below, monitor_halves, period_of, rate, rates_hold, setup_cycles}
use Rattle.rates.specs.declared.Rates.{Rates}

-- a test that each number below n passes
each_below : (p : ℕ → Bool) (n : ℕ) → each p n ≡ true → (m : ℕ) → m < n → p m ≡ true
each_below p zero e m h = absurd (not-suc-le-zero h)
each_below p (suc n) e m h =
    ⊎_elim
    (λ i. subst (λ (x : ℕ). p x ≡ true) (sym i) (and_right (each p n) (p n) e))
    (λ l. each_below p n (and_left (each p n) (p n) e) m l)
    (eq-or-lt_of_le (le_of_suc-le-suc h))

-- ## Only CKS counts, bits 3 to 0 of ICCR1

module _ (r : Rates) (control : ℕ) where
  period_cks : period_of r control ≡ period_of r (control % 16)
  unfolding period_of rate
  period_cks = ap₂ (λ (a b : ℕ). cond (not (eqb a 0)) (2 * get_or r.half_clocks b 0) (get_or r.half_clocks b 0)) high low
    where
      low : bit_and control 7 ≡ bit_and (control % 16) 7
      low = and_mask control 3 ∙ omega arith ∙ sym (and_mask (control % 16) 3)

      high : bit_and control 8 ≡ bit_and (control % 16) 8
      high = and_high control 1 3 ∙ omega arith ∙ sym (and_high (control % 16) 1 3)

  monitor_cks : monitor_halves r control ≡ monitor_halves r (control % 16)
  unfolding monitor_halves
  monitor_cks = ap (λ (n : ℕ). get_or r.monitors n 0) (and_mask (control / 4) 2 ∙ omega arith ∙ sym (and_mask (control % 16 / 4) 2))

  small : control % 16 < 16
  small = mod-lt control (lit< tt)

-- ## A set that isn't refused

module _ (r : Rates) (holds : rates_hold r ≡ true) (control : ℕ) where
  pub monitor_below_lem : monitor_halves r control < period_of r control
  unfolding rates_hold monitor_below
  monitor_below_lem =
      subst (λ (n : ℕ). n < period_of r control) (sym (monitor_cks r control)) (subst (λ (n : ℕ). monitor_halves r (control % 16) < n) (sym (period_cks r control))
      (ltb-true _ _ (each_below (monitor_below r) 16 (and_right (lengths_hold r) _ holds) (control % 16) (small r control))))

  pub period_some : 0 < period_of r control
  period_some = omega (arith, monitor_below_lem)

  -- each length of a kind is in its range
  abbrev In : ℕ → ℕ → List ℕ → Bool
  In low n ls = each (λ i. length_in low (get_or ls i 0)) n

  in_range : (In 15 4 r.monitors ≡ true) × (In 1 2 r.setups ≡ true)
  unfolding rates_hold lengths_hold
  in_range =
      let halves : Bool = In 15 8 r.half_clocks in
      let monitors : Bool = In 15 4 r.monitors in
      let setups : Bool = In 1 2 r.setups in
      let lengths : (halves && monitors && setups) ≡ true = and_left (halves && monitors && setups) (each (monitor_below r) 16) holds in
      (and_right halves monitors (and_left (halves && monitors) setups lengths), and_right (halves && monitors) setups lengths)

  some : (low n : ℕ) (ls : List ℕ) → 0 < low → In low n ls ≡ true → (i : ℕ) → i < n → 0 < get_or ls i 0
  some low n ls pos e i less =
      let le : low ≤ get_or ls i 0 = leb-true low (get_or ls i 0) (and_left _ (leb (get_or ls i 0) 4096) (each_below (λ j. length_in low (get_or ls j 0)) n e i less)) in
      omega arith

  pub monitor_some : 0 < monitor_halves r control
  unfolding monitor_halves
  monitor_some = some 15 4 r.monitors (lit< tt) in_range.0 (bit_and (control / 4) 3) (omega (arith, and_le_r (control / 4) 3))

  pub setup_some : 0 < setup_cycles r control
  unfolding setup_cycles
  setup_some = some 1 2 r.setups (lit< tt) in_range.1 (bit_and (control / 8) 1) (omega (arith, and_le_r (control / 8) 1))

-- ## The set of document 01

pub default_accepted : rates_hold default_rates ≡ true
unfolding is_default
default_accepted = default_holds default_rates refl

abbrev apart : ℕ → Bool
apart control = leb (monitor_halves default_rates control + 3) (period_of default_rates control)

all_apart : each apart 16 ≡ true
unfolding monitor_halves period_of rate
all_apart = refl

-- the monitor's wait is 3 or more below half a clock
pub default_apart : (control : ℕ) → monitor_halves default_rates control + 3 ≤ period_of default_rates control
default_apart control =
    subst (λ (n : ℕ). n + 3 ≤ period_of default_rates control) (sym (monitor_cks default_rates control))
    (subst (λ (n : ℕ). monitor_halves default_rates (control % 16) + 3 ≤ n) (sym (period_cks default_rates control))
    (leb-true _ _ (each_below apart 16 all_apart (control % 16) (small default_rates control))))
