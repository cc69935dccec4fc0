-- Laws: what an edge that has a time tells, one unit later, and the next edge of a clock of less than 2 ^ 64 Hz, which is later. Assumes
-- nothing.
use Rattle.std.specs.Prelude.{◌≡◌, ℕ, ◌+◌, ◌-◌, ◌*◌, ◌/◌, ◌^◌, ◌<◌, ◌≤◌, Bool, true, false, nat_lt, refl, Ok}
use Rattle.std.proofs.Common.{⊎_elim, sym, ap, ◌∙◌, subst, le_refl, le_trans, mul-le-mul_right, one-mul, arith, ltb-false}
use Rattle.std.proofs.Math.Nat.{add-div_right}
use Rattle.time.specs.Clock.{after_of, edge_of, span, zero_in}
use Rattle.time.proofs.Laws.{div_mono, lt_or_le, moment_past, next_last, next_later, time_of_from}
use Rattle.time.proofs.MoveLaws.{span_grows, spans}
use Rattle.time.specs.Time.{moment_of, next_time, time_of}
use Rattle.time.specs.declared.Clock.{Clock}
use Rattle.refusals.proofs.Laws.{err_not_ok}
use Rattle.time.specs.declared.Time.{Time}

pub moment_fits : (n : ℕ) (t : Time) → moment_of n ≡ Ok t → n < 2 ^ 128
moment_fits n t e = ⊎_elim (λ h. h) (λ h. absurd (err_not_ok (sym (moment_past n h) ∙ e))) (lt_or_le n (2 ^ 128))

-- what an edge that has a time tells
pub after_at_lem : (c : Clock) (n : ℕ) (t : Time) → after_of c n ≡ Ok t → (zero_in c ≡ false) × (c.ordinal ≤ n) × (moment_of (edge_of c n) ≡ Ok t)
unfolding after_of
after_at_lem c n t e = go (zero_in c) refl (nat_lt n c.ordinal) refl
  where
    go : (z : Bool) → zero_in c ≡ z → (b : Bool) → nat_lt n c.ordinal ≡ b → (zero_in c ≡ false) × (c.ordinal ≤ n) × (moment_of (edge_of c n) ≡ Ok t)
    go true f b g = absurd (err_not_ok (rw f at e))
    go false f true g = absurd (err_not_ok (rw (f, g) at e))
    go false f false g = (f, ltb-false n c.ordinal g, rw (f, g) at e)

-- ## One unit later

next_is : (P : ℕ → Type 0) (t : Time) → P (time_of t) → P (time_of t + 1) → P (time_of (next_time t))
next_is P t last later =
    ⊎_elim
    (λ h. subst P (sym (ap (λ (x : Time). time_of x) (next_later t h) ∙ time_of_from (time_of t + 1))) later)
    (λ h. subst P (sym (ap (λ (x : Time). time_of x) (next_last t h))) last)
    (lt_or_le (time_of t + 1) (2 ^ 128))

pub next_le : (t : Time) → time_of t ≤ time_of (next_time t)
next_le t = next_is (λ n. time_of t ≤ n) t (le_refl (time_of t)) (one_more (time_of t))
  where
    one_more : (n : ℕ) → n ≤ n + 1
    one_more n = omega arith

pub next_near : (t : Time) → time_of (next_time t) ≤ time_of t + 1
next_near t = next_is (λ n. n ≤ time_of t + 1) t (one_more (time_of t)) (le_refl (time_of t + 1))
  where
    one_more : (n : ℕ) → n ≤ n + 1
    one_more n = omega arith

-- ## Edges

-- a clock of less than 2 ^ 64 Hz
pub slow : (h d : ℕ) → h < 2 ^ 64 → 0 < d → h ≤ d * 2 ^ 64
slow h d less pos = le_trans (down less) (subst (λ (x : ℕ). x ≤ d * 2 ^ 64) (one-mul (2 ^ 64)) (mul-le-mul_right (2 ^ 64) pos))
  where
    down : {x y : ℕ} → x < y → x ≤ y
    down h = omega arith

div_steps : (h a b : ℕ) → 0 < h → a + h ≤ b → a / h < b / h
div_steps h a b pos le = let more : a / h + 1 ≤ b / h = subst (λ (x : ℕ). x ≤ b / h) (add-div_right a pos) (div_mono h le) in omega arith

-- from the ordinal on, all edges are at different times
pub edge_steps : (c : Clock) (j k : ℕ) → 0 < c.numerator → c.numerator ≤ c.denominator * 2 ^ 64 → c.ordinal ≤ j → j < k → edge_of c j < edge_of c k
unfolding edge_of
edge_steps c j k pos slow from less =
    let x : ℕ = j - c.ordinal in
    let one : c.denominator * 2 ^ 64 + span c x ≡ span c (x + 1) = ap (λ (y : ℕ). y * 2 ^ 64 + span c x) (sym (one-mul c.denominator)) ∙ spans c x 1 in
    let rest : span c (x + 1) ≤ span c (k - c.ordinal) = span_grows c (x + 1) (k - c.ordinal) (omega arith) in
    let step : span c x / c.numerator < span c (k - c.ordinal) / c.numerator = div_steps c.numerator (span c x) (span c (k - c.ordinal)) pos (room (span c x) slow one rest) in
    omega (arith, step)
  where
    room : {h d b e : ℕ} (a : ℕ) → h ≤ d → d + a ≡ b → b ≤ e → a + h ≤ e
    room a p q r = omega arith
