-- Laws on the ways out of a move, which the proof of `advance` cites.
-- Assumes nothing.
use Rattle.std.specs.Prelude.{Ok, Err}
use Rattle.std.proofs.Common.{◌≡◌, ℕ, ◌+◌, ◌%◌, ◌^◌, ◌<◌, ◌≤◌, Bool, true, false, cond, ◌&&◌, ltb, sym, refl, ap, ◌∙◌, subst, ap₂, ⊎_elim, le-ltb, lt-ltb}
use Rattle.time.specs.Time.{time_from, moment_of}
use Rattle.time.specs.Clock.{zero_in, span, start_after, moved_by, in_width, move_of}
use Rattle.time.proofs.Laws.{lt_or_le, moment_from, moment_past, moment_refused}
use Rattle.time.specs.declared.Time.{Time}
use Rattle.refusals.specs.declared.Refusal.{Refusal}
use Rattle.refusals.specs.declared.Refusal.TheVariants.{ZeroFrequency, Overflow}
use Rattle.refusals.proofs.Laws.{err_not_ok}
use Rattle.time.specs.declared.Clock.{Clock}

pub move_zero : (n : ℕ) (c : Clock) → zero_in c ≡ true → Err ZeroFrequency ≡ move_of n c
unfolding move_of
move_zero n c e = rw e

both_false : (a b : Bool) → b ≡ false → (a && b) ≡ false
both_false true b e = e
both_false false b e = refl

move_by : (n : ℕ) (c : Clock) (w : Bool) → zero_in c ≡ false → in_width n c ≡ w → cond w (Ok (moved_by n c)) (Err Overflow) ≡ move_of n c
unfolding move_of
move_by n c w e f = rw (e, f)

pub move_long : (n : ℕ) (c : Clock) → zero_in c ≡ false → 2 ^ 64 ≤ c.ordinal + n → Err Overflow ≡ move_of n c
move_long n c e le = move_by n c false e (both_false (ltb (start_after n c) (2 ^ 128)) (ltb (c.ordinal + n) (2 ^ 64)) (le-ltb (c.ordinal + n) (2 ^ 64) le))

pub move_past : (n : ℕ) (k : Refusal) (c : Clock) → zero_in c ≡ false → moment_of (start_after n c) ≡ Err k → Err Overflow ≡ move_of n c
move_past n k c e g = move_by n c false e (ap (λ (b : Bool). b && ltb (c.ordinal + n) (2 ^ 64)) (le-ltb (start_after n c) (2 ^ 128) (moment_refused (start_after n c) k g).1))

pub move_made : (n low f : ℕ) (c : Clock) (t : Time) → zero_in c ≡ false → low ≡ c.ordinal + n → low < 2 ^ 64 → moment_of (start_after n c) ≡ Ok t → f ≡ span c n % c.numerator
    → Ok (record { start = t; numerator = c.numerator; denominator = c.denominator; ordinal = low; fraction = f }) ≡ move_of n c
unfolding moved_by
move_made n low f c t e l less g r =
    let start : t ≡ time_from (start_after n c) = moment_from (start_after n c) t g in
    (λ i. Ok (record { start = start i; numerator = c.numerator; denominator = c.denominator; ordinal = l i; fraction = r i }))
    ∙ move_by n c true e (ap₂ ◌&&◌ (lt-ltb (start_after n c) (2 ^ 128) (within (start_after n c) t g)) (lt-ltb (c.ordinal + n) (2 ^ 64) (subst (λ (x : ℕ). x < 2 ^ 64) l less)))
  where
    within : (x : ℕ) (t : Time) → moment_of x ≡ Ok t → x < 2 ^ 128
    within x t g = ⊎_elim (λ h. h) (λ h. absurd (err_not_ok (sym (moment_past x h) ∙ g))) (lt_or_le x (2 ^ 128))
