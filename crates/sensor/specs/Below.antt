-- Laws: a test that holds of every number below a limit, by computing it of each; and what so many bits hold.
use Rattle.std.specs.Prelude.{◌≡◌, ℕ, ◌*◌, ◌%◌, ◌^◌, ◌<◌, Bool, true, false, ◌&&◌, ltb, nat_eq, nat_lt, refl}
use Rattle.std.proofs.Common.{ap, eqb-true, ltb-true}
use Rattle.std.proofs.lemmas.Bool.{agree_below, agree_below_at}
use Rattle.sensor.specs.State.{fits_in}

-- the test holds of every number below n
abbrev pub all : (ℕ → Bool) → ℕ → Bool
all f n = agree_below f (λ (m : ℕ). true) n

pub all_below : (f : ℕ → Bool) (n : ℕ) → all f n ≡ true → (k : ℕ) → k < n → f k ≡ true
all_below f n e k h = agree_below_at f (λ (m : ℕ). true) n k e h

-- a power of two, as a shift has it
same_power : (k : ℕ) → k < 8 → 1 * 2 ^ (k % 8) % 2 ^ 16 ≡ 2 ^ k
same_power k h = eqb-true (1 * 2 ^ (k % 8) % 2 ^ 16) (2 ^ k) (all_below (λ (n : ℕ). nat_eq (1 * 2 ^ (n % 8) % 2 ^ 16) (2 ^ n)) 8 refl k h)

-- so a shift tells what so many bits hold
pub shift_fits : (byte bits : ℕ) → (nat_lt bits 8 && nat_lt byte (1 * 2 ^ (bits % 8) % 2 ^ 16)) ≡ fits_in byte bits
unfolding fits_in
shift_fits byte bits = by (nat_lt bits 8) refl
  where
    by : (t : Bool) → nat_lt bits 8 ≡ t → (t && nat_lt byte (1 * 2 ^ (bits % 8) % 2 ^ 16)) ≡ (t && nat_lt byte (2 ^ bits))
    by true e = ap (λ (p : ℕ). ltb byte p) (same_power bits (ltb-true bits 8 e))
    by false e = refl
