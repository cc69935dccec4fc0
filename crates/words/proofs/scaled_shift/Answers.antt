-- `words::scaled_shift` meets its contract: a word with one bit set is the power of its trailing zeros, and `scaled_power` of Shifts.antt.
-- Assumes nothing.
use Rattle.std.proofs.Common.{◌≡◌, ℕ, ◌*◌, ◌/◌, ◌^◌, ◌<◌, sym, ap, ◌∙◌, arith}
use lib.Count.{count_trailing_zeros}
use Rattle.words.specs.Powers.{one_set}
use Rattle.words.proofs.Shifts.{scaled_power}
use Rattle.words.proofs.scaled_shift.Goals as goal

power : (s : goal.Start) →
    let by = s.args.by in
    (by ≡ 2 ^ count_trailing_zeros 64 by) × (count_trailing_zeros 64 by < 64)
power s = one_set 64 s.args.by s.ranges.by.fits s.requires

pub overflow_cast-result : goal.overflow_cast-result
overflow_cast-result c = omega (arith, (power c).1)

pub overflow_shr-result : goal.overflow_shr-result
overflow_shr-result c = omega (arith, (power c).1)

pub overflow_sub-result : goal.overflow_sub-result
overflow_sub-result c = omega (arith, (power c).1)

pub overflow_cast-result-2 : goal.overflow_cast-result-2
overflow_cast-result-2 c = omega (arith, (power c).1)

pub overflow_shl-result : goal.overflow_shl-result
overflow_shl-result c = omega (arith, (power c).1)

pub returns : goal.returns
returns c =
    let a = c.args in
    scaled_power a.n (count_trailing_zeros 64 a.by) (power c).1 ∙ ap (λ (m : ℕ). a.n * 2 ^ 64 / m) (sym (power c).0)
