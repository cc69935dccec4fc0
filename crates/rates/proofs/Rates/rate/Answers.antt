use native.Mathlib.Omega.{arith}
use lib.Bits.{and_le_r}
use mathlib.Core.Path.{refl}
use Rattle.rates.specs.Rates.{rate}
use Rattle.rates.proofs.Rates.rate.Goals as goal

pub overflow_cast-result : goal.overflow_cast-result
overflow_cast-result c = record { fits = omega (arith, and_le_r c.args.control 7) }

pub offset_bounds-h-control : goal.offset_bounds-h-control
offset_bounds-h-control c = record { fits = omega (arith, and_le_r c.args.control 7) }

pub bounds-h-control : goal.bounds-h-control
bounds-h-control c = omega (arith, and_le_r c.args.control 7)

pub returns : goal.returns
unfolding rate
returns c = refl
