use native.Mathlib.Omega.{arith}
use lib.Bits.{and_le_r}
use Prim.Native.Nat.{◌/◌}
use mathlib.Core.Path.{refl}
use Rattle.rates.specs.Rates.{monitor_halves}
use Rattle.rates.proofs.Rates.monitor_halves.Goals as goal

pub overflow_cast-result : goal.overflow_cast-result
overflow_cast-result c = record { fits = omega (arith, and_le_r (c.args.control / 4) 3) }

pub offset_bounds-m-control : goal.offset_bounds-m-control
offset_bounds-m-control c = record { fits = omega (arith, and_le_r (c.args.control / 4) 3) }

pub bounds-m-control : goal.bounds-m-control
bounds-m-control c = omega (arith, and_le_r (c.args.control / 4) 3)

pub returns : goal.returns
unfolding monitor_halves
returns c = refl
