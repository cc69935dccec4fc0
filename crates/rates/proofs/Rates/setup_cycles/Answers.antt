use native.Mathlib.Omega.{arith}
use lib.Bits.{and_le_r}
use Prim.Native.Nat.{◌/◌}
use mathlib.Core.Path.{refl}
use Rattle.rates.specs.Rates.{setup_cycles}
use Rattle.rates.proofs.Rates.setup_cycles.Goals as goal

pub overflow_cast-result : goal.overflow_cast-result
overflow_cast-result c = record { fits = omega (arith, and_le_r (c.args.control / 8) 1) }

pub offset_bounds-s-control : goal.offset_bounds-s-control
offset_bounds-s-control c = record { fits = omega (arith, and_le_r (c.args.control / 8) 1) }

pub bounds-s-control : goal.bounds-s-control
bounds-s-control c = omega (arith, and_le_r (c.args.control / 8) 1)

pub returns : goal.returns
unfolding setup_cycles
returns c = refl
