-- `search::count_lines` meets its contract: there are no more lines than bytes, so their number fits.
-- Assumes nothing.
use mathlib.Core.Bool.{true}
use mathlib.Core.Logic.{inl}
use native.Mathlib.Omega.{arith}
use Rattle.search.proofs.SearchLaws.{lines_fit}
use Rattle.search.proofs.count_lines.Goals as goal

pub count-requires-clause-fits : goal.count-requires-clause-fits
count-requires-clause-fits c = let h = lines_fit true c.args.trace.now in inl (omega (arith, h))
