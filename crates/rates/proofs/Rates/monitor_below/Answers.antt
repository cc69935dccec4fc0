use Rattle.rates.specs.Rates.{monitor_below}
use Rattle.rates.proofs.Rates.monitor_below.Goals as goal

pub returns : goal.returns
unfolding monitor_below
returns c = simp (c.period.ensures, ← c.monitor_halves.ensures)
