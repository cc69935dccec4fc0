use Rattle.rates.specs.Rates.{is_default}
use Rattle.rates.proofs.Rates.is_default.Goals as goal

pub returns : goal.returns
unfolding is_default
returns c = rw (c.same_four-monitors.ensures, c.same_four-last.ensures, c.same_four-first.ensures)
