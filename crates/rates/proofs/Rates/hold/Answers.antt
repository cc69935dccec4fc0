use mathlib.Core.Path.{◌∙◌, sym}
use Rattle.rates.specs.Rates.{rates_hold}
use Rattle.rates.specs.RateLaws.{default_holds}
use Rattle.rates.proofs.Rates.hold.Goals as goal

pub returns-then-same : goal.returns-then-same
returns-then-same c = sym (default_holds _ (sym c.is_default-same.ensures ∙ c.if-same.true))

pub returns : goal.returns
unfolding rates_hold
returns c = c.hold_below.ensures
