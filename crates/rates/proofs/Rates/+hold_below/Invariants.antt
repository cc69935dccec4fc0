use Rattle.rates.proofs.Rates.+hold_below.Given as goal

abbrev pub decreases-hold_below : goal.decreases-hold_below
decreases-hold_below l = l.values
