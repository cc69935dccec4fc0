-- Laws: the clock set of a trace.
-- Assumes nothing.
use Rattle.std.specs.Prelude.{◌≡◌, refl, false}
use Rattle.time.specs.Clock.{zero_in}
use Rattle.clocks.specs.Clocks.{new_clocks, clock_set, has_zero}
use Rattle.answers.specs.Calls.{trace_clocks}

-- no clock of the set holds a zero
pub trace_free : has_zero trace_clocks ≡ false
unfolding trace_clocks new_clocks clock_set has_zero zero_in
trace_free = refl
