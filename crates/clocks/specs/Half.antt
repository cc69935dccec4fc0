-- Definitions: the half counts and half edges of the system clock (document 01, module 4). They look at the system domain alone, but
-- refusal 1 is drawn by a zero anywhere in the set.
use Rattle.std.specs.Prelude.{ℕ, cond, Result, Err}
use Rattle.time.specs.declared.Time.{Time}
use Rattle.refusals.specs.declared.Refusal.{Refusal}
use Rattle.refusals.specs.declared.Refusal.TheVariants.{ZeroFrequency}
use Rattle.clocks.specs.declared.Clocks.{Clocks}
use Rattle.domain.specs.Domain.{domain_half_ticks, domain_half_edge}
use Rattle.clocks.specs.Clocks.{has_zero}

-- `Clocks::system_half_ticks`
unfoldable pub half_ticks : Clocks → Time → Result ℕ Refusal
half_ticks k now = cond (has_zero k) (Err ZeroFrequency) (domain_half_ticks k.system now)

-- `Clocks::system_half_edge`
unfoldable pub half_edge : Clocks → ℕ → Result Time Refusal
half_edge k n = cond (has_zero k) (Err ZeroFrequency) (domain_half_edge k.system n)
