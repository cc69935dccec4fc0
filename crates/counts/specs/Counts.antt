-- Definitions: counts of 64 bits (document 01, refusal 7).
use Rattle.std.specs.Prelude.{ℕ, ◌^◌, cond, ltb, Result, Ok, Err}
use Rattle.refusals.specs.declared.Refusal.{Refusal}
use Rattle.refusals.specs.declared.Refusal.TheVariants.{Overflow}

-- the number as a count, or refusal 7 (`Overflow`) where it passes 64 bits
unfoldable pub fits : ℕ → Result ℕ Refusal
fits n = cond (ltb n (2 ^ 64)) (Ok n) (Err Overflow)
