-- Definitions: the outputs of the clock set that can be counted (document 01, module 4; `Tap` of clocks.rs).
use Rattle.std.specs.Prelude.{ℕ, zero, suc, ◌-◌, ◌^◌, Bool, ◌&&◌, cond, eqb, leb, ⊤, Option, Some, None, Result, Ok, Err}
use Rattle.refusals.specs.declared.Refusal.{Refusal}
use Rattle.refusals.specs.declared.Refusal.TheVariants.{ZeroTap}
use Rattle.clocks.specs.declared.tap.Source.{Source}
use Rattle.clocks.specs.declared.tap.Source.TheVariants.{System, Cpu, Watch, OnChip, Oscillator, Subclock}
use Rattle.clocks.specs.declared.tap.Tap.{Tap}
use Rattle.clocks.specs.declared.tap.Route.{Route}
use Rattle.clocks.specs.declared.tap.Route.TheVariants.{ThroughS, ThroughW, Direct}

-- a source with a divider, as `Tap::system` and its like make it
abbrev pub tap_of : Source → ℕ → Tap
tap_of s d = record { source = s; divide = d }

abbrev pub system_tap : ℕ → Tap
system_tap d = tap_of System d

-- the numbers of the sources in the Rust
abbrev pub source_number : Source → ℕ
source_number System = 0
source_number Cpu = 1
source_number Watch = 2
source_number OnChip = 3
source_number Oscillator = 4
source_number Subclock = 5

-- the equality of `Tap`
unfoldable pub same_tap : Tap → Tap → Bool
same_tap a b = eqb (source_number a.source) (source_number b.source) && eqb a.divide b.divide

-- `Tap::validate`: 11 for the divider 0
unfoldable pub tap_validate : Tap → Result ⊤ Refusal
tap_validate t = cond (eqb t.divide 0) (Err ZeroTap) (Ok tt)

-- the s below k with d = 2 ^ s, where there is one
unfoldable pub stage_below : ℕ → ℕ → Option ℕ
stage_below zero d = None
stage_below (suc k) d = cond (eqb d (2 ^ k)) (Some k) (stage_below k d)

-- the stage of a power-of-two divider of 32 bits
unfoldable pub stage_of : ℕ → Option ℕ
stage_of d = stage_below 32 d

-- whether a number is one of a to b
abbrev pub within : ℕ → ℕ → ℕ → Bool
within a b n = leb a n && leb n b

-- system dividers 2 to 8192 that are powers of two go through stage 1 to 13 of prescaler S
unfoldable pub route_s : Option ℕ → Route
route_s None = Direct
route_s (Some s) = cond (within 1 13 s) (ThroughS s) Direct

-- watch dividers 8 to 1024 that are powers of two through stage 1 to 8 of prescaler W, which counts every fourth edge
unfoldable pub route_w : Option ℕ → Route
route_w None = Direct
route_w (Some s) = cond (within 3 10 s) (ThroughW (s - 2)) Direct

-- document 01, module 4: the other sources have no prescaler
abbrev pub route_by : Source → ℕ → Route
route_by System d = route_s (stage_of d)
route_by Watch d = route_w (stage_of d)
route_by Cpu d = Direct
route_by OnChip d = Direct
route_by Oscillator d = Direct
route_by Subclock d = Direct

unfoldable pub route_of : Tap → Route
route_of t = route_by t.source t.divide
