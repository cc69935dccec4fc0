-- Definitions: the noise filter, and the levels as given (document 01, Registers and steps; numbers in brackets are lines of iic.rs).
use Rattle.bus.specs.Bus.{levels, same_levels}
use Rattle.bus.specs.declared.Levels.{Levels}
use Rattle.iic.specs.Setters.{set_filtered, set_latch}
use Rattle.iic.specs.State.{awake}
use Rattle.iic.specs.declared.Iic.{Iic}
use Rattle.std.specs.Prelude.{Bool, ◌&&◌, ◌||◌, cond, not}
use Rattle.std.specs.Bool.{beq}

-- ## Firing

-- document 01: a level passes the filter when two successive system clocks see it (476)
abbrev pub passed : Bool → Bool → Bool → Bool
passed raw latch filtered = cond (beq raw latch) raw filtered

-- both levels, and what the next clock compares with (475)
unfoldable pub filter_pass_of : Iic → Iic
filter_pass_of s =
    set_latch s.lines.raw (set_filtered (levels
    (passed s.lines.raw.scl s.lines.latch.scl s.lines.filtered.scl)
    (passed s.lines.raw.sda s.lines.latch.sda s.lines.filtered.sda)) s)

-- ## Levels

-- the answer of `input_pins`: the levels are new, the peripheral is enabled and the gate is on (437, 443)
abbrev pub observes : Iic → Levels → Bool
observes s given = not (same_levels s.lines.raw given) && awake s

-- a level is still on its way through the filter (420)
abbrev pub unsettled : Iic → Bool
unsettled s = not (same_levels s.lines.raw s.lines.latch) || not (same_levels s.lines.latch s.lines.filtered)
