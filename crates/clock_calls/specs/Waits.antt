-- Definitions: the taps and waits that words are (compare/words/src/layout.rs says where what lies). A number that stands for no case
-- counts as the last.
use Rattle.std.specs.Prelude.{◌%◌, ℕ, eqb, cond, not, None, Option, Some}
use Rattle.clocks.specs.Tap.{tap_of}
use Rattle.clocks.specs.declared.tap.Source.TheVariants as source
use Rattle.clocks.specs.declared.tap.Source.{Source}
use Rattle.clocks.specs.declared.tap.Tap.{Tap}
use Rattle.clocks.specs.declared.wait.WaitState.TheVariants as state
use Rattle.clocks.specs.declared.wait.WaitState.{WaitState}
use Rattle.clocks.specs.declared.wait.ClockWait.{ClockWait}
use Rattle.waits.specs.declared.HalfWait.{HalfWait}

unfoldable pub source_by : ℕ → Source
source_by n =
    cond (eqb n 0) source.System
    (cond (eqb n 1) source.Cpu
    (cond (eqb n 2) source.Watch
    (cond (eqb n 3) source.OnChip
    (cond (eqb n 4) source.Oscillator source.Subclock))))

-- a tap, its divider the low 32 bits of a word
abbrev pub tap_by : ℕ → ℕ → Tap
tap_by source divide = tap_of (source_by source) (divide % 0x1_0000_0000)

-- running to a count, paused with a count left, or ready at a time
unfoldable pub state_by : ℕ → ℕ → ℕ → WaitState
state_by number count fraction =
    cond (eqb number 0) (state.Running count)
    (cond (eqb number 1) (state.Paused count) (state.Ready (record { seconds = count; fraction = fraction })))

-- a wait where the first word isn't 0
abbrev pub wait_by : ℕ → ℕ → ℕ → ℕ → ℕ → ℕ → Option ClockWait
wait_by present source divide number count fraction =
    cond (eqb present 0) None (Some (record { tap = tap_by source divide; state = state_by number count fraction }))

-- a half wait where the first word isn't 0
abbrev pub half_by : ℕ → ℕ → ℕ → Option HalfWait
half_by present count paused = cond (eqb present 0) None (Some (record { count = count; paused = not (eqb paused 0) }))
