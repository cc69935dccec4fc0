use Prim.Native.Nat.{◌-◌}
use lib.ListN.{length}
use Rattle.std.specs.Prelude.{◌≡◌}
use Rattle.std.specs.Iterator.Adapters.{take_source, take_count}
use Rattle.answers.specs.Calls.{trace_clocks}
use Rattle.lines.specs.Lines.{lines_in}
use Rattle.player.proofs.Runs.{Going}
use Rattle.player.proofs.Player.play_lines.Given as goal

abbrev pub invariant-loop-line : goal.invariant-loop-line
invariant-loop-line l =
    let it = take_source l.line-iterator in
    Going l.output trace_clocks (length l.part) (lines_in l.ended l.part) l.initial.out (record { lines = l.initial.lines; seen = l.initial.seen; host = l.initial.host }) l.out (record { lines = l.lines; seen = l.seen; host = l.host }) (lines_in it.ended it.rest.now) l.used l.written
    × (take_count l.line-iterator ≡ 1000000 - l.lines)
