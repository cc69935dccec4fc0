use Prim.Native.Nat.{◌+◌}
use Rattle.std.specs.Prelude.{◌≡◌}
use Rattle.std.specs.Iterator.Adapters.{take_source, take_count}
use Rattle.lines.specs.Lines.{lines_in}
use Rattle.search.proofs.SearchLaws.{Left, Playing}
use Rattle.search.proofs.play_from.Given as goal

abbrev pub invariant-loop-line : goal.invariant-loop-line
invariant-loop-line l =
    let all = lines_in l.fn.lines.ended l.fn.lines.rest.now in
    let it = take_source l.line-iterator in
    Left (lines_in it.ended it.rest.now) all l.played × Playing all l.number l.host l.played × (l.played + take_count l.line-iterator ≡ l.most)
