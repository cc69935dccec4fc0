use mathlib.Core.Bool.{true}
use Rattle.lines.specs.Lines.{lines_in}
use Rattle.search.specs.Search.{Sought}
use Rattle.search.proofs.SearchLaws.{Left, Few}
use Rattle.search.proofs.best_run.Given as goal

abbrev pub invariant-loop-tried : goal.invariant-loop-tried
invariant-loop-tried l =
    let all = lines_in true l.trace in
    Left (lines_in l.left.ended l.left.rest.now) all l.tried × Sought all l.number l.tried l.best.first l.best.most × Few all l.tried l.plays
