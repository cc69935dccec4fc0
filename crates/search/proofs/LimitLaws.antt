-- Laws: two limits, one search (document 02, (i)).
-- Assumes nothing.
use Rattle.std.specs.Prelude.{◌≡◌, List, Result, Ok, Err, ℕ, ◌≤◌, length}
use Rattle.std.proofs.Common.{arith}
use Rattle.search.specs.declared.Run.{Run}
use Rattle.search.specs.declared.Unfound.{Unfound}
use Rattle.search.specs.declared.Unfound.TheVariants.{LongTrace, NotDrawn}
use Rattle.search.specs.Shortest.{shortest_of, Answers}
use Rattle.search.proofs.ShortestLaws.{shortest_answers, answer_is, least, least_only}

module _ (ls : List (List ℕ)) (number small large : ℕ) (h : small ≤ large) where
  -- wherever the smaller limit finds a run, the larger finds the same
  pub larger_finds : (run : Run) → shortest_of ls number small ≡ Ok run → shortest_of ls number large ≡ Ok run
  larger_finds run e = let w = least_only ls number small run e in least ls number large run (omega (arith, w.0)) w.1

  -- up to the smaller limit they answer alike, 18 too; beyond it the smaller draws 17 (`beyond` in ShortestLaws.antt)
  pub same_within : length ls ≤ small → shortest_of ls number small ≡ shortest_of ls number large
  same_within within = answer_is ls number large (shortest_of ls number small) (up (shortest_of ls number small) (shortest_answers ls number small))
    where
      up : (x : Result Run Unfound) → Answers ls number small x → Answers ls number large x
      up (Ok run) w = (omega arith, w.1)
      up (Err LongTrace) w = absurd (omega (arith, w.0))
      up (Err NotDrawn) w = (omega arith, w.1, w.2)
