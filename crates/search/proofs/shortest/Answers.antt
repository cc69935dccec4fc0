-- `search::shortest` meets its contract: every first line was tried, so the best run is the least of all.
-- Assumes nothing.
-- the contract, by what the answer means
use mathlib.Core.Path.{◌≡◌, refl, sym, ◌∙◌, subst}
use mathlib.Core.List.{List}
use Prim.Native.Nat.{ℕ, ◌+◌, ◌*◌, ◌≤◌}
use native.Mathlib.Omega.{arith}
use Rattle.std.specs.Prelude.{Result, Err}
use Rattle.search.specs.declared.Run.{Run}
use Rattle.search.specs.declared.Unfound.{Unfound}
use Rattle.search.specs.declared.Unfound.TheVariants.{LongTrace, NotDrawn}
use Rattle.search.specs.Shortest.{Answers, shortest_of}
use Rattle.search.proofs.ShortestLaws.{answer_is}
use Rattle.search.proofs.SearchLaws.{few_within, sought_answers, sought_most}
use Rattle.search.proofs.shortest.Goals as goal

module _ (ls : List (List ℕ)) (number limit : ℕ) (found : Result Run Unfound) (plays : ℕ) where
  met : (a : Result Run Unfound) → found ≡ a → Answers ls number limit a → 2 * plays ≤ limit * (limit + 1)
      → (found ≡ shortest_of ls number limit) × Answers ls number limit found × (2 * plays ≤ limit * (limit + 1))
  met a e w h = (e ∙ answer_is ls number limit a w, subst (λ (x : Result Run Unfound). Answers ls number limit x) (sym e) w, h)

pub returns-then-limit-lines : goal.returns-then-limit-lines
returns-then-limit-lines c = let n = c.count_lines-lines.ensures in met _ _ _ _ 0 (Err LongTrace) refl (omega arith, refl) (omega arith)

pub returns-then-number-eq0 : goal.returns-then-number-eq0
returns-then-number-eq0 c =
    let n = c.count_lines-lines.ensures in
    met _ _ _ _ 0 (Err NotDrawn) refl (omega arith, λ f m d. let p = d.refuses in omega arith, refl) (omega arith)

pub found-requires : goal.found-requires
found-requires c =
    let n = c.count_lines-lines.ensures in
    let w = sought_most _ _ c.best_run-tried.ensures.0 in
    omega arith

pub returns : goal.returns
returns c =
    let n = c.count_lines-lines.ensures in
    let b = c.best_run-tried.ensures in
    met _ _ _ _ _ _ c.found.ensures (sought_answers _ _ _ b.0 (omega arith) (omega arith) (omega arith)) (few_within _ _ _ b.1 (omega arith))
