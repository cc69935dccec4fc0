-- Laws: rows of the search over empty lines, which are malformed, computed from the definitions: no line; the first of equals; as many lines as the
-- limit, and one more, also where no line draws the number; 0, which no line draws; and a number that none of these draws.
-- Assumes nothing.
use Rattle.std.specs.Prelude.{◌≡◌, refl, [], ◌∷◌, Ok, Err}
use Rattle.lines.specs.Reading.{digit_of, closed_by, scan, seconds_of, timed_of, call_of}
use Rattle.answers.specs.Calls.{answer_of}
use Rattle.search.specs.declared.Unfound.TheVariants.{LongTrace, NotDrawn}
use Rattle.search.specs.Shortest.{unplayed, last_answer, drawn_by, earliest_of, least_of, shortest_of}

rows : (shortest_of [] 4 0 ≡ Err NotDrawn)
    × (shortest_of ([] ∷ [] ∷ []) 4 2 ≡ Ok (record { first = 1; length = 1 }))
    × (shortest_of ([] ∷ [] ∷ []) 4 1 ≡ Err LongTrace)
    × (shortest_of ([] ∷ [] ∷ []) 0 1 ≡ Err LongTrace)
    × (shortest_of ([] ∷ [] ∷ []) 0 2 ≡ Err NotDrawn)
    × (shortest_of ([] ∷ [] ∷ []) 5 2 ≡ Err NotDrawn)
unfolding shortest_of least_of earliest_of drawn_by last_answer unplayed answer_of call_of timed_of seconds_of scan closed_by digit_of
rows = (refl, refl, refl, refl, refl, refl)
