-- Definitions: the map that a text means, by reading it from the top (document 02, (n)). That exactly the lines that `Format` spells are read is shown in
-- `ReadingLaws`.
use Rattle.std.specs.Prelude.{true, cond, not, ◌&&◌, List, [], ◌∷◌, Option, None, Some, option_map, option_and_then, unwrap_or, Result, Ok, Err, ℕ, ◌+◌, ◌*◌, leb, eqb, length, get_or, set, replicate, ⊤}
use Rattle.lines.specs.Reading.{digit_in, hex_from}
use Rattle.lines.specs.Format.{dash}
use Rattle.lines.specs.Lines.{lines_in}
use Rattle.lines.specs.Format.{tab}
use Rattle.refusals.specs.Refusals.{number_of}
use Rattle.map.specs.declared.Range.{Range}
use Rattle.map.specs.declared.Map.{Map}
use Rattle.map.specs.declared.Fault.{Fault}
use Rattle.map.specs.declared.Fault.TheVariants.{Line}
use Rattle.map.specs.declared.reading.Refused.{Refused}
use Rattle.map.specs.Map.{range_sound, check_of, lookup_of, fault_place, fault_refusal}

-- ## A line

-- "four lower-case hexadecimal digits"
unfoldable pub address_of : ℕ → ℕ → ℕ → ℕ → Option ℕ
address_of a b c d = hex_from 4 0 (a ∷ b ∷ c ∷ d ∷ [])

abbrev pub address_at : List ℕ → ℕ → Option ℕ
address_at l i = address_of (get_or l i 0) (get_or l (i + 1) 0) (get_or l (i + 2) 0) (get_or l (i + 3) 0)

-- "unit 0 to 3 or `-` for none"; another byte is no unit
unfoldable pub unit_of : ℕ → Option (Option ℕ)
unit_of b = cond (eqb b dash) (Some None) (option_map Some (digit_in 4 b))

abbrev pub if_sound : Range → Option Range
if_sound r = cond (range_sound r) (Some r) None

-- an address, a tab, an address, a tab and a unit
unfoldable pub range_of : List ℕ → Option Range
range_of l =
    cond (not (eqb (length l) 11)) None
    (cond (not (eqb (get_or l 4 0) tab && eqb (get_or l 9 0) tab)) None
    (option_and_then (λ f. option_and_then (λ t. option_and_then (λ u. if_sound (record { first = f; last = t; unit = u }))
    (unit_of (get_or l 10 0))) (address_at l 5)) (address_at l 0)))

-- ## A text

abbrev pub no_range : Range
no_range = record { first = 0; last = 0; unit = None }

unfoldable pub empty_map : Map
empty_map = record { ranges = replicate 64 no_range; count = 0 }

abbrev pub added : Map → Range → Map
added m r = record { ranges = set m.ranges m.count r; count = m.count + 1 }

-- the next line is none
abbrev pub wrong_next : Map → Refused
wrong_next m = record { fault = Line (m.count + 1); map = m }

abbrev pub with_range : Map → Option Range → Result Map Refused
with_range m None = Err (wrong_next m)
with_range m (Some r) = Ok (added m r)

-- a map with a further line; the 65th is none
unfoldable pub with_line : Map → List ℕ → Result Map Refused
with_line m l = cond (leb 64 m.count) (Err (wrong_next m)) (with_range m (range_of l))

-- with further lines, up to the first that is none
abbrev pub read_on : Result Map Refused → (Map → Result Map Refused) → Result Map Refused
read_on (Ok m) f = f m
read_on (Err r) f = Err r

unfoldable pub read_from : Map → List (List ℕ) → Result Map Refused
read_from m [] = Ok m
read_from m (l ∷ ls) = read_on (with_line m l) (λ n. read_from n ls)

-- "a text of up to 64 lines, ended as in a trace"
unfoldable pub read_of : List ℕ → Result Map Refused
read_of text = read_from empty_map (lines_in true text)

-- "A line of another form, a last address below its first, or a 65th line draws 4 before the numbers here", with that line
abbrev pub if_fine : Map → Result ⊤ Fault → Result Map Refused
if_fine m (Ok _) = Ok m
if_fine m (Err f) = Err (record { fault = f; map = m })

unfoldable pub load_of : List ℕ → Result Map Refused
load_of text = read_on (read_of text) (λ m. if_fine m (check_of m))

-- the lookup in the map of a text
abbrev pub lookup_in : Result Map Refused → ℕ → Result (Option ℕ) Fault
lookup_in (Ok m) a = lookup_of m a
lookup_in (Err r) a = Err r.fault

-- in one number: a unit, 4 for none, or a refusal with its line or address
abbrev pub found_number : Result (Option ℕ) Fault → ℕ
found_number (Ok u) = unwrap_or u 4
found_number (Err f) = number_of (fault_refusal f) * 65536 + fault_place f
