-- Definitions: an address map, what is refused of it, and its lookup (document 02, (n)).
use Rattle.std.specs.Prelude.{Bool, true, cond, ◌&&◌, ⊤, List, [], ◌∷◌, Option, None, Some, Result, Ok, Err, ℕ, zero, suc, ◌+◌, leb, ltb, eqb, take}
use Rattle.std.specs.Result.{result_and}
use Rattle.refusals.specs.declared.Refusal.{Refusal}
use Rattle.refusals.specs.declared.Refusal.TheVariants.{Malformed, Overlap, Gap}
use Rattle.map.specs.declared.Range.{Range}
use Rattle.map.specs.declared.Map.{Map}
use Rattle.map.specs.declared.Fault.{Fault}
use Rattle.map.specs.declared.Fault.TheVariants.{Line, InTwo, InNone}

-- ## Ranges

-- "unit 0 to 3 or `-` for none"
abbrev pub unit_sound : Option ℕ → Bool
unit_sound None = true
unit_sound (Some n) = ltb n 4

-- "a last address below its first" is no range
unfoldable pub range_sound : Range → Bool
range_sound r = leb r.first r.last && unit_sound r.unit

-- as many of the ranges as the map counts
abbrev pub ranges_of : Map → List Range
ranges_of m = take m.count m.ranges

-- ## Addresses

-- "each address from 0000 to ffff"
abbrev pub addresses : ℕ
addresses = 65536

-- whether an address lies between two others
abbrev pub between : ℕ → ℕ → ℕ → Bool
between f l a = leb f a && leb a l

-- whether an address lies in a range
abbrev pub lies : ℕ → Range → Bool
lies a r = between r.first r.last a

-- how many ranges an address lies in
unfoldable pub holders_of : List Range → ℕ → ℕ
holders_of [] a = 0
holders_of (r ∷ rs) a = cond (lies a r) 1 0 + holders_of rs a

-- the unit of the range that an address lies in
unfoldable pub unit_at : List Range → ℕ → Option ℕ
unit_at [] a = None
unit_at (r ∷ rs) a = cond (lies a r) r.unit (unit_at rs a)

-- the lowest of so many addresses, from one on, that has a property; the one after them where there is none
unfoldable pub lowest_from : (ℕ → Bool) → ℕ → ℕ → ℕ
lowest_from p a zero = a
lowest_from p a (suc n) = cond (p a) a (lowest_from p (suc a) n)

-- the lowest address that has a property; 65536 where there is none
unfoldable pub lowest : (ℕ → Bool) → ℕ
lowest p = lowest_from p 0 addresses

-- "some address lies in two lines"
abbrev pub in_two : List Range → ℕ → Bool
in_two rs a = ltb 1 (holders_of rs a)

-- "some address lies in none"
abbrev pub in_none : List Range → ℕ → Bool
in_none rs a = eqb (holders_of rs a) 0

-- ## A check

-- the number of the first of some ranges that is none, where the first of them has that number
unfoldable pub wrong_from : ℕ → List Range → Option ℕ
wrong_from n [] = None
wrong_from n (r ∷ rs) = cond (range_sound r) (wrong_from (suc n) rs) (Some n)

-- "a 65th line"
abbrev pub or_too_many : ℕ → Option ℕ → Option ℕ
or_too_many count None = cond (ltb 64 count) (Some 65) None
or_too_many count (Some n) = Some n

-- the number, from 1, of the first line that is none
unfoldable pub wrong_of : Map → Option ℕ
wrong_of m = or_too_many m.count (wrong_from 1 (ranges_of m))

-- "19 when some address lies in two lines; after it, 20 when some address lies in none .. each with the lowest such address"
unfoldable pub check_ranges : List Range → Result ⊤ Fault
check_ranges rs =
    cond (ltb (lowest (in_two rs)) addresses) (Err (InTwo (lowest (in_two rs))))
    (cond (ltb (lowest (in_none rs)) addresses) (Err (InNone (lowest (in_none rs)))) (Ok tt))

-- "4 before the numbers here", with the line
abbrev pub unless_wrong : Option ℕ → Result ⊤ Fault → Result ⊤ Fault
unless_wrong None r = r
unless_wrong (Some n) r = Err (Line n)

unfoldable pub check_of : Map → Result ⊤ Fault
check_of m = unless_wrong (wrong_of m) (check_ranges (ranges_of m))

-- 4, 19 and 20
abbrev pub fault_refusal : Fault → Refusal
fault_refusal (Line n) = Malformed
fault_refusal (InTwo a) = Overlap
fault_refusal (InNone a) = Gap

-- the line, or "the lowest such address"
abbrev pub fault_place : Fault → ℕ
fault_place (Line n) = n
fault_place (InTwo a) = a
fault_place (InNone a) = a

-- ## A lookup

-- "Accepted, each address .. has one line and the lookup gives its unit"
unfoldable pub lookup_of : Map → ℕ → Result (Option ℕ) Fault
lookup_of m a = result_and (check_of m) (Ok (unit_at (ranges_of m) a))
