-- Definitions: the call that a line means, by reading it from the left (document 01, "The trace player"). Contracts cite these; that they accept
-- exactly the lines that `Format` spells is shown in `ReadingLaws`.
use Rattle.std.specs.Prelude.{cond, not, ◌&&◌, List, [], ◌∷◌, ℕ, zero, suc, ◌+◌, ◌-◌, ◌*◌, ◌^◌, ltb, eqb, min, length, drop, get_or, Option, None, Some, option_and_then, option_map}
use Rattle.time.specs.declared.Time.{Time}
use Rattle.lines.specs.declared.Verb.{Verb}
use Rattle.lines.specs.declared.Verb.TheVariants.{Read, Write, Pins, Gate, Visit, Deadline}
use Rattle.lines.specs.declared.Call.{Call}

-- the value of a lower-case hexadecimal digit, 16 for another byte
unfoldable pub digit_of : ℕ → ℕ
digit_of b = cond (ltb b 48) 16 (cond (ltb b 58) (b - 48) (cond (ltb b 97) 16 (cond (ltb b 103) (b - 87) 16)))

-- the value of such a digit where it is below a radix
unfoldable pub digit_in : ℕ → ℕ → Option ℕ
digit_in radix b = cond (ltb (digit_of b) (min radix 16)) (Some (digit_of b)) None

-- ## Seconds, decimal, up to a tab: the value and the place after the tab

-- after i digits of the value n, a byte that is no digit: a tab closes them, if there are any
unfoldable pub closed_by : ℕ → ℕ → ℕ → Option (ℕ × ℕ)
closed_by x n i = cond (eqb x 9 && not (eqb i 0)) (Some (n, i + 1)) None

-- no digit follows a leading zero, and the value stays below 2^64
unfoldable pub scan : ℕ → ℕ → List ℕ → Option (ℕ × ℕ)
scan n i [] = None
scan n i (x ∷ xs) =
    cond (ltb (digit_of x) 10)
    (cond (eqb n 0 && not (eqb i 0)) None (cond (ltb (n * 10 + digit_of x) (2 ^ 64)) (scan (n * 10 + digit_of x) (i + 1) xs) None))
    (closed_by x n i)

unfoldable pub seconds_of : List ℕ → Option (ℕ × ℕ)
seconds_of l = scan 0 0 l

-- ## A fraction: 16 hexadecimal digits

-- k digits more, after those of the value n
unfoldable pub hex_from : ℕ → ℕ → List ℕ → Option ℕ
hex_from zero n l = Some n
hex_from (suc k) n [] = None
hex_from (suc k) n (x ∷ xs) = cond (ltb (digit_of x) 16) (hex_from k (n * 16 + digit_of x) xs) None

unfoldable pub fraction_of : List ℕ → Option ℕ
fraction_of l = hex_from 16 0 l

-- ## A verb with its operands

unfoldable pub bare_of : ℕ → Option Verb
bare_of v = cond (eqb v 118) (Some Visit) (cond (eqb v 100) (Some Deadline) None)

unfoldable pub single_of : ℕ → ℕ → ℕ → Option Verb
single_of v t x =
    cond (eqb v 114 && eqb t 9 && ltb (digit_of x) 8) (Some (Read (digit_of x)))
    (cond (eqb v 103 && eqb t 9 && ltb (digit_of x) 2) (Some (Gate (eqb (digit_of x) 1))) None)

unfoldable pub pair_of : ℕ → ℕ → Option Verb
pair_of c d =
    cond (ltb (digit_of c) 2 && ltb (digit_of d) 2) (Some (Pins (eqb (digit_of c) 1) (eqb (digit_of d) 1))) None

unfoldable pub written_of : ℕ → ℕ → ℕ → Option Verb
written_of a h l =
    cond (ltb (digit_of a) 8)
    (cond (ltb (digit_of h) 16) (cond (ltb (digit_of l) 16) (Some (Write (digit_of a) (digit_of h * 16 + digit_of l))) None) None)
    None

unfoldable pub five_of : List ℕ → Option Verb
five_of v = cond (eqb (get_or v 0 0) 112 && eqb (get_or v 1 0) 9 && eqb (get_or v 3 0) 9) (pair_of (get_or v 2 0) (get_or v 4 0)) None

unfoldable pub six_of : List ℕ → Option Verb
six_of v =
    cond (eqb (get_or v 0 0) 119 && eqb (get_or v 1 0) 9 && eqb (get_or v 3 0) 9)
    (written_of (get_or v 2 0) (get_or v 4 0) (get_or v 5 0)) None

-- one byte for v and d, three for r and g, five for p, six for w
unfoldable pub verb_of : List ℕ → Option Verb
verb_of v =
    cond (eqb (length v) 6) (six_of v)
    (cond (eqb (length v) 1) (bare_of (get_or v 0 0))
    (cond (eqb (length v) 3) (single_of (get_or v 0 0) (get_or v 1 0) (get_or v 2 0))
    (cond (eqb (length v) 5) (five_of v) None)))

-- ## A time: seconds, tab, fraction, tab, in a line of at most 64 bytes; with the place after it

-- what follows the seconds and their tab, which end at that place
unfoldable pub fraction_at : ℕ → ℕ → List ℕ → Option (Time × ℕ)
fraction_at n m l =
    cond (ltb (length l) 17) None
    (cond (not (eqb (get_or l 16 0) 9)) None (option_map (λ f. (record { seconds = n; fraction = f }, m + 17)) (fraction_of l)))

unfoldable pub timed_of : List ℕ → Option (Time × ℕ)
timed_of l = cond (ltb 64 (length l)) None (option_and_then (λ s. fraction_at s.0 s.1 (drop s.1 l)) (seconds_of l))

-- ## A line

unfoldable pub call_of : List ℕ → Option Call
call_of l = option_and_then (λ t. option_map (λ v. record { time = t.0; verb = v }) (verb_of (drop t.1 l))) (timed_of l)
