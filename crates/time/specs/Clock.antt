-- Definitions: the edges of a clock and their counts (document 01, module 1), and the move of its start (document 02, (k)).
use Rattle.std.specs.Prelude.{ℕ, zero, suc, ◌+◌, ◌-◌, ◌*◌, ◌/◌, ◌%◌, ◌^◌, Bool, cond, not, ◌&&◌, ◌||◌, ltb, ◌==◌, nat_lt, Result, Ok, Err}
use Rattle.time.specs.Time.{time_from, time_of, moment_of}
use Rattle.time.specs.declared.Time.{Time}
use Rattle.time.specs.declared.Clock.{Clock}
use Rattle.refusals.specs.declared.Refusal.{Refusal}
use Rattle.refusals.specs.declared.Refusal.TheVariants.{ZeroFrequency, Overflow, Reversed}

-- edge n, for n from the ordinal on, of a clock with start s, numerator h, denominator d, ordinal o and fraction f:
-- s + floor(((n - o) * d * 2 ^ 64 + f) / h) (document 01, module 1, where o and f are 0; document 02, (k))
unfoldable pub edge_of : Clock → ℕ → ℕ
edge_of c n = time_of c.start + ((n - c.ordinal) * c.denominator * 2 ^ 64 + c.fraction) / c.numerator

-- how many of the numbers from 1 to k pass the test (for document 01, module 1: the number of n of 1 or more)
unfoldable pub count_to : (ℕ → Bool) → ℕ → ℕ
count_to test zero = 0
count_to test (suc k) = count_to test k + cond (test (suc k)) 1 0

-- The ordinal and the number of n of 1 or more whose edge, n after the start, is earlier than the limit, at most 2 ^ 64 - 1 (document 01, module 1;
-- document 02, (k): earlier times count as the ordinal). No edge is earlier than the one before it, so that those n are 1, 2 and so on, and it is
-- the number of them from 1 to as many as the ordinal leaves of 2 ^ 64 - 1.
unfoldable pub edges_before : Clock → ℕ → ℕ
edges_before c limit = c.ordinal + count_to (λ n. ltb (edge_of c (c.ordinal + n)) limit) (2 ^ 64 - 1 - c.ordinal)

-- whether the clock holds a zero frequency or denominator (document 01, refusal 1), or a fraction that isn't below its numerator (document 02, (k))
unfoldable pub zero_in : Clock → Bool
zero_in c = c.numerator == 0 || c.denominator == 0 || not (nat_lt c.fraction c.numerator)

-- `Clock::new` of time.rs: the clock, or refusal 1
abbrev pub unless_zero : Clock → Result Clock Refusal
unless_zero c = cond (zero_in c) (Err ZeroFrequency) (Ok c)

unfoldable pub new_clock : Time → ℕ → ℕ → Result Clock Refusal
new_clock s h d = unless_zero (record { start = s; numerator = h; denominator = d; ordinal = 0; fraction = 0 })

-- `Clock::after` of time.rs, by the edge's own number: refusal 1 comes first (document 01, the order of refusals), then 8 below the ordinal
unfoldable pub after_of : Clock → ℕ → Result Time Refusal
after_of c n = cond (zero_in c) (Err ZeroFrequency) (cond (nat_lt n c.ordinal) (Err Reversed) (moment_of (edge_of c n)))

-- `Clock::edges_before` of time.rs, which always has a count
unfoldable pub edges_before_of : Clock → Time → Result ℕ Refusal
edges_before_of c limit = cond (zero_in c) (Err ZeroFrequency) (Ok (edges_before c (time_of limit)))

-- ## The move: `Clock::advance` of time.rs

-- n periods and the fraction, in parts of 1 / numerator of a unit
abbrev pub span : Clock → ℕ → ℕ
span c n = n * c.denominator * 2 ^ 64 + c.fraction

-- the nth edge after the start, in units
abbrev pub start_after : ℕ → Clock → ℕ
start_after n c = time_of c.start + span c n / c.numerator

-- "moving by n sets the start to the nth edge after it, the ordinal to n more and the fraction to the part left over" (document 02, (k))
unfoldable pub moved_by : ℕ → Clock → Clock
moved_by n c = record {
  start = time_from (start_after n c);
  numerator = c.numerator;
  denominator = c.denominator;
  ordinal = c.ordinal + n;
  fraction = span c n % c.numerator;
}

-- that edge is a time, and that ordinal a word
abbrev pub in_width : ℕ → Clock → Bool
in_width n c = nat_lt (start_after n c) (2 ^ 128) && nat_lt (c.ordinal + n) (2 ^ 64)

-- refusal 1 comes first, then 7 where the edge or the ordinal leaves its width
unfoldable pub move_of : ℕ → Clock → Result Clock Refusal
move_of n c = cond (zero_in c) (Err ZeroFrequency) (cond (in_width n c) (Ok (moved_by n c)) (Err Overflow))
