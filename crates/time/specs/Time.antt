-- Definitions: times as numbers of units of 2 ^ -64 s (document 01, module 1, and "What takes another form": the high word is seconds).
use Rattle.std.specs.Prelude.{ℕ, ◌+◌, ◌-◌, ◌*◌, ◌/◌, ◌%◌, ◌^◌, Bool, cond, ◌==◌, nat_lt, Result, Ok, Err}
use Rattle.time.specs.declared.Time.{Time}
use Rattle.refusals.specs.declared.Refusal.{Refusal}
use Rattle.refusals.specs.declared.Refusal.TheVariants.{Overflow, Reversed}

-- the units since time 0
abbrev pub time_of : Time → ℕ
time_of t = t.seconds * 2 ^ 64 + t.fraction

-- the time of that number of units
abbrev pub time_from : ℕ → Time
time_from n = record { seconds = n / 2 ^ 64; fraction = n % 2 ^ 64 }

-- that time, and refusal 7, `Overflow`, past the last time, 2 ^ 128 - 1
unfoldable pub moment_of : ℕ → Result Time Refusal
moment_of n = cond (nat_lt n (2 ^ 128)) (Ok (time_from n)) (Err Overflow)

-- time.rs: the order of `Time`
unfoldable pub earlier : Time → Time → Bool
earlier a b = nat_lt (time_of a) (time_of b)

-- time.rs: the equality of `Time`
unfoldable pub same_time : Time → Time → Bool
same_time a b = time_of a == time_of b

-- time.rs: `Time::checked_add`
unfoldable pub sum_of : Time → Time → Result Time Refusal
sum_of a b = moment_of (time_of a + time_of b)

-- time.rs: `Time::duration_since`; refusal 8, `Reversed`, where the other time is the later
unfoldable pub since_of : Time → Time → Result Time Refusal
since_of a b = cond (nat_lt (time_of a) (time_of b)) (Err Reversed) (Ok (time_from (time_of a - time_of b)))

-- document 01, module 3: edges at or before now are those before one unit later; the last time has none later and stands for itself
unfoldable pub next_time : Time → Time
next_time t = cond (nat_lt (time_of t + 1) (2 ^ 128)) (time_from (time_of t + 1)) t

-- document 01, module 4: the odd half edge between edges a and b, a + floor((b - a) / 2)
unfoldable pub midway : Time → Time → Time
midway a b = time_from (time_of a + (time_of b - time_of a) / 2)
