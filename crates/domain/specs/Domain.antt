-- Definitions: a domain, one clock with its phase (document 01, module 3; domain.rs), its level and its half counts (module 4;
-- clocks.rs, `high`, `system_half_ticks`, `system_half_edge`).
use Rattle.std.specs.Prelude.{ℕ, ◌+◌, ◌-◌, ◌*◌, ◌/◌, ◌%◌, ◌^◌, Bool, true, not, ◌&&◌, cond, eqb, ltb, Result, Ok, Err}
use Rattle.time.specs.declared.Time.{Time}
use Rattle.time.specs.declared.Clock.{Clock}
use Rattle.std.specs.Result.{result_unwrap_or}
use Rattle.refusals.specs.declared.Refusal.{Refusal}
use Rattle.refusals.specs.declared.Refusal.TheVariants.{ZeroFrequency, Overflow}
use Rattle.refusals.specs.Refusals.{and_then}
use Rattle.time.specs.Time.{earlier, next_time, midway}
use Rattle.time.specs.Clock.{zero_in, new_clock, after_of, edges_before_of}
use Rattle.domain.specs.declared.Domain.{Domain}

-- a domain whose clock runs from now on
abbrev pub running_from : Time → Clock → Domain
running_from now c = record { clock = c; running = true; held_at = now }

-- `Domain::new`: refusal 1 as `Clock::new`
unfoldable pub new_domain : Time → ℕ → ℕ → Result Domain Refusal
new_domain now hz divide = and_then (new_clock now hz divide) (λ c. Ok (running_from now c))

-- the time that the domain's clock shows: a stopped one stands still
abbrev pub shown : Domain → Time → Time
shown d now = cond d.running now d.held_at

-- `Domain::time`
unfoldable pub domain_time : Domain → Time → Result Time Refusal
domain_time d now = cond (zero_in d.clock) (Err ZeroFrequency) (Ok (shown d now))

-- `Domain::ticks`: a running domain counts the edges at or before now, those before the next unit of time; at the last time, which has
-- none after it, only those before it. A stopped one counts its ordinal.
unfoldable pub domain_ticks : Domain → Time → Result ℕ Refusal
domain_ticks d now =
    cond (zero_in d.clock) (Err ZeroFrequency) (cond d.running (edges_before_of d.clock (next_time now)) (Ok d.clock.ordinal))

-- the last time, 2 ^ 128 - 1
abbrev pub last_time : Time
last_time = record { seconds = 2 ^ 64 - 1; fraction = 2 ^ 64 - 1 }

-- the clock's edge of that number, or the last time where that comes first
unfoldable pub edge_or_last : Clock → ℕ → Time
edge_or_last c n = result_unwrap_or (after_of c n) last_time

-- the clock is high from an edge to the middle between it and the next
unfoldable pub high_between : Time → Time → Time → Bool
high_between now a b = not (earlier now a) && earlier now (midway a b)

-- The level of the domain's own clock, where n edges were counted. Before its start it isn't high. Refusal 7 where there is no
-- number for the next edge.
unfoldable pub level_high : Domain → Time → ℕ → Result Bool Refusal
level_high d now n =
    cond (eqb n (2 ^ 64 - 1)) (Err Overflow)
    (Ok (high_between (shown d now) (edge_or_last d.clock n) (edge_or_last d.clock (n + 1))))

-- the same, of a domain that is handed in: refusal 1 first
unfoldable pub domain_high : Domain → Time → ℕ → Result Bool Refusal
domain_high d now n = cond (zero_in d.clock) (Err ZeroFrequency) (level_high d now n)

-- twice the count, plus 1 while the clock isn't high
unfoldable pub halves : ℕ → Result Bool Refusal → Result ℕ Refusal
halves n high = and_then high (λ h. Ok (2 * n + cond h 0 1))

unfoldable pub halves_of : Domain → Time → ℕ → Result ℕ Refusal
halves_of d now n = cond (ltb n (2 ^ 63)) (halves n (level_high d now n)) (Err Overflow)

-- the half count of a domain (document 01, module 4): refusal 7 where the count can't be doubled
unfoldable pub domain_half_ticks : Domain → Time → Result ℕ Refusal
domain_half_ticks d now = and_then (domain_ticks d now) (halves_of d now)

-- the odd half edge between edge a and edge b: a + floor((b - a) / 2)
unfoldable pub odd_edge : Time → Result Time Refusal → Result Time Refusal
odd_edge a next = and_then next (λ b. Ok (midway a b))

-- the half edge of that number
unfoldable pub domain_half_edge : Domain → ℕ → Result Time Refusal
domain_half_edge d tick =
    and_then (after_of d.clock (tick / 2))
    (λ a. cond (eqb (tick % 2) 0) (Ok a) (odd_edge a (after_of d.clock (tick / 2 + 1))))
