-- Definitions: waits of half clocks (`HalfWait`; numbers in brackets are lines of iic.rs). They look at the system domain alone. A
-- half count that can't be doubled is refusal 7, a sum of half counts past 64 bits is 13, a time that went back is 8.
use Rattle.std.specs.Prelude.{ℕ, ◌+◌, ◌-◌, ◌^◌, Bool, true, false, not, ◌&&◌, cond, leb, ltb, Err, None, Ok, Option, Result}
use Rattle.time.specs.declared.Time.{Time}
use Rattle.domain.specs.declared.Domain.{Domain}
use Rattle.counts.specs.Counts.{fits}
use Rattle.domain.specs.Domain.{domain_half_ticks, domain_half_edge}
use Rattle.clocks.specs.Wait.{dated}
use Rattle.waits.specs.declared.HalfWait.{HalfWait}
use Rattle.refusals.specs.declared.Refusal.{Refusal}
use Rattle.refusals.specs.Refusals.{and_then}
use Rattle.refusals.specs.declared.Refusal.TheVariants.{Reversed, HalfSum}

-- `checked_sub`, or refusal 8 (43)
unfoldable pub difference_of : ℕ → ℕ → Result ℕ Refusal
difference_of a b = cond (leb b a) (Ok (a - b)) (Err Reversed)

-- a half count and so many halves more; refusal 13 where the sum passes 64 bits (document 02, (b))
abbrev pub half_sum : ℕ → ℕ → Result ℕ Refusal
half_sum t n = cond (ltb (t + n) (2 ^ 64)) (Ok (t + n)) (Err HalfSum)

-- a count and so many more (28)
abbrev pub further : Result ℕ Refusal → ℕ → Result ℕ Refusal
further at n = and_then at (λ t. half_sum t n)

-- what is left of n at a count (41)
abbrev pub left_of : ℕ → Result ℕ Refusal → Result ℕ Refusal
left_of n at = and_then at (difference_of n)

-- running to a count, or paused with so many left (20)
abbrev pub half_wait : Bool → ℕ → HalfWait
half_wait p n = record { count = n; paused = p }

-- the wait that has a count, paused or not
abbrev pub made_half : Bool → Result ℕ Refusal → Result HalfWait Refusal
made_half p count = and_then count (λ n. Ok (half_wait p n))

-- `after`: so many half clocks from now on (24)
unfoldable pub half_after : Time → ℕ → Domain → Result HalfWait Refusal
half_after now n system = made_half false (further (domain_half_ticks system now) n)

-- `deadline`: none while paused or while the system clock is stopped (33)
unfoldable pub half_deadline : HalfWait → Domain → Result (Option Time) Refusal
half_deadline w system =
    cond (not w.paused && system.running) (dated (domain_half_edge system w.count)) (Ok None)

-- `pause`: what is left is kept; a paused wait stays as it is (39)
unfoldable pub half_pause : HalfWait → Time → Domain → Result HalfWait Refusal
half_pause w now system = cond w.paused (Ok w) (made_half true (left_of w.count (domain_half_ticks system now)))

-- `resume`: what is left, from now on; a running wait stays as it is (49)
unfoldable pub half_resume : HalfWait → Time → Domain → Result HalfWait Refusal
half_resume w now system = cond w.paused (half_after now w.count system) (Ok w)

-- so many half clocks more, running or paused; a sum past 64 bits is 7, and not 13 (753; document 02, (b))
abbrev pub half_longer : HalfWait → ℕ → Result HalfWait Refusal
half_longer w n = made_half w.paused (fits (w.count + n))
