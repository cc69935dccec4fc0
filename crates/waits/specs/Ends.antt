-- Definitions: how waits pause, resume and end (document 01, `advance`, and refusals 11 and 12; numbers in brackets are lines of iic.rs).
use Rattle.std.specs.Prelude.{ℕ, ◌-◌, ◌^◌, Bool, true, false, cond, ltb, Option, Some, None, Result, Ok, Err, ⊤}
use Rattle.time.specs.declared.Time.{Time}
use Rattle.time.specs.Time.{earlier, same_time}
use Rattle.clocks.specs.declared.Clocks.{Clocks}
use Rattle.clocks.specs.System.{on_system, system_deadline}
use Rattle.domain.specs.declared.Domain.{Domain}
use Rattle.clocks.specs.declared.wait.ClockWait.{ClockWait}
use Rattle.clocks.specs.declared.wait.Waited.{Waited}
use Rattle.clocks.specs.Wait.{wait_deadline, wait_pause, wait_resume, wait_validate}
use Rattle.waits.specs.declared.HalfWait.{HalfWait}
use Rattle.waits.specs.Half.{half_deadline, half_pause, half_resume}
use Rattle.refusals.specs.declared.Refusal.{Refusal}
use Rattle.refusals.specs.Refusals.{and_then}

-- ## Absent or present

abbrev pub is_wait : Option ClockWait → Bool
is_wait None = false
is_wait (Some w) = true

abbrev pub is_half : Option HalfWait → Bool
is_half None = false
is_half (Some w) = true

-- ## `set_gate`: waits resume where the gate goes on (true), and pause where it goes off (false)

-- the clock's and the monitor's, which are on the system clock (389)
abbrev pub turn_half : Bool → Time → Domain → HalfWait → Result HalfWait Refusal
turn_half gate now system w = cond gate (half_resume w now system) (half_pause w now system)

-- the wait, or the number: a refused pause or resume leaves the wait as it was
abbrev pub new_wait : Waited → Result ClockWait Refusal
new_wait w = and_then w.ended (λ _. Ok w.wait)

-- the filter's and the setup's, which may be on any tap (404)
abbrev pub turn_wait : Bool → Time → Clocks → ClockWait → Result ClockWait Refusal
turn_wait gate now k w = new_wait (cond gate (wait_resume w now k) (wait_pause w now k))

-- ## Ending

-- the time at which a wait ends, none for an absent one (450 to 457, 467 to 502)
unfoldable pub wait_end : Option ClockWait → Clocks → Result (Option Time) Refusal
wait_end None k = Ok None
wait_end (Some w) k = wait_deadline w k

-- no wait, or one for edges of the system clock itself, as the peripheral starts them
abbrev pub is_on_system : Option ClockWait → Bool
is_on_system None = true
is_on_system (Some w) = on_system w

-- the same of such a wait, by the system domain alone
unfoldable pub system_end : Option ClockWait → Domain → Result (Option Time) Refusal
system_end None system = Ok None
system_end (Some w) system = system_deadline w system

unfoldable pub half_end : Option HalfWait → Domain → Result (Option Time) Refusal
half_end None system = Ok None
half_end (Some w) system = half_deadline w system

-- document 01: a wait fires only if its time equals now; a refused time is refused (470, 487, 493, 502)
unfoldable pub due_of : Result (Option Time) Refusal → Time → Result Bool Refusal
due_of (Ok None) now = Ok false
due_of (Ok (Some t)) now = cond (same_time t now) (Ok true) (Ok false)
due_of (Err n) now = Err n

-- now, or refused: the visit acts on it
abbrev pub acts : Result Bool Refusal → Bool
acts (Ok now) = now
acts (Err n) = true

-- the earlier of a time and another, if there is one
abbrev pub sooner_than : Time → Result (Option Time) Refusal → Result (Option Time) Refusal
sooner_than t (Ok None) = Ok (Some t)
sooner_than t (Ok (Some u)) = cond (earlier u t) (Ok (Some u)) (Ok (Some t))
sooner_than t (Err n) = Err n

-- the earlier of two times, refused at the first that is refused (449 to 461)
unfoldable pub sooner : Result (Option Time) Refusal → Result (Option Time) Refusal → Result (Option Time) Refusal
sooner (Ok None) d = d
sooner (Ok (Some t)) d = sooner_than t d
sooner (Err n) d = Err n

-- ## For `validate`

-- document 01, 11: a wait's tap (911)
abbrev pub tap_refusal : Option ClockWait → Result ⊤ Refusal
tap_refusal None = Ok tt
tap_refusal (Some w) = wait_validate w

-- document 01, refused 12 where this doesn't hold: 1024 more still fit 64 bits (915)
abbrev pub short_half : Option HalfWait → Bool
short_half None = true
short_half (Some w) = ltb w.count (2 ^ 64 - 1024)
