-- Definitions: a wait for a number of edges of a tap (document 01, module 4; `ClockWait` of clocks.rs). The time that the Rust caches in
-- a running wait is left out; that it is refused where it can't be had is not.
use Rattle.std.specs.Prelude.{ℕ, ◌+◌, ◌-◌, Bool, true, false, cond, eqb, ltb, ⊤, Option, Some, None, Result, Ok, Err, is_ok}
use Rattle.time.specs.declared.Time.{Time}
use Rattle.refusals.specs.declared.Refusal.{Refusal}
use Rattle.refusals.specs.declared.Refusal.TheVariants.{ZeroFrequency, ZeroDivider, Reversed}
use Rattle.refusals.specs.Refusals.{and_then}
use Rattle.time.specs.Time.{earlier, since_of}
use Rattle.clocks.specs.declared.Clocks.{Clocks}
use Rattle.clocks.specs.declared.tap.Tap.{Tap}
use Rattle.clocks.specs.declared.wait.WaitState.{WaitState}
use Rattle.clocks.specs.declared.wait.WaitState.TheVariants.{Running, Paused, Ready}
use Rattle.clocks.specs.declared.wait.ClockWait.{ClockWait}
use Rattle.clocks.specs.declared.wait.Waited.{Waited}
use Rattle.counts.specs.Counts.{fits}
use Rattle.clocks.specs.Tap.{same_tap, tap_validate}
use Rattle.clocks.specs.Clocks.{has_zero, available_of, tap_ticks, tap_edge}

abbrev pub wait_of : Tap → WaitState → ClockWait
wait_of t s = record { tap = t; state = s }

-- a time as a deadline
unfoldable pub dated : Result Time Refusal → Result (Option Time) Refusal
dated edge = and_then edge (λ at. Ok (Some at))

-- the time of a tap's edge, while the tap is available
unfoldable pub edge_deadline : Tap → Clocks → ℕ → Result (Option Time) Refusal
edge_deadline t k n = and_then (available_of k t) (λ b. cond b (dated (tap_edge k n t)) (Ok None))

-- a wait is started where its deadline isn't refused
unfoldable pub started_by : ClockWait → Result (Option Time) Refusal → Result ClockWait Refusal
started_by w deadline = and_then deadline (λ _. Ok w)

-- a running wait to the edge of that number
unfoldable pub started_at : Tap → Clocks → ℕ → Result ClockWait Refusal
started_at t k n = started_by (wait_of t (Running n)) (edge_deadline t k n)

unfoldable pub started_for : Time → ℕ → Tap → Clocks → Result ClockWait Refusal
started_for now n t k = and_then (tap_ticks k now t) (λ m. and_then (fits (m + n)) (started_at t k))

-- `ClockWait::after`: a wait for n edges after now, one for none being over at once. 1, then 2 for the divider 0.
unfoldable pub wait_after : Time → ℕ → Tap → Clocks → Result ClockWait Refusal
wait_after now n t k =
    cond (has_zero k) (Err ZeroFrequency)
    (cond (eqb t.divide 0) (Err ZeroDivider)
    (cond (eqb n 0) (Ok (wait_of t (Ready now))) (started_for now n t k)))

abbrev pub state_deadline : Tap → Clocks → WaitState → Result (Option Time) Refusal
state_deadline t k (Running n) = edge_deadline t k n
state_deadline t k (Paused n) = Ok None
state_deadline t k (Ready at) = Ok (Some at)

-- `ClockWait::deadline`
unfoldable pub wait_deadline : ClockWait → Clocks → Result (Option Time) Refusal
wait_deadline w k = cond (has_zero k) (Err ZeroFrequency) (state_deadline w.tap k w.state)

-- what ended a call, and the wait that is left
abbrev pub kept : Result ⊤ Refusal → ClockWait → Waited
kept ended w = record { ended = ended; wait = w }

-- another wait, or this one where that is refused
unfoldable pub resumed_as : ClockWait → Result ClockWait Refusal → Waited
resumed_as w (Ok v) = kept (Ok tt) v
resumed_as w (Err r) = kept (Err r) w

-- the edges that are left of a running wait: 8 where more than those were counted
unfoldable pub left_at : ClockWait → ℕ → ℕ → Waited
left_at w n m = cond (ltb n m) (kept (Err Reversed) w) (kept (Ok tt) (wait_of w.tap (Paused (n - m))))

abbrev pub left_by : ClockWait → ℕ → Result ℕ Refusal → Waited
left_by w n (Ok m) = left_at w n m
left_by w n (Err r) = kept (Err r) w

unfoldable pub paused_by : ClockWait → Time → Clocks → WaitState → Waited
paused_by w now k (Running n) = left_by w n (tap_ticks k now w.tap)
paused_by w now k (Paused n) = kept (Ok tt) w
paused_by w now k (Ready at) = kept (Ok tt) (wait_of w.tap (Paused 0))

-- a wait whose time has passed can't be paused: 8
abbrev pub paused_unless : ClockWait → Time → Clocks → Result (Option Time) Refusal → Waited
paused_unless w now k (Ok None) = paused_by w now k w.state
paused_unless w now k (Ok (Some at)) = cond (earlier at now) (kept (Err Reversed) w) (paused_by w now k w.state)
paused_unless w now k (Err r) = kept (Err r) w

-- `ClockWait::pause`
unfoldable pub wait_pause : ClockWait → Time → Clocks → Waited
wait_pause w now k = paused_unless w now k (wait_deadline w k)

abbrev pub resumed_by : ClockWait → Time → Clocks → WaitState → Waited
resumed_by w now k (Running n) = kept (Ok tt) w
resumed_by w now k (Paused n) = resumed_as w (wait_after now n w.tap k)
resumed_by w now k (Ready at) = kept (Ok tt) w

-- `ClockWait::resume`
unfoldable pub wait_resume : ClockWait → Time → Clocks → Waited
wait_resume w now k = cond (has_zero k) (kept (Err ZeroFrequency) w) (resumed_by w now k w.state)

-- `ClockWait::validate`: 11 as `Tap::validate`
unfoldable pub wait_validate : ClockWait → Result ⊤ Refusal
wait_validate w = tap_validate w.tap

-- `ClockWait::later_edge`: the time of the edge so many after the one that the wait is for
unfoldable pub made_deadline : Clocks → Result ClockWait Refusal → Result (Option Time) Refusal
made_deadline k made = and_then made (λ w. wait_deadline w k)

unfoldable pub later_target : Tap → Clocks → Result ℕ Refusal → Result (Option Time) Refusal
later_target t k sum = and_then sum (λ n. dated (tap_edge k n t))

unfoldable pub later_running : Tap → Clocks → ℕ → ℕ → Result (Option Time) Refusal
later_running t k count n =
    and_then (available_of k t) (λ b. cond b (later_target t k (fits (n + count))) (Ok None))

abbrev pub later_by : Tap → Clocks → ℕ → WaitState → Result (Option Time) Refusal
later_by t k count (Running n) = later_running t k count n
later_by t k count (Paused n) = Ok None
later_by t k count (Ready at) = made_deadline k (wait_after at count t k)

unfoldable pub wait_later_edge : ClockWait → ℕ → Clocks → Result (Option Time) Refusal
wait_later_edge w count k =
    cond (eqb count 0) (wait_deadline w k) (cond (has_zero k) (Err ZeroFrequency) (later_by w.tap k count w.state))

-- `ClockWait::edges_before`: how many edges of a running wait, from the one that it is for on, come before the end: 7 where the count
-- has no number after it
unfoldable pub upcoming : ℕ → ℕ → Result ℕ Refusal
upcoming n done = and_then (fits (done + 1)) (λ m. Ok (m - n))

abbrev pub up_to : ClockWait → Clocks → ℕ → Result Time Refusal → Result ℕ Refusal
up_to w k n (Ok last) = and_then (tap_ticks k last w.tap) (upcoming n)
up_to w k n (Err r) = Ok 0

unfoldable pub before_end : ClockWait → Time → Clocks → ℕ → Result ℕ Refusal
before_end w end k n = up_to w k n (since_of end (record { seconds = 0; fraction = 1 }))

unfoldable pub edges_running : ClockWait → Time → Clocks → ℕ → Result ℕ Refusal
edges_running w end k n = and_then (available_of k w.tap) (λ b. cond b (before_end w end k n) (Ok 0))

abbrev pub edges_by : ClockWait → Time → Clocks → WaitState → Result ℕ Refusal
edges_by w end k (Running n) = edges_running w end k n
edges_by w end k (Paused n) = Ok 0
edges_by w end k (Ready at) = Ok 0

unfoldable pub wait_edges_before : ClockWait → Time → Clocks → Result ℕ Refusal
wait_edges_before w end k = cond (has_zero k) (Err ZeroFrequency) (edges_by w end k w.state)

-- `ClockWait::select`: the edges already consumed belong to the old tap, the rest join the new one. A refused pause leaves the wait,
-- a refused resume leaves it paused on the new tap.
abbrev pub is_paused : WaitState → Bool
is_paused (Running n) = false
is_paused (Paused n) = true
is_paused (Ready at) = false

unfoldable pub moved_to : ClockWait → Time → Tap → Clocks → ClockWait → Waited
moved_to w now t k p = cond (is_paused w.state) (kept (Ok tt) (wait_of t p.state)) (wait_resume (wait_of t p.state) now k)

unfoldable pub selected_by : ClockWait → Time → Tap → Clocks → Waited → Waited
selected_by w now t k p = cond (is_ok p.ended) (moved_to w now t k p.wait) p

unfoldable pub wait_select : ClockWait → Time → Tap → Clocks → Waited
wait_select w now t k =
    cond (has_zero k) (kept (Err ZeroFrequency) w)
    (cond (eqb t.divide 0) (kept (Err ZeroDivider) w)
    (cond (same_tap w.tap t) (kept (Ok tt) w) (selected_by w now t k (wait_pause w now k))))
