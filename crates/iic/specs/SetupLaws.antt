-- Laws: what the filter brings leaves the setup's wait alone. Assumes nothing.
use Rattle.bus.specs.declared.Levels.{Levels}
use Rattle.domain.specs.declared.Domain.{Domain}
use Rattle.frames.specs.declared.Frame.{Frame}
use Rattle.frames.specs.declared.Phase.TheVariants.{Ack, Data, Done}
use Rattle.frames.specs.declared.Phase.{Phase}
use Rattle.iic.specs.Answers.{Stepped, and_then, go_on}
use Rattle.iic.specs.Clocking.{filter_fires_of, fire_filter_of, firing}
use Rattle.iic.specs.Conditions.{begun_of, bus_edge_of, raised_of}
use Rattle.iic.specs.Edges.{condition_step_of, fall_ack_of, fall_at, fall_in, fall_of, fall_on, falling_of, filtered_edges_of, insert_wait_of, longer, scl_edge_of, stretch_ends_of}
use Rattle.iic.specs.Falls.{end_frame_of, fall_data_of, fall_idle_of, fall_taken_of, follow_of}
use Rattle.iic.specs.Filter.{filter_pass_of}
use Rattle.iic.specs.Kick.{begin_condition_of, clock_frame_of, command_in, kick_of, launch_in, launch_of}
use Rattle.iic.specs.Ready.{low_half_of, next_frame_of}
use Rattle.iic.specs.Setters.{set_filter_wait}
use Rattle.iic.specs.Shift.{load_transmit_of, rising_of, set_hold_of}
use Rattle.iic.specs.Timing.{Dropping}
use Rattle.iic.specs.TimingLaws.{begun, bus_edge, end_frame, fall_data, fall_idle, fall_taken, follow, hold, load, next_frame, raised, rising}
use Rattle.iic.specs.Waiting.{clock_from, filter_from, schedule_filter_of, start_clock_of, turn_clock_of, at_wait}
use Rattle.iic.specs.declared.Hold.{Hold}
use Rattle.iic.specs.declared.Iic.{Iic}
use Rattle.time.specs.declared.Time.{Time}
use Rattle.waits.specs.Ends.{due_of, turn_half}
use Rattle.std.specs.Prelude.{Bool, cond, false, true, ◌≡◌, refl, Err, None, Ok, Option, Result, Some, ⊤}
use Rattle.std.proofs.Common.{◌∙◌}
use Rattle.clocks.specs.declared.wait.ClockWait.{ClockWait}
use Rattle.refusals.specs.declared.Refusal.{Refusal}
use Rattle.waits.specs.declared.HalfWait.{HalfWait}

-- ## By a test

state_by_lem : (b : Bool) (x y : Stepped) → (cond b x y).state.setup_wait ≡ cond b x.state.setup_wait y.state.setup_wait
state_by_lem true x y = refl
state_by_lem false x y = refl

both : (b : Bool) (w : Option ClockWait) → cond b w w ≡ w
both true w = refl
both false w = refl

then_kept : (o : Stepped) (f : Iic → Stepped) → ((u : Iic) → (f u).state.setup_wait ≡ u.setup_wait) → (and_then o f).state.setup_wait ≡ o.state.setup_wait
then_kept o f k = go o.answer
  where
    go : (e : Result ⊤ Refusal) → (go_on e o f).state.setup_wait ≡ o.state.setup_wait
    go (Ok u) = k o.state
    go (Err n) = refl

-- ## Steps that ask no clock

left : (w : Option ClockWait) → Dropping (λ t. t.setup ≡ w)
left w = record { monitor = λ x h t e. e; both = λ x h t e. e }

load_left : (s : Iic) → (load_transmit_of s).setup_wait ≡ s.setup_wait
load_left s = load (left s.setup_wait) s refl

hold_left : (x : Hold) (s : Iic) → (set_hold_of x s).setup_wait ≡ s.setup_wait
hold_left x s = hold (left s.setup_wait) x s refl

rising_left : (sda : Bool) (s : Iic) → (rising_of sda s).setup_wait ≡ s.setup_wait
rising_left sda s = rising (left s.setup_wait) sda s refl

bus_edge_left : (old : Levels) (s : Iic) → (bus_edge_of old s).setup_wait ≡ s.setup_wait
bus_edge_left old s = bus_edge (left s.setup_wait) old s refl

begun_left : (start : Bool) (s : Iic) → (begun_of start s).setup_wait ≡ s.setup_wait
begun_left start s = begun (left s.setup_wait) start s refl

raised_left : (s : Iic) → (raised_of s).setup_wait ≡ s.setup_wait
raised_left s = raised (left s.setup_wait) s (λ x. refl)

end_left : (s : Iic) → (end_frame_of s).setup_wait ≡ s.setup_wait
end_left s = end_frame (left s.setup_wait) s refl

follow_left : (s : Iic) → (follow_of s).setup_wait ≡ s.setup_wait
follow_left s = follow (left s.setup_wait) s refl

fall_data_left : (s : Iic) → (fall_data_of s).setup_wait ≡ s.setup_wait
fall_data_left s = fall_data (left s.setup_wait) s refl

fall_taken_left : (f : Frame) (now : Time) (s : Iic) → (fall_taken_of f now s).setup_wait ≡ s.setup_wait
fall_taken_left f now s = fall_taken (left s.setup_wait) f now s refl

fall_idle_left : (s : Iic) → (fall_idle_of s).setup_wait ≡ s.setup_wait
fall_idle_left s = fall_idle (left s.setup_wait) s refl

next_frame_left : (s : Iic) → (next_frame_of s).setup_wait ≡ s.setup_wait
next_frame_left s = next_frame (left s.setup_wait) s refl

-- ## Steps in time

clock_from_lem : (x : Result HalfWait Refusal) (s : Iic) → (clock_from x s).state.setup_wait ≡ s.setup_wait
clock_from_lem (Ok v) s = refl
clock_from_lem (Err n) s = refl

filter_from_lem : (x : Result ClockWait Refusal) (s : Iic) → (filter_from x s).state.setup_wait ≡ s.setup_wait
filter_from_lem (Ok v) s = refl
filter_from_lem (Err n) s = refl

start_clock : (now : Time) (d : Domain) (s : Iic) → (start_clock_of now d s).state.setup_wait ≡ s.setup_wait
unfolding start_clock_of
start_clock now d s = simp clock_from_lem

turn_in : (x : Option HalfWait) (gate : Bool) (now : Time) (d : Domain) (s : Iic) → (at_wait x (λ w. clock_from (turn_half gate now d w)) s).state.setup_wait ≡ s.setup_wait
turn_in None gate now d s = refl
turn_in (Some v) gate now d s = simp clock_from_lem

longer_in : (x : Option HalfWait) (s : Iic) → (longer x s).state.setup_wait ≡ s.setup_wait
longer_in None s = refl
longer_in (Some v) s = simp clock_from_lem

fall_ack : (f : Frame) (now : Time) (s : Iic) → (fall_ack_of f now s).state.setup_wait ≡ s.setup_wait
unfolding fall_ack_of insert_wait_of
fall_ack f now s = simp (state_by_lem, both, longer_in, fall_taken_left)

fall_at_lem : (p : Phase) (f : Frame) (now : Time) (s : Iic) → (fall_at p f now s).state.setup_wait ≡ s.setup_wait
fall_at_lem Data f now s = simp (fall_data_left, load_left)
fall_at_lem Ack f now s = fall_ack f now s
fall_at_lem Done f now s = refl

fall_in_lem : (fr : Option Frame) (now : Time) (s : Iic) → (fall_in fr now s).state.setup_wait ≡ s.setup_wait
fall_in_lem None now s = fall_idle_left s
fall_in_lem (Some f) now s = fall_at_lem f.phase f now s

fall_on_lem : (now : Time) (s : Iic) → (fall_on now s).state.setup_wait ≡ s.setup_wait
unfolding fall_of
fall_on_lem now s = simp (fall_in_lem, follow_left)

command_in_lem : (x : Option Bool) (now : Time) (d : Domain) (s : Iic) → (command_in x now d s).state.setup_wait ≡ s.setup_wait
command_in_lem None now d s = refl
command_in_lem (Some start) now d s = simp (start_clock, begun_left)

launch_in_lem : (fr : Option Frame) (now : Time) (d : Domain) (s : Iic) → (launch_in fr now d s).state.setup_wait ≡ s.setup_wait
unfolding launch_of low_half_of
launch_in_lem None now d s = refl
launch_in_lem (Some f) now d s = simp (state_by_lem, both, hold_left, start_clock)

clock_frame : (now : Time) (d : Domain) (s : Iic) → (clock_frame_of now d s).state.setup_wait ≡ s.setup_wait
unfolding clock_frame_of
clock_frame now d s = simp (state_by_lem, both, launch_in_lem)

kick : (now : Time) (d : Domain) (s : Iic) → (kick_of now d s).state.setup_wait ≡ s.setup_wait
unfolding kick_of begin_condition_of
kick now d s = simp (state_by_lem, both, command_in_lem, clock_frame, load_left, next_frame_left)

falling : (now : Time) (d : Domain) (s : Iic) → (falling_of now d s).state.setup_wait ≡ s.setup_wait
unfolding falling_of
falling now d s =
    simp (state_by_lem, both, kick, then_kept (kick_of now d (end_frame_of s)) (fall_on now) (fall_on_lem now), end_left)

stretch_ends : (now : Time) (d : Domain) (s : Iic) → (stretch_ends_of now d s).state.setup_wait ≡ s.setup_wait
unfolding stretch_ends_of turn_clock_of
stretch_ends now d s = simp (state_by_lem, both, turn_in)

condition_step : (now : Time) (d : Domain) (s : Iic) → (condition_step_of now d s).state.setup_wait ≡ s.setup_wait
unfolding condition_step_of
condition_step now d s = simp (state_by_lem, both, start_clock, raised_left)

scl_edge : (was : Bool) (now : Time) (d : Domain) (s : Iic) → (scl_edge_of was now d s).state.setup_wait ≡ s.setup_wait
unfolding scl_edge_of
scl_edge was now d s = simp (state_by_lem, both, rising_left, falling)

filtered_edges : (old : Levels) (now : Time) (d : Domain) (s : Iic) → (filtered_edges_of old now d s).state.setup_wait ≡ s.setup_wait
unfolding filtered_edges_of
filtered_edges old now d s =
    let o : Stepped = stretch_ends_of now d (bus_edge_of old s) in
    let p : Stepped = and_then o (condition_step_of now d) in
    simp (state_by_lem, both, then_kept p (scl_edge_of old.scl now d) (scl_edge old.scl now d), then_kept o (condition_step_of now d) (condition_step now d), stretch_ends, bus_edge_left)

schedule_filter : (now : Time) (d : Domain) (s : Iic) → (schedule_filter_of now d s).state.setup_wait ≡ s.setup_wait
unfolding schedule_filter_of
schedule_filter now d s = simp (state_by_lem, both, filter_from_lem)

filter_fires : (now : Time) (d : Domain) (s : Iic) → (filter_fires_of now d s).state.setup_wait ≡ s.setup_wait
unfolding filter_fires_of filter_pass_of
filter_fires now d s =
    let t : Iic = set_filter_wait None (filter_pass_of s) in
    then_kept (filtered_edges_of s.lines.filtered now d t) (schedule_filter_of now d) (schedule_filter now d) ∙ filtered_edges s.lines.filtered now d t

fire_in : (x : Result Bool Refusal) (now : Time) (d : Domain) (s : Iic) → (firing x s (filter_fires_of now d s)).state.setup_wait ≡ s.setup_wait
fire_in (Ok true) now d s = filter_fires now d s
fire_in (Ok false) now d s = refl
fire_in (Err n) now d s = refl

-- the filter's wait fires or not
pub setup_kept : (end : Result (Option Time) Refusal) (now : Time) (d : Domain) (s : Iic) → (fire_filter_of end now d s).state.setup_wait ≡ s.setup_wait
unfolding fire_filter_of
setup_kept end now d s = fire_in (due_of end now) now d s
