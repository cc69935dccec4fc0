-- Laws: a kick does nothing on a settled state, at any time; a state that isn't settled is ready.
use Rattle.std.specs.Prelude.{Bool, true, false, not, ◌&&◌, ◌||◌, cond, ◌≡◌, refl, None, Option, Some}
use Rattle.std.proofs.Common.{true≢false}
use Rattle.std.proofs.lemmas.Bool.{false≢true}
use Rattle.bus.specs.Bits.{has}
use Rattle.time.specs.Truths.{and_left, and_right, not_so}
use Rattle.time.specs.declared.Time.{Time}
use Rattle.domain.specs.declared.Domain.{Domain}
use Rattle.frames.specs.declared.Frame.{Frame}
use Rattle.frames.specs.Parts.{starved, is_done}
use Rattle.iic.specs.declared.Iic.{Iic}
use Rattle.iic.specs.declared.Hold.{Hold}
use Rattle.iic.specs.declared.Hold.TheVariants.{Transmit}
use Rattle.iic.specs.Answers.{fine}
use Rattle.registers.specs.Bits.{TDRE}
use Rattle.iic.specs.Kick.{launch_of, launch_in, clock_frame_of, kick_of}
use Rattle.iic.specs.Ready.{ready, command_ready, frame_due, next_frame_of, clock_due}
use Rattle.iic.specs.Settled.{loads_in, loads, rests_in, at_rest, settled}
use Rattle.iic.specs.Shift.{load_in, load_transmit_of, set_hold_of}
use Rattle.iic.specs.State.{synchronous}

next_same : (s : Iic) → frame_due s ≡ false → next_frame_of s ≡ s
unfolding next_frame_of
next_same s h = rw h

load_same : (fr : Option Frame) (s : Iic) → loads_in fr (has s.registers.status TDRE) ≡ false → load_in fr s ≡ s
load_same None s h = refl
load_same (Some f) s h = rw h

hold_same : (h : Hold) (s : Iic) → synchronous s ≡ true → set_hold_of h s ≡ s
unfolding set_hold_of
hold_same h s e = rw e

launch_rests : (now : Time) (k : Domain) (f : Frame) (s : Iic) (d w : Bool)
    → is_done f.phase ≡ d → starved f ≡ w → (d || w && synchronous s) ≡ true → launch_of f now k s ≡ fine s
unfolding launch_of
launch_rests now k f s true w p q h = rw p
launch_rests now k f s false true p q h = rw (p, q, hold_same Transmit s h)
launch_rests now k f s false false p q h = absurd (false≢true h)

clock_same : (now : Time) (k : Domain) (fr : Option Frame) (s : Iic) (b : Bool) → (not b || rests_in fr (synchronous s)) ≡ true
    → cond b (launch_in fr now k s) (fine s) ≡ fine s
clock_same now k fr s false h = refl
clock_same now k None s true h = refl
clock_same now k (Some f) s true h = launch_rests now k f s (is_done f.phase) (starved f) refl refl h

rest_same : (now : Time) (k : Domain) (s : Iic) → at_rest s ≡ true → clock_frame_of now k (load_transmit_of (next_frame_of s)) ≡ fine s
unfolding clock_frame_of load_transmit_of
rest_same now k s h =
    rw (next_same s (not_so _ (and_left _ _ h)))
    (rw (load_same s.frame s (not_so _ (and_left _ _ (and_right (not (frame_due s)) _ h))))
    (clock_same now k s.frame s (clock_due s) (and_right (not (loads s)) _ (and_right (not (frame_due s)) _ h))))

kick_cases : (now : Time) (k : Domain) (s : Iic) (a b : Bool) → ready s ≡ a → command_ready s ≡ b
    → (not a || (not b && at_rest s)) ≡ true → kick_of now k s ≡ fine s
unfolding kick_of
kick_cases now k s false b p q h = rw p
kick_cases now k s true true p q h = absurd (false≢true h)
kick_cases now k s true false p q h = rw (p, q, rest_same now k s h)

-- a kick on a settled state does nothing, at any time, and isn't refused
pub settled_kick : (now : Time) (k : Domain) (s : Iic) → settled s ≡ true → kick_of now k s ≡ fine s
unfolding settled
settled_kick now k s h = kick_cases now k s (ready s) (command_ready s) refl refl h

ready_by : (a b : Bool) → (not a || b) ≡ false → a ≡ true
ready_by true b h = refl
ready_by false b h = absurd (true≢false h)

pub unsettled_ready : (s : Iic) → settled s ≡ false → ready s ≡ true
unfolding settled
unsettled_ready s h = ready_by (ready s) _ h
