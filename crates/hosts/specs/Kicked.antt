-- Laws: every kick that isn't refused leaves a settled state.
use Rattle.std.specs.Prelude.{Bool, true, false, not, ◌&&◌, ◌||◌, cond, ◌≡◌, refl, None, Option, Some}
use Rattle.std.proofs.Common.{true≢false}
use Rattle.std.proofs.lemmas.Bool.{false≢true}
use Rattle.std.proofs.Math.Bool.{or-true, and-false}
use Rattle.bus.specs.Bits.{has}
use Rattle.time.specs.declared.Time.{Time}
use Rattle.domain.specs.declared.Domain.{Domain}
use Rattle.iic.specs.declared.Iic.{Iic}
use Rattle.frames.specs.declared.Frame.{Frame}
use Rattle.iic.specs.declared.Hold.TheVariants.{Transmit}
use Rattle.registers.specs.Bits.{TDRE}
use Rattle.iic.specs.Answers.{Stepped, and_then, fine}
use Rattle.waits.specs.Half.{half_after}
use Rattle.iic.specs.Ready.{ready, command_ready, frame_due, next_frame_of, clock_due, low_half_of, level_at}
use Rattle.iic.specs.Conditions.{first_condition, begun_of}
use Rattle.iic.specs.Kick.{command_in, begin_condition_of, launch_of, launch_in, clock_frame_of, kick_of}
use Rattle.iic.specs.Setters.{set_frame, set_clock_wait}
use Rattle.frames.specs.Parts.{starved, is_done}
use Rattle.iic.specs.Shift.{can_load, load_in, load_transmit_of, begin_frame_of, set_hold_of}
use Rattle.iic.specs.State.{awake, master, synchronous, framed, commanded, conditioned, held, is_condition}
use Rattle.rates.specs.Rates.{period_of}
use Rattle.iic.specs.Waiting.{start_clock_of}
use Rattle.iic.specs.Settled.{loads_in, loads, rests, settled}
use Rattle.hosts.specs.Invariant.{Leaves}
use Rattle.hosts.specs.Left.{wait_leaves, left, then_leaves}

abbrev pub Settled : Iic → Type 0
Settled s = settled s ≡ true

abbrev pub Settles : Stepped → Type 0
Settles o = Leaves Settled o

-- ## Every kick that isn't refused leaves a settled state

pub unready : (s : Iic) → ready s ≡ false → settled s ≡ true
unfolding settled
unready s e = rw e

in_condition : (s : Iic) → conditioned s ≡ true → settled s ≡ true
in_condition s e = unready s (rw e (and-false (awake s && not s.flags.reset)))

begun : (b : Bool) → is_condition (first_condition b) ≡ true
begun true = refl
begun false = refl

command_settles : (now : Time) (k : Domain) (c : Option Bool) (s : Iic) → command_ready s ≡ true → s.command ≡ c → Settles (command_in c now k s)
unfolding start_clock_of begun_of
command_settles now k None s h e = absurd (false≢true (rw e at h))
command_settles now k (Some start) s h e =
    wait_leaves Settled set_clock_wait (half_after now (period_of s.rates s.registers.control) k) (begun_of start s) (λ v i. in_condition _ (begun start))

-- what holds of a state that a kick has given its frame
record Framed (s : Iic) : Type 0 where
  no_command : command_ready s ≡ false
  no_frame : frame_due s ≡ false

load_framed : (fr : Option Frame) (s : Iic) (b : Bool) → loads_in fr (has s.registers.status TDRE) ≡ b → Framed (set_frame fr s) → Framed (load_in fr (set_frame fr s))
load_framed None s b e r = r
load_framed (Some f) s true e r = rw e record { no_command = r.no_command; no_frame = refl }
load_framed (Some f) s false e r = rw e r

load_loaded : (fr : Option Frame) (s : Iic) (b : Bool) → loads_in fr (has s.registers.status TDRE) ≡ b
    → loads (load_in fr (set_frame fr s)) ≡ false
load_loaded None s b e = refl
load_loaded (Some f) s true e = rw e (rw (and-false f.transmit) refl)
load_loaded (Some f) s false e = rw e e

transmit_framed : (s : Iic) → Framed s → Framed (load_transmit_of s)
unfolding load_transmit_of
transmit_framed s r = load_framed s.frame s (loads s) refl r

transmit_loaded : (s : Iic) → loads (load_transmit_of s) ≡ false
unfolding load_transmit_of
transmit_loaded s = load_loaded s.frame s (loads s) refl

-- with a frame, fewer commands can begin
fewer : (n x y : Bool) → (n && (x || y)) ≡ false → (n && (false || y)) ≡ false
fewer false x y h = refl
fewer true true y h = absurd (true≢false h)
fewer true false y h = h

next_framed : (s : Iic) (b : Bool) → frame_due s ≡ b → command_ready s ≡ false → Framed (next_frame_of s)
unfolding next_frame_of begin_frame_of
next_framed s true e h =
    rw e (transmit_framed _ record { no_command = fewer (commanded s) (not (framed s)) (not s.lines.filtered.scl) h; no_frame = refl })
next_framed s false e h = rw e record { no_command = h; no_frame = e }

framed_settled : (s : Iic) → Framed s → loads s ≡ false → (not (clock_due s) || rests s) ≡ true → settled s ≡ true
unfolding settled
framed_settled s r l h = rw (r.no_command, r.no_frame, l, h) (or-true (not (ready s)))

-- a clock isn't due beside a wait, nor while SCL is held
beside_wait : (m h y : Bool) → (m && false && h && y) ≡ false
beside_wait true h y = refl
beside_wait false h y = refl

while_held : (m w y : Bool) → (m && w && false && y) ≡ false
while_held true true y = refl
while_held true false y = refl
while_held false w y = refl

hold_settles : (s : Iic) (f : Frame) (b : Bool) → synchronous s ≡ b → Framed (set_frame (Some f) s) → can_load s f ≡ false
    → starved f ≡ true → settled (set_hold_of Transmit (set_frame (Some f) s)) ≡ true
unfolding set_hold_of
hold_settles s f true e r l w =
    rw e (framed_settled (set_frame (Some f) s) r l (rw (w, e) (rw (or-true (is_done f.phase)) (or-true (not (clock_due s))))))
hold_settles s f false e r l w =
    rw e (framed_settled _ record { no_command = r.no_command; no_frame = refl } l (rw (while_held (master s) true (not s.flags.synchronized_hold))))

launch_settles : (now : Time) (k : Domain) (f : Frame) (s : Iic) (d w : Bool)
    → Framed (set_frame (Some f) s) → can_load s f ≡ false → is_done f.phase ≡ d → starved f ≡ w
    → Settles (launch_of f now k (set_frame (Some f) s))
unfolding launch_of start_clock_of low_half_of
launch_settles now k f s true w r l p q = rw p (framed_settled _ r l (rw p (or-true (not (clock_due s)))))
launch_settles now k f s false true r l p q = rw (p, q) (hold_settles s f (synchronous s) refl r l q)
launch_settles now k f s false false r l p q =
    rw (p, q) (wait_leaves Settled set_clock_wait (half_after now (period_of s.rates s.registers.control) k) (low_half_of (level_at f.phase f (set_frame (Some f) s)) (set_frame (Some f) s)) (λ v i.
    framed_settled _ record { no_command = r.no_command; no_frame = refl } l
    (rw (beside_wait (master s) (not (held s)) (not s.flags.synchronized_hold)))))

clock_settles : (now : Time) (k : Domain) (fr : Option Frame) (s : Iic) (b : Bool)
    → Framed (set_frame fr s) → loads_in fr (has s.registers.status TDRE) ≡ false → clock_due s ≡ b
    → Settles (cond b (launch_in fr now k (set_frame fr s)) (fine (set_frame fr s)))
clock_settles now k fr s false r l e = framed_settled (set_frame fr s) r l (rw e refl)
clock_settles now k None s true r l e = framed_settled (set_frame None s) r refl (or-true (not (clock_due s)))
clock_settles now k (Some f) s true r l e = launch_settles now k f s (is_done f.phase) (starved f) r l refl refl

frame_settles : (now : Time) (k : Domain) (s : Iic) → Framed s → loads s ≡ false → Settles (clock_frame_of now k s)
unfolding clock_frame_of
frame_settles now k s r l = clock_settles now k s.frame s (clock_due s) r l refl

kick_settles_at : (now : Time) (k : Domain) (s : Iic) (a b : Bool) → ready s ≡ a → command_ready s ≡ b → Settles (kick_of now k s)
unfolding kick_of begin_condition_of
kick_settles_at now k s false b p q = rw p (unready s p)
kick_settles_at now k s true true p q = rw (p, q) (command_settles now k s.command s q refl)
kick_settles_at now k s true false p q =
    let n : Iic = next_frame_of s in
    rw (p, q) (frame_settles now k (load_transmit_of n)
    (transmit_framed n (next_framed s (frame_due s) refl q)) (transmit_loaded n))

pub kick_settles : (now : Time) (k : Domain) (s : Iic) → Settles (kick_of now k s)
kick_settles now k s = kick_settles_at now k s (ready s) (command_ready s) refl refl

-- a call that ends in a kick
pub then_kick : (now : Time) (k : Domain) (o : Stepped) → Settles (and_then o (kick_of now k))
then_kick now k o = then_leaves (λ s. Unit {0}) Settled o (kick_of now k) (left (λ s. Unit {0}) o tt) (λ s h. kick_settles now k s)
