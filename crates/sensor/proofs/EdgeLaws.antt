-- Laws: what an edge asks doesn't depend on what the rest of the sensor answers; and a conversion is wanted just where an edge asks
-- something outside a quiet time.
use Rattle.std.specs.Prelude.{◌≡◌, ℕ, ◌<◌, Bool, true, false, cond, not, ◌&&◌, ◌||◌, ◌==◌, nat_eq, nat_lt, refl, Option, Some, None, Result, Ok, Err}
use Rattle.std.proofs.Common.{ap, sym, ◌∙◌, arith, eqb-true}
use Rattle.std.proofs.lemmas.Bool.{agree_below_at}
use Rattle.bus.specs.Bus.{levels, shift_in}
use Rattle.sensor.specs.Edge.{change, clocked_of, consumes_of, edge_of, effect_of, falls_at, is_data, is_read_next, prepares_at_fall, rises_at, starts_at, stops_at, takes_at_rise, unasked}
use Rattle.sensor.specs.Falling.{acknowledge_of, falling_of, follow_of, heard_of, launch_of}
use Rattle.sensor.specs.Leaving.{asking, plain}
use Rattle.sensor.specs.Rising.{counted_of, next, read_on_of, rising_of, sampled_of, whole_of, wrote_of}
use Rattle.sensor.specs.State.{abort_of, is_acknowledge, set_bits, set_low, set_phase}
use Rattle.sensor.specs.declared.Change.{Change}
use Rattle.sensor.specs.declared.Edge.{Edge}
use Rattle.sensor.specs.declared.Effect.{Effect}
use Rattle.sensor.specs.declared.Effect.TheVariants as effect
use Rattle.sensor.specs.declared.Following.{Following}
use Rattle.sensor.specs.declared.Following.TheVariants as following
use Rattle.sensor.specs.declared.Outside.{Outside}
use Rattle.sensor.specs.declared.Phase.{Phase}
use Rattle.sensor.specs.declared.Phase.TheVariants as phase
use Rattle.sensor.specs.declared.Receive.{Receive}
use Rattle.sensor.specs.declared.Receive.TheVariants as receive
use Rattle.sensor.specs.declared.State.{State}

-- the two ask the same
abbrev Alike : Edge → Edge → Type 0
Alike a b = a.effect ≡ b.effect

-- so do two choices by one test
choice : (R : Edge → Edge → Type 0) (t : Bool) {a b c d : Edge} → R a b → R c d → R (cond t a c) (cond t b d)
choice R true e f = e
choice R false e f = f

-- ## The answers don't matter

wrote : (w v : Result Bool ℕ) (byte : ℕ) (t u : Option ℕ) (s : State) → Alike (wrote_of w byte t s) (wrote_of v byte u s)
unfolding wrote_of
wrote (Err n) (Err m) byte t u s = refl
wrote (Err n) (Ok q) byte t u s = refl
wrote (Ok p) (Err m) byte t u s = refl
wrote (Ok p) (Ok q) byte t u s = refl

whole : (k : Receive) (byte : ℕ) (o p : Outside) (s : State) → Alike (whole_of k byte o s) (whole_of k byte p s)
unfolding whole_of
whole receive.Address byte o p s = refl
whole receive.Control byte o p s = refl
whole receive.Data byte o p s = wrote o.written p.written byte o.tx p.tx s

rose : (ph : Phase) (sda : Bool) (o p : Outside) (s : State) → Alike (rising_of ph sda o s) (rising_of ph sda p s)
unfolding rising_of sampled_of read_on_of
rose phase.Idle sda o p s = refl
rose (phase.Receive k) sda o p s = choice Alike (next s.bits == 8) (whole k _ o p _) refl
rose (phase.Acknowledge f n) sda o p s = refl
rose (phase.Read n) sda o p s = choice Alike (n == 0) refl (choice Alike (nat_lt n 8) refl refl)
rose (phase.MasterAcknowledge h) sda o p s = refl

followed : (f : Following) (o p : Outside) (s : State) → Alike (follow_of f o s) (follow_of f p s)
unfolding follow_of launch_of
followed following.Control o p s = refl
followed following.Data o p s = refl
followed following.Read o p s = refl
followed following.Idle o p s = refl

fell : (ph : Phase) (o p : Outside) (s : State) → Alike (falling_of ph o s) (falling_of ph p s)
unfolding falling_of acknowledge_of heard_of launch_of
fell phase.Idle o p s = refl
fell (phase.Receive k) o p s = refl
fell (phase.Acknowledge f n) o p s = choice Alike (n == 0) refl (choice Alike (n == 2) (followed f o p _) refl)
fell (phase.Read n) o p s = refl
fell (phase.MasterAcknowledge None) o p s = refl
fell (phase.MasterAcknowledge (Some b)) o p s = choice Alike b refl refl

pub effect_alone : (s : State) (c : Change) (o : Outside) → (edge_of s c o).effect ≡ effect_of s c o.blocked o.quiet
unfolding effect_of edge_of clocked_of
effect_alone s c o =
    let none = unasked o.blocked o.quiet in
    choice Alike o.blocked refl
    (choice Alike (starts_at c || stops_at c) refl
    (choice Alike (o.quiet && not (is_acknowledge s.phase)) refl
    (choice Alike (rises_at c) (rose s.phase c.current.sda o none s)
    (choice Alike (falls_at c) (fell s.phase o none s) refl))))

-- ## Where a conversion is wanted

abbrev asks : Option Effect → Bool
asks None = false
asks (Some (effect.Write p b)) = true
asks (Some (effect.Prepare p)) = true
asks (Some (effect.Acknowledge p)) = true

last_bit : (n : ℕ) → n < 256 → (n == 7) ≡ (next n == 8)
last_bit n h = agree_below_at (λ (m : ℕ). m == 7) (λ (m : ℕ). next m == 8) 256 n refl h

-- whether a choice asks, by what is chosen
asks_either : (t : Bool) (a b : Edge) → asks (cond t a b).effect ≡ cond t (asks a.effect) (asks b.effect)
asks_either true a b = refl
asks_either false a b = refl

whether : (t b : Bool) → (b && t) ≡ cond t b false
whether true true = refl
whether true false = refl
whether false true = refl
whether false false = refl

-- outside a quiet time, with no answer
abbrev free : Outside
free = unasked false false

-- a byte that is whole is written where it is data
takes_whole : (k : Receive) (byte : ℕ) (s : State) → is_data k ≡ asks (whole_of k byte free s).effect
unfolding whole_of wrote_of
takes_whole receive.Address byte s = refl
takes_whole receive.Control byte s = refl
takes_whole receive.Data byte s = refl

-- a rise asks just where the phase and the bits say so
takes : (p : Phase) (sda : Bool) (s : State) → s.bits < 256 → takes_at_rise p s.bits ≡ asks (rising_of p sda free s).effect
unfolding takes_at_rise rising_of sampled_of read_on_of
takes phase.Idle sda s h = refl
takes (phase.Receive k) sda s h =
    let last = nat_eq (next s.bits) 8 in
    let byte = shift_in s.shift sda in
    ap (λ (t : Bool). is_data k && t) (last_bit s.bits h) ∙ whether last (is_data k)
    ∙ ap (λ (t : Bool). cond last t false) (takes_whole k byte (abort_of s))
    ∙ sym (asks_either last (whole_of k byte free (abort_of s)) (plain None (set_bits (next s.bits) byte s)))
takes (phase.Acknowledge f n) sda s h = refl
takes (phase.Read n) sda s h = by (n == 0) (nat_lt n 8)
  where
    by : (t u : Bool) → t ≡ asks (cond t (asking (Some (effect.Acknowledge s.pointer)) None (counted_of n s)) (cond u (plain None (counted_of n s)) (plain None s))).effect
    by true u = refl
    by false true = refl
    by false false = refl
takes (phase.MasterAcknowledge b) sda s h = refl

-- a fall asks just where the phase says so
prepares : (p : Phase) (s : State) → prepares_at_fall p ≡ asks (falling_of p free s).effect
unfolding prepares_at_fall falling_of acknowledge_of follow_of heard_of launch_of
prepares phase.Idle s = refl
prepares (phase.Receive k) s = refl
prepares (phase.Acknowledge f n) s = by (n == 0) (n == 2) refl refl
  where
    next_one : (g : Following) → is_read_next g ≡ asks (follow_of g free (set_low false s)).effect
    next_one following.Control = refl
    next_one following.Data = refl
    next_one following.Read = refl
    next_one following.Idle = refl

    by : (t u : Bool) → (n == 0) ≡ t → (n == 2) ≡ u
        → (is_read_next f && u) ≡ asks (cond t (plain None (set_phase (phase.Acknowledge f 1) (set_low true s))) (cond u (follow_of f free (set_low false s)) (plain None s))).effect
    by true true i j = absurd (omega (arith, eqb-true n 0 i, eqb-true n 2 j))
    by true false i j = whether false (is_read_next f)
    by false true i j = whether true (is_read_next f) ∙ next_one f
    by false false i j = whether false (is_read_next f)
prepares (phase.Read n) s = refl
prepares (phase.MasterAcknowledge None) s = refl
prepares (phase.MasterAcknowledge (Some true)) s = refl
prepares (phase.MasterAcknowledge (Some false)) s = refl

-- the same by the levels
clocks : (a c d e : Bool) (s : State) → s.bits < 256
    → (rises_at (change (levels a d) (levels c e)) && takes_at_rise s.phase s.bits || falls_at (change (levels a d) (levels c e)) && prepares_at_fall s.phase)
    ≡ asks (edge_of s (change (levels a d) (levels c e)) free).effect
unfolding edge_of clocked_of
clocks true true true true s h = refl
clocks true true true false s h = refl
clocks true true false true s h = refl
clocks true true false false s h = refl
clocks true false d e s h = prepares s.phase s
clocks false true d e s h = or_false (takes_at_rise s.phase s.bits) ∙ takes s.phase e s h
  where
    or_false : (t : Bool) → (t || false) ≡ t
    or_false true = refl
    or_false false = refl
clocks false false d e s h = refl

pub consumes_asked : (s : State) (c : Change) (blocked quiet : Bool) → s.bits < 256
    → consumes_of s c blocked quiet ≡ (not quiet && asks (effect_of s c blocked quiet))
unfolding consumes_of effect_of edge_of
consumes_asked s c true true h = refl
consumes_asked s c true false h = refl
consumes_asked s c false true h = refl
consumes_asked s c false false h = clocks c.previous.scl c.current.scl c.previous.sda c.current.sda s h
