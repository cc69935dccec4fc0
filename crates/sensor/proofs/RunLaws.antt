-- Laws: every state that a run reaches is accepted, and pulls SDA only in an acknowledge or a read.
use Rattle.std.specs.Prelude.{◌≡◌, ℕ, ◌/◌, ◌%◌, ◌^◌, Bool, true, false, cond, not, ◌&&◌, ◌||◌, ltb, List, [], ◌∷◌, ◌==◌, ◌≢◌, nat_lt, refl, Option, Some, None, Result, Ok, Err}
use Rattle.std.proofs.Common.{ap, sym, subst, ◌∙◌, mod-lt, arith, eqb-true, lt-ltb, ltb-true}
use Rattle.std.specs.Bool.{beq}
use Rattle.std.proofs.lemmas.Bool.{and_from, and_parts, cond_both, eqb-false, false≢true, not-true, true≢false}
use Rattle.bus.specs.Bus.{levels, shift_in}
use Rattle.bus.specs.declared.Levels.{Levels}
use Rattle.sensor.specs.Below.{all, all_below}
use Rattle.sensor.specs.Edge.{begun_of, change, clocked_of, edge_of, starts_at, stops_at}
use Rattle.sensor.specs.Falling.{acknowledge_of, falling_of, follow_of, heard_of, launch_of, send_of}
use Rattle.sensor.specs.Rising.{addressed_of, asked_by, counted_of, next, own_address, read_on_of, rising_of, sampled_of, whole_of, wrote_of}
use Rattle.sensor.specs.Runs.{ReachedStates, Reached, Step, abort, after, edge, fresh, may_pull, run}
use Rattle.sensor.specs.State.{abort_of, acknowledging, fits_in, is_acknowledge, is_idle, no_bits, set_low, set_phase, set_pointer, sound_of, validate_of}
use Rattle.sensor.specs.declared.Edge.{Edge}
use Rattle.sensor.specs.declared.Following.{Following}
use Rattle.sensor.specs.declared.Following.TheVariants as following
use Rattle.sensor.specs.declared.Outside.{Outside}
use Rattle.sensor.specs.declared.Phase.{Phase}
use Rattle.sensor.specs.declared.Phase.TheVariants as phase
use Rattle.sensor.specs.declared.Receive.{Receive}
use Rattle.sensor.specs.declared.Receive.TheVariants as receive
use Rattle.sensor.specs.declared.State.{State}

-- ## Tests

or_right : (a b : Bool) → a ≡ false → (a || b) ≡ true → b ≡ true
or_right true b e f = absurd (true≢false e)
or_right false b e f = f

-- ## What every state reached meets, by the level of SCL

-- an acknowledge is between its eighth and its ninth clock where SCL is low, and otherwise in one of them
abbrev level_at : Phase → Bool → Bool
level_at phase.Idle scl = true
level_at (phase.Receive k) scl = true
level_at (phase.Acknowledge f n) scl = beq scl (not (n == 1))
level_at (phase.Read n) scl = true
level_at (phase.MasterAcknowledge h) scl = true

abbrev Good : Bool → State → Type 0
Good scl s = (nat_lt s.pointer 128 ≡ true) × ((level_at s.phase scl ≡ true) × (sound_of s.phase s ≡ true))

-- of what an edge leaves
abbrev Leaves : Bool → Edge → Type 0
Leaves scl e = Good scl e.state

aborted : (scl : Bool) (s : State) → nat_lt s.pointer 128 ≡ true → Good scl (abort_of s)
unfolding sound_of
aborted scl s h = (h, (refl, refl))

low_seven : (n : ℕ) → nat_lt (n % 128) 128 ≡ true
low_seven n = lt-ltb (n % 128) 128 (mod-lt n (ltb-true 0 128 refl))

-- ## Where SCL rises

acknowledged : (f : Following) (s : State) → nat_lt s.pointer 128 ≡ true → Good true (acknowledging f (abort_of s))
unfolding sound_of
acknowledged f s h = (h, (refl, refl))

wrote : (w : Result Bool ℕ) (byte : ℕ) (tx : Option ℕ) (s : State) → nat_lt s.pointer 128 ≡ true → Leaves true (wrote_of w byte tx (abort_of s))
unfolding wrote_of
wrote (Err n) byte tx s h = aborted true s h
wrote (Ok q) byte tx s h = acknowledged (cond q following.Idle following.Control) s h

whole : (k : Receive) (byte : ℕ) (o : Outside) (s : State) → nat_lt s.pointer 128 ≡ true → Leaves true (whole_of k byte o (abort_of s))
unfolding whole_of addressed_of
whole receive.Address byte o s h =
    cond_both (byte / 2 == own_address) _ _ (Good true) (λ t. acknowledged (asked_by byte) s h) (λ t. aborted true s h)
whole receive.Control byte o s h = acknowledged following.Data (set_pointer (byte % 128) s) (low_seven byte)
whole receive.Data byte o s h = wrote o.written byte o.tx s h

-- one bit more, and one more bit to hold it
abbrev grows : Bool → ℕ → Bool
unfolding fits_in
grows sda n = next n == 8 || all (λ (x : ℕ). fits_in (shift_in x sda) (next n)) (2 ^ n)

grows_each : (sda : Bool) → all (grows sda) 8 ≡ true
unfolding fits_in
grows_each true = refl
grows_each false = refl

shifted : (byte bits : ℕ) (sda : Bool) → fits_in byte bits ≡ true → (next bits == 8) ≡ false → fits_in (shift_in byte sda) (next bits) ≡ true
unfolding fits_in
shifted byte bits sda e f =
    let fits = and_parts (nat_lt bits 8) (nat_lt byte (2 ^ bits)) e in
    let each : ℕ → Bool = λ x. fits_in (shift_in x sda) (next bits) in
    all_below each (2 ^ bits)
    (or_right (next bits == 8) (all each (2 ^ bits)) f (all_below (grows sda) 8 (grows_each sda) bits (ltb-true bits 8 fits.0)))
    byte
    (ltb-true byte (2 ^ bits) fits.1)

sampled : (k : Receive) (sda : Bool) (o : Outside) (s : State)
    → nat_lt s.pointer 128 ≡ true
    → (not s.low && fits_in s.shift s.bits) ≡ true
    → Leaves true (sampled_of k sda o (set_phase (phase.Receive k) s))
unfolding sampled_of sound_of
sampled k sda o s h e =
    let parts = and_parts (not s.low) (fits_in s.shift s.bits) e in
    cond_both (next s.bits == 8) _ _ (Leaves true)
    (λ t. whole k (shift_in s.shift sda) o s h)
    (λ t. (h, (refl, and_from (not s.low) (fits_in (shift_in s.shift sda) (next s.bits)) parts.0 (shifted s.shift s.bits sda parts.1 t))))

counted : (n : ℕ) (s : State) → nat_lt s.pointer 128 ≡ true → no_bits s ≡ true → nat_lt n 8 ≡ true → Good true (counted_of n (set_phase (phase.Read n) s))
unfolding counted_of sound_of
counted n s h e l =
    cond_both (n == 7) _ _ (Good true)
    (λ t. (low_seven (next s.pointer), (refl, and_from (no_bits s) true e refl)))
    (λ t. (h, (refl, and_from (no_bits s) (nat_lt (next n) 9) e (all_below (λ (m : ℕ). ltb (next m) 9) 8 refl n (ltb-true n 8 l)))))

read_on : (n : ℕ) (tx : Option ℕ) (s : State) → Good false (set_phase (phase.Read n) s) → Leaves true (read_on_of n tx (set_phase (phase.Read n) s))
unfolding read_on_of sound_of
read_on n tx s g =
    let none = (and_parts (no_bits s) (nat_lt n 9) g.1.1).0 in
    cond_both (n == 0) _ _ (Leaves true)
    (λ t. counted n s g.0 none (ap (λ (m : ℕ). ltb m 8) (eqb-true n 0 t)))
    (λ t. cond_both (nat_lt n 8) _ _ (Leaves true) (λ l. counted n s g.0 none l) (λ l. g))

rising : (p : Phase) (sda : Bool) (o : Outside) (s : State) → Good false (set_phase p s) → Leaves true (rising_of p sda o (set_phase p s))
unfolding rising_of sound_of
rising phase.Idle sda o s g = g
rising (phase.Receive k) sda o s g = sampled k sda o s g.0 g.1.1
rising (phase.Acknowledge f n) sda o s g = pulled (eqb-true n 1 (not_not (n == 1) g.1.0))
  where
    not_not : (t : Bool) → beq false (not t) ≡ true → t ≡ true
    not_not true e = refl
    not_not false e = e

    pulled : n ≡ 1 → Leaves true (rising_of (phase.Acknowledge f n) sda o (set_phase (phase.Acknowledge f n) s))
    pulled i =
        let sound = subst (λ (m : ℕ). sound_of (phase.Acknowledge f m) s ≡ true) i g.1.1 in
        (g.0, (refl, sound))
rising (phase.Read n) sda o s g = read_on n o.tx s g
rising (phase.MasterAcknowledge h) sda o s g = g

-- ## Where SCL falls

launched : (t : Option ℕ) (s : State) → nat_lt s.pointer 128 ≡ true → no_bits s ≡ true → Leaves false (launch_of t s)
unfolding launch_of sound_of
launched t s h e = (h, (refl, and_from (no_bits s) true e refl))

-- a byte comes in
awaited : (k : Receive) (s : State) → nat_lt s.pointer 128 ≡ true → no_bits s ≡ true → Good false (set_phase (phase.Receive k) (set_low false s))
unfolding sound_of fits_in
awaited k s h e =
    let none = and_parts (s.bits == 0) (s.shift == 0) e in (
      h,
      (
        refl,
        subst (λ (m : ℕ). (nat_lt m 8 && nat_lt s.shift (2 ^ m)) ≡ true) (sym (eqb-true s.bits 0 none.0))
            (subst (λ (m : ℕ). nat_lt m 1 ≡ true) (sym (eqb-true s.shift 0 none.1)) refl),
      ),
    )

followed : (f : Following) (o : Outside) (s : State) → nat_lt s.pointer 128 ≡ true → no_bits s ≡ true → Leaves false (follow_of f o (set_low false s))
unfolding follow_of sound_of
followed following.Control o s h e = awaited receive.Control s h e
followed following.Data o s h e = awaited receive.Data s h e
followed following.Read o s h e = launched o.prepared (set_low false s) h e
followed following.Idle o s h e = (h, (refl, and_from (no_bits s) true e refl))

-- 0 or 2 with SCL high
none_other : (n : ℕ) → nat_lt n 3 ≡ true → beq true (not (n == 1)) ≡ true → (n == 0) ≡ false → (n == 2) ≢ false
none_other n a b c d = omega (arith, ltb-true n 3 a, eqb-false n 0 c, eqb-false n 2 d, eqb-false n 1 (not-true (n == 1) (is_not (n == 1) b)))
  where
    is_not : (t : Bool) → beq true (not t) ≡ true → not t ≡ true
    is_not true e = e
    is_not false e = refl

acknowledges : (f : Following) (n : ℕ) (o : Outside) (s : State)
    → Good true (set_phase (phase.Acknowledge f n) s)
    → Leaves false (acknowledge_of f n o (set_phase (phase.Acknowledge f n) s))
unfolding acknowledge_of sound_of
acknowledges f n o s g =
    let parts = and_parts (no_bits s) (nat_lt n 3) (and_parts (no_bits s && nat_lt n 3) (beq s.low (not (n == 0))) g.1.1).0 in
    cond_both (n == 0) _ _ (Leaves false)
    (λ i. (g.0, (refl, and_from (no_bits s && true) true (and_from (no_bits s) true parts.0 refl) refl)))
    (λ i. cond_both (n == 2) _ _ (Leaves false) (λ j. followed f o (set_phase (phase.Acknowledge f n) s) g.0 parts.0) (λ j. absurd (none_other n parts.1 g.1.0 i j)))

sends : (n : ℕ) (t : Option ℕ) (s : State) → Good true (set_phase (phase.Read n) s) → Good false (send_of n t (set_phase (phase.Read n) s))
unfolding send_of sound_of
sends n t s g =
    cond_both (n == 8) _ _ (Good false)
    (λ i. (g.0, (refl, and_from (no_bits s) true (and_parts (no_bits s) (nat_lt n 9) g.1.1).0 refl)))
    (λ i. g)

hears : (h : Option Bool) (o : Outside) (s : State) → Good true (set_phase (phase.MasterAcknowledge h) s) → Leaves false (heard_of h o (set_phase (phase.MasterAcknowledge h) s))
unfolding heard_of sound_of
hears None o s g = g
hears (Some b) o s g =
    cond_both b _ _ (Leaves false)
    (λ i. launched o.prepared (set_phase (phase.MasterAcknowledge (Some b)) s) g.0 (and_parts (no_bits s) (not s.low) g.1.1).0)
    (λ i. aborted false s g.0)

falling : (p : Phase) (o : Outside) (s : State) → Good true (set_phase p s) → Leaves false (falling_of p o (set_phase p s))
unfolding falling_of sound_of
falling phase.Idle o s g = g
falling (phase.Receive k) o s g = g
falling (phase.Acknowledge f n) o s g = acknowledges f n o s g
falling (phase.Read n) o s g = sends n o.tx s g
falling (phase.MasterAcknowledge h) o s g = hears h o s g

-- ## An edge, and a run

begun : (starts scl : Bool) (s : State) → nat_lt s.pointer 128 ≡ true → Good scl (begun_of starts s)
unfolding sound_of fits_in
begun true scl s h = (h, (refl, refl))
begun false scl s h = aborted scl s h

clocked : (a c d e : Bool) (o : Outside) (s : State) → Good a s → Leaves c (clocked_of s (change (levels a d) (levels c e)) o)
unfolding clocked_of
clocked true true d e o s g = g
clocked true false d e o s g = falling s.phase o s g
clocked false true d e o s g = rising s.phase e o s g
clocked false false d e o s g = g

edged : (scl sda : Bool) (new : Levels) (o : Outside) (s : State) → Good scl s → Leaves new.scl (edge_of s (change (levels scl sda) new) o)
unfolding edge_of
edged scl sda new o s g =
    let c = change (levels scl sda) new in
    cond_both o.blocked _ _ (Leaves new.scl)
    (λ b. aborted new.scl s g.0)
    (λ b. cond_both (starts_at c || stops_at c) _ _ (Leaves new.scl)
    (λ t. begun (starts_at c && not o.quiet) new.scl s g.0)
    (λ t. cond_both (o.quiet && not (is_acknowledge s.phase)) _ _ (Leaves new.scl)
    (λ q. aborted new.scl s g.0)
    (λ q. clocked scl new.scl sda new.sda o s g)))

-- the rest of the sensor is available, or the parser is idle
abbrev Rests : Reached → Type 0
Rests r = (r.available || is_idle r.state.phase) ≡ true

rests : (x : Step) (r : Reached) → Rests (after x r)
unfolding edge_of
rests (edge sda new o) r = by o.blocked refl
  where
    by : (b : Bool) → o.blocked ≡ b → Rests (after (edge sda new o) r)
    by true e = rw e
    by false e = rw e
rests abort r = refl

-- what holds of every state reached
abbrev Holds : Reached → Type 0
Holds r = Good r.scl r.state × Rests r

held : (x : Step) (r : Reached) → Holds r → Holds (after x r)
held (edge sda new o) r h = (edged r.scl sda new o r.state h.0, rests (edge sda new o) r)
held abort r h = (aborted r.scl r.state h.0.0, refl)

held_all : (l : List Step) (r : Reached) → Holds r → Holds (run l r)
held_all [] r h = h
held_all (x ∷ l) r h = held_all l (after x r) (held x r h)

-- ## The statement

pulls : (p : Phase) (s : State) → sound_of p s ≡ true → s.low ≡ true → may_pull p ≡ true
unfolding sound_of
pulls phase.Idle s e l = absurd (false≢true (sym (ap not l) ∙ (and_parts (no_bits s) (not s.low) e).1))
pulls (phase.Receive k) s e l = absurd (false≢true (sym (ap not l) ∙ (and_parts (not s.low) (fits_in s.shift s.bits) e).0))
pulls (phase.Acknowledge f n) s e l = refl
pulls (phase.Read n) s e l = refl
pulls (phase.MasterAcknowledge h) s e l = absurd (false≢true (sym (ap not l) ∙ (and_parts (no_bits s) (not s.low) e).1))

accepted : (r : Reached) → Holds r → validate_of r.available r.state ≡ true
unfolding validate_of
accepted r h =
    let one = ltb r.state.pointer 128 in
    let two = r.available || is_idle r.state.phase in
    and_from (one && two) (sound_of r.state.phase r.state) (and_from one two h.0.0 h.1) h.0.1.1

pub reached_states_lem : ReachedStates
unfolding sound_of
reached_states_lem scl l =
    let h = held_all l (fresh scl) ((refl, (refl, refl)), refl) in
    (accepted (run l (fresh scl)) h, pulls (run l (fresh scl)).state.phase (run l (fresh scl)).state h.0.1.1)
