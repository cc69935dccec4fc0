-- Laws: any calls from the default keep the invariant, and under it a status write does only what StatusWrites.antt says: the proofs of
-- `StatusWrites`, `BeforeAnyRead` and `ReachedStates`. Assumes nothing.
use Rattle.std.specs.Prelude.{ℕ, ◌+◌, ◌<◌, Bool, true, not, ◌&&◌, ◌||◌, cond, List, [], ◌∷◌, ◌≡◌, refl, eqb, ltb, is_ok, Err, None, Ok, Option, Result, Some, ⊤}
use Rattle.std.specs.Bool.{beq}
use Rattle.std.proofs.Math.Bool.{false}
use Rattle.std.proofs.Common.{true≢false, sym, ◌∙◌, ap, ap₂, subst, arith, eq-eqb, eqb-true, lt-ltb, ltb-true}
use Rattle.std.proofs.lemmas.Bool.{false≢true}
use Rattle.std.specs.Int.Bits.{bit_and, bit_or}
use Rattle.bus.specs.Bits.{without}
use Rattle.bus.specs.Bus.{levels, same_levels}
use Rattle.bus.specs.declared.Levels.{Levels}
use Rattle.time.specs.Truths.{and_left, and_right}
use Rattle.time.specs.declared.Time.{Time}
use Rattle.clocks.specs.declared.Clocks.{Clocks}
use Rattle.domain.specs.declared.Domain.{Domain}
use Rattle.clocks.specs.Clocks.{has_zero}
use Rattle.frames.specs.Parts.{progress_at, progress_in}
use Rattle.frames.specs.declared.Phase.{Phase}
use Rattle.frames.specs.declared.Phase.TheVariants.{Ack, Data, Done}
use Rattle.waits.specs.Ends.{wait_end}
use Rattle.iic.specs.Answers.{Stepped, guarded, refused, value_of}
use Rattle.registers.specs.Bits.{MLS, TDRE, WAIT}
use Rattle.iic.specs.Calls.{advance_of, guard_by, input_pins_of, keep_stretched_of, peek_of, read_of, set_gate_of, take_pins_of, turn_gate_of, turn_waits_of, validate_of, visit_of, waits_refusal, write_of}
use Rattle.iic.specs.Checks.{fell_by, progress_holds, ranges_hold}
use Rattle.iic.specs.Reading.{peek_at, read_at}
use Rattle.registers.specs.Registers.{register_at}
use Rattle.iic.specs.Setters.{set_gate as gated, set_raw}
use Rattle.iic.specs.State.{awake, initial}
use Rattle.rates.specs.Rates.{rates_hold}
use Rattle.rates.specs.declared.Rates.{Rates}
use Rattle.iic.specs.Writing.{status_left, write_at, write_status_of}
use Rattle.iic.specs.declared.Iic.{Iic}
use Rattle.registers.specs.declared.Register.{Register}
use Rattle.registers.specs.declared.Register.TheVariants.{ICCR1, ICCR2, ICDRR, ICDRT, ICIER, ICMR, ICSR, SAR}
use Rattle.hosts.specs.Calls.{Call, peek, read, write, input_pins, set_gate, deadline, advance, pins, interrupt, interrupt_with_enable, validate, Made, call_of, outcome_of}
use Rattle.iic.specs.Told.{Answer, refusal, of_byte}
use Rattle.flags.specs.Invariant.{Bound, Ends, Holds, Keeps, Kept, UpToTdre, Within, bound}
use Rattle.flags.specs.Masks.{decide, masked_missing, no_other_bits, only_these_bits, set_or, taken_out}
use Rattle.flags.specs.StatusWrites.{BeforeAnyRead, ClearsOnlyShown, Flag, FrameToGo, Latest, Past, RaisesOnlyTdre, Ranges, ReachedStates, StatusWrites, ToGo, aas, adz, al, begin, is_set, is_status, latest_after, mask_of, nackf, next, past, rdrf, reached, showing, shown, status_of, stop, tdre, tend, written}
use Rattle.flags.proofs.Timed.{fire_clock, fire_filter, fire_monitor, fire_setup, if_ends, kick, kick_on, left, read_data, schedule_filter, then_ends, turn_clock, turn_filter, turn_monitor, turn_setup, write_at_lem}
use Rattle.frames.specs.declared.Frame.{Frame}
use Rattle.refusals.specs.Refusals.{before_call, of_state}
use Rattle.refusals.specs.declared.Refusal.{Refusal}
use Rattle.refusals.specs.declared.Refusal.TheVariants.{ZeroFrequency, Rates as WrongRates, Ranges as WrongRanges}

-- ## `input_pins`, `set_gate`, `advance`

module _ (b : Bound) (now : Time) (k : Clocks) where
  take_pins : (given : Levels) → Keeps (Within b) (take_pins_of given now k.system)
  unfolding take_pins_of
  take_pins given u h =
      if_ends (same_levels u.lines.raw given) (left h) (schedule_filter (Within b) now k.system (set_raw given u) h)

  keep_stretched : (gate : Bool) → Keeps (Within b) (keep_stretched_of gate now k.system)
  unfolding keep_stretched_of
  keep_stretched gate u h = if_ends (gate && u.flags.synchronized_hold) (turn_clock (Within b) now k.system false u h) (left h)

  turn_waits : (gate : Bool) → Keeps (Within b) (turn_waits_of gate now k)
  unfolding turn_waits_of
  turn_waits gate u h =
      then_ends (then_ends (then_ends (then_ends (turn_clock (Within b) now k.system gate u h) (turn_monitor (Within b) now k.system gate))
      (keep_stretched gate)) (turn_filter (Within b) now k gate)) (turn_setup (Within b) now k gate)

  turn_gate : (gate : Bool) → Keeps (Within b) (turn_gate_of gate now k)
  unfolding turn_gate_of
  turn_gate gate u h =
      let turned = turn_waits gate (gated gate u) h in
      if_ends (beq u.flags.gate gate) (left h)
      (if_ends gate (then_ends (then_ends turned (schedule_filter (Within b) now k.system)) (kick_on b now k.system)) turned)

  visit : Keeps (Within b) (visit_of now k)
  unfolding visit_of
  visit u h =
      if_ends (awake u)
      (then_ends (then_ends (then_ends (then_ends (fire_filter b now k.system (wait_end u.filter_wait k) u h)
      (λ v g. fire_setup b now k.system (wait_end v.setup_wait k) v g)) (fire_monitor b now k.system)) (fire_clock b now k.system))
      (kick_on b now k.system))
      (left h)

-- ## Which register

-- as address bits 0 to 2 choose
abbrev pick : ℕ → Register
pick n =
    cond (eqb n 0) ICCR1 (cond (eqb n 1) ICCR2 (cond (eqb n 2) ICMR (cond (eqb n 3) ICIER (cond (eqb n 4) ICSR (cond (eqb n 5) SAR
    (cond (eqb n 6) ICDRT ICDRR))))))

abbrev is_icsr : Register → Bool
is_icsr ICCR1 = false
is_icsr ICCR2 = false
is_icsr ICMR = false
is_icsr ICIER = false
is_icsr ICSR = true
is_icsr SAR = false
is_icsr ICDRT = false
is_icsr ICDRR = false

chosen : (a : ℕ) → is_status a ≡ true → register_at a ≡ ICSR
unfolding register_at
chosen a h = ap pick (eqb-true (bit_and a 7) 4 h)

which : (a : ℕ) → is_icsr (register_at a) ≡ is_status a
unfolding register_at
which a = go (is_status a) refl
  where
    others : (p q r s t u : Bool)
        → is_icsr (cond p ICCR1 (cond q ICCR2 (cond r ICMR (cond s ICIER (cond false ICSR (cond t SAR (cond u ICDRT ICDRR))))))) ≡ false
    others true q r s t u = refl
    others false true r s t u = refl
    others false false true s t u = refl
    others false false false true t u = refl
    others false false false false true u = refl
    others false false false false false true = refl
    others false false false false false false = refl

    go : (t : Bool) → is_status a ≡ t → is_icsr (pick (bit_and a 7)) ≡ is_status a
    go true e = ap (λ (n : ℕ). is_icsr (pick n)) (eqb-true (bit_and a 7) 4 e) ∙ sym e
    go false e =
        let n : ℕ = bit_and a 7 in
        ap (λ (t : Bool). is_icsr (cond (eqb n 0) ICCR1 (cond (eqb n 1) ICCR2 (cond (eqb n 2) ICMR (cond (eqb n 3) ICIER (cond t ICSR (cond (eqb n 5) SAR
        (cond (eqb n 6) ICDRT ICDRR)))))))) e ∙ others (eqb n 0) (eqb n 1) (eqb n 2) (eqb n 3) (eqb n 5) (eqb n 6) ∙ sym e

-- ## Each call

-- behind the refusals that stand first
guard_cases : (P : Stepped → Type 0) (g : Result ⊤ Refusal) (s : Iic) (x : Stepped) → ((n : Refusal) → P (refused n s)) → P x → P (guarded g s x)
guard_cases P (Ok v) s x r h = h
guard_cases P (Err n) s x r h = r n

-- what was shown after a read that ended so
abbrev shown_by : Bool → Result ⊤ Refusal → ℕ → Latest → ℕ
shown_by t e v was = shown (cond t (showing (of_byte (value_of e v)) was) was)

abbrev ReadSo : Rates → Bool → ℕ → Latest → Stepped → Type 0
ReadSo r t v was x = Kept (Within (bound r (shown_by t x.answer v was))) x.state

-- an answered read of ICSR shows the byte that `seen` now is
read_at_lem : (given : Rates) (r : Register) (was : Latest) (now : Time) (system : Domain) (s : Iic) → Kept (Within (bound given (shown was))) s
    → ReadSo given (is_icsr r) (peek_at r s) was (read_at r now system s)
unfolding read_at peek_at
read_at_lem given ICCR1 was now system s h = h
read_at_lem given ICCR2 was now system s h = h
read_at_lem given ICMR was now system s h = h
read_at_lem given ICIER was now system s h = h
read_at_lem given ICSR was now system s h = ((λ f e. e, h.0.1), h.1, h.2)
read_at_lem given SAR was now system s h = h
read_at_lem given ICDRT was now system s h = h
read_at_lem given ICDRR was now system s h = (read_data (bound given (shown was)) now system s h).kept

-- a refused one shows nothing
unread : (given : Rates) (t : Bool) (v : ℕ) (n : Refusal) (was : Latest) (s : Iic) → Kept (Within (bound given (shown was))) s
    → ReadSo given t v was (refused n s)
unread given true v n was s h = h
unread given false v n was s h = h

read_holds : (given : Rates) (a : ℕ) (g : Result ⊤ Refusal) (was : Latest) (now : Time) (system : Domain) (s : Iic) → Kept (Within (bound given (shown was))) s
    → ReadSo given (is_status a) (peek_of s a) was (guarded g s (read_at (register_at a) now system s))
unfolding peek_of
read_holds given a g was now system s h =
    let v : ℕ = peek_at (register_at a) s in
    guard_cases (ReadSo given (is_status a) v was) g s (read_at (register_at a) now system s) (λ n. unread given (is_status a) v n was s h)
    (subst (λ (t : Bool). ReadSo given t v was (read_at (register_at a) now system s)) (which a) (read_at_lem given (register_at a) was now system s h))

guard_ends : (b : Bound) (g : Result ⊤ Refusal) (s : Iic) (x : Stepped) → Kept (Within b) s → Ends (Within b) x → Kept (Within b) (guarded g s x).state
guard_ends b g s x h e = guard_cases (λ (o : Stepped). Kept (Within b) o.state) g s x (λ n. h) e.kept

holds_next : (r : Rates) (k : Clocks) (x : Call) (p : Past) → Holds r p → Holds r (next k x p)
unfolding next outcome_of read_of write_of input_pins_of set_gate_of advance_of
holds_next r k (peek a) p h = h
holds_next r k (read a now) p h = read_holds r a (guard_by (has_zero k) p.state) p.latest now k.system p.state h
holds_next r k (write a value now) p h =
    guard_ends (bound r (shown p.latest)) (guard_by (has_zero k) p.state) p.state (write_at (register_at a) value now k.system p.state) h
    (write_at_lem (bound r (shown p.latest)) now k.system (register_at a) value p.state h)
holds_next r k (input_pins scl sda now) p h =
    guard_ends (bound r (shown p.latest)) (guard_by (has_zero k) p.state) p.state (take_pins_of (levels scl sda) now k.system p.state) h
    (take_pins (bound r (shown p.latest)) now k (levels scl sda) p.state h)
holds_next r k (set_gate gate now) p h =
    guard_ends (bound r (shown p.latest)) (guard_by (has_zero k) p.state) p.state (turn_gate_of gate now k p.state) h
    (turn_gate (bound r (shown p.latest)) now k gate p.state h)
holds_next r k deadline p h = h
holds_next r k (advance now) p h =
    guard_ends (bound r (shown p.latest)) (guard_by (has_zero k) p.state) p.state (visit_of now k p.state) h
    (visit (bound r (shown p.latest)) now k p.state h)
holds_next r k pins p h = h
holds_next r k interrupt p h = h
holds_next r k (interrupt_with_enable retained) p h = h
holds_next r k (validate now) p h = h

-- ## What counts as a read

-- `peek` doesn't
pub peek_is_no_read : (k : Clocks) (a : ℕ) (p : Past) → next k (peek a) p ≡ p
unfolding next outcome_of
peek_is_no_read k a p = refl

-- nor does a read that is refused
pub refused_is_no_read : (k : Clocks) (a n : ℕ) (now : Time) (p : Past) → (outcome_of k (read a now) p.state).answer ≡ refusal n
    → (next k (read a now) p).latest ≡ p.latest
unfolding next
refused_is_no_read k a n now p e = ap (λ (v : Answer). latest_after (read a now) v p.latest) e ∙ either (is_status a) p.latest
  where
    either : (t : Bool) (was : Latest) → cond t was was ≡ was
    either true was = refl
    either false was = refl

-- ## Any list

holds_past : (r : Rates) (k : Clocks) (p : Past) (l : List Made) → Holds r p → Holds r (past k p l)
unfolding past
holds_past r k p [] h = h
holds_past r k p (m ∷ l) h = holds_past r k (next k (call_of m) p) l (holds_next r k (call_of m) p h)

holds_reached : (r : Rates) (k : Clocks) (l : List Made) → Holds r (reached r k l)
unfolding begin initial
holds_reached r k l = holds_past r k (begin r) l ((λ f e. e, refl), (omega arith, refl), tt)

-- ## A status write

only_tdre : (f : Flag) → is_set f TDRE ≡ true → mask_of f ≡ TDRE
only_tdre tdre h = refl
only_tdre tend h = absurd (false≢true h)
only_tdre rdrf h = absurd (false≢true h)
only_tdre nackf h = absurd (false≢true h)
only_tdre stop h = absurd (false≢true h)
only_tdre al h = absurd (false≢true h)
only_tdre aas h = absurd (false≢true h)
only_tdre adz h = absurd (false≢true h)

raised_tdre : (b status seen : ℕ) (r : Rates) → UpToTdre b status seen r → UpToTdre b (bit_or status TDRE) seen r
raised_tdre b status seen r h f = (
  λ e. set_or f status TDRE ∙ ap (λ (t : Bool). t || is_set f TDRE) ((h f).0 e),
  λ e g. decide (is_set f status) (λ t. (h f).1 t g)
      (λ t. only_tdre f (sym (ap (λ (z : Bool). z || is_set f TDRE) t) ∙ sym (set_or f status TDRE) ∙ e)),
)

-- what it does to a state whose `seen` is within the byte shown
abbrev Does : ℕ → ℕ → Iic → Stepped → Type 0
Does b value s x = ClearsOnlyShown b value (status_of s) (status_of x.state) × RaisesOnlyTdre (status_of s) (status_of x.state)

unwritten : (b value : ℕ) (n : Refusal) (s : Iic) → Does b value s (refused n s)
unwritten b value n s = (λ f e g. absurd (true≢false (sym e ∙ g)), λ f e g. absurd (false≢true (sym e ∙ g)))

status_written_lem : (b : Bound) (value : ℕ) (now : Time) (system : Domain) (s : Iic) → Kept (Within b) s
    → Does b.byte value s (write_at ICSR value now system s)
unfolding write_at write_status_of
status_written_lem b value now system s h = (
  λ f e g. let out = taken_out f (status_of s) s.registers.seen value e (missing f g) in (h.0.0 f out.0, out.1),
  λ f e g. (after f).1 g (masked_missing f (status_of s) _ e),
)
  where
    remaining : ℕ
    remaining = status_left value s

    after : UpToTdre remaining (status_of (write_at ICSR value now system s).state) 0 s.rates
    after =
        (kick (UpToTdre remaining) now system (raised_tdre remaining) (write_status_of value s)
        (λ f. (λ e. e, λ e g. absurd (true≢false (sym e ∙ g))), h.1, h.2)).kept.0

    missing : (f : Flag) → is_set f (status_of (write_at ICSR value now system s).state) ≡ false → is_set f remaining ≡ false
    missing f g = decide (is_set f remaining) (λ t. absurd (true≢false (sym ((after f).0 t) ∙ g))) (λ t. t)

pub status_writes_lem : StatusWrites
unfolding outcome_of write_of
status_writes_lem r k l a value now e =
    let p = reached r k l in
    let b : ℕ = shown p.latest in
    let g : Result ⊤ Refusal = guard_by (has_zero k) p.state in
    guard_cases (Does b value p.state) g p.state (write_at (register_at a) value now k.system p.state) (λ n. unwritten b value n p.state)
    (subst (λ (at : Register). Does b value p.state (write_at at value now k.system p.state)) (sym (chosen a e))
    (status_written_lem (bound r b) value now k.system p.state (holds_reached r k l)))

pub before_any_read_lem : BeforeAnyRead
before_any_read_lem r k l a value now e n f s =
    decide (is_set f (written r k l a value now)) (λ t. t)
    (λ t. absurd (false≢true (sym (ap (λ (x : Latest). is_set f (shown x)) n) ∙ ((status_writes_lem r k l a value now e).0 f s t).0)))

-- ## What every reached state meets

ranges_hold_lem : (s : Iic) → Ranges s → ranges_hold s ≡ true
ranges_hold_lem s h =
    ap₂ ◌&&◌ (lt-ltb s.registers.count 8 (omega (arith, h.0)))
    (eq-eqb (without s.registers.mode (MLS + WAIT)) 0 (no_other_bits s.registers.mode h.1))

progress_at_lem : (p : Phase) (n : ℕ) → ToGo p n → progress_at p n ≡ true
progress_at_lem Data n g = ap₂ ◌&&◌ (lt-ltb 0 n g.0) (lt-ltb n 9 (omega (arith, g.1)))
progress_at_lem Ack n g = eq-eqb n 0 g
progress_at_lem Done n g = eq-eqb n 0 g

progress_in_lem : (fr : Option Frame) → FrameToGo fr → progress_in fr ≡ true
progress_in_lem None g = refl
progress_in_lem (Some f) g = progress_at_lem f.phase f.remaining g

guard_met : (zero : Bool) (s : Iic) → ranges_hold s ≡ true → progress_holds s ≡ true
    → guard_by zero s ≡ cond zero (Err ZeroFrequency) (cond (not (rates_hold s.rates)) (Err WrongRates) (Ok tt))
guard_met zero s x y =
    ap₂ (λ (t u : Bool). before_call zero (rates_hold s.rates) t u) x y

valid_met : (now : Time) (s : Iic) → ranges_hold s ≡ true → progress_holds s ≡ true
    → validate_of s now ≡ cond (not (rates_hold s.rates)) (Err WrongRates) (cond (not (fell_by s.eighth_fall now)) (Err WrongRanges) (waits_refusal s))
unfolding validate_of
valid_met now s x y =
    ap₂ (λ (t u : Bool). of_state (rates_hold s.rates) (t && fell_by s.eighth_fall now) u (waits_refusal s)) x y

pub reached_states_lem : ReachedStates
reached_states_lem r k l =
    let s = (reached r k l).state in
    let h = holds_reached r k l in
    let given : s.rates ≡ r = h.0.1 in
    let ranges = ranges_hold_lem s h.1 in
    let progress = progress_in_lem s.frame h.2 in
    record {
      ranges = h.1;
      frame = h.2;
      given = given;
      guard = guard_met (has_zero k) s ranges progress ∙ ap (λ (x : Rates). before_call (has_zero k) (rates_hold x) true true) given;
      valid = λ now. valid_met now s ranges progress
          ∙ ap (λ (x : Rates). of_state (rates_hold x) (fell_by s.eighth_fall now) true (waits_refusal s)) given;
    }

-- ## The rate set

every : (f : Flag) → is_set f 0xff ≡ true
every tdre = refl
every tend = refl
every rdrf = refl
every nackf = refl
every stop = refl
every al = refl
every aas = refl
every adz = refl

-- document 02 (f): every call, answered or refused, hands the rate set on untouched, from any state that 9 and 10 aren't for
pub handed_on : (k : Clocks) (x : Call) (s : Iic) → Ranges s → FrameToGo s.frame → (outcome_of k x s).state.rates ≡ s.rates
unfolding next
handed_on k x s ranges frame =
    (holds_next s.rates k x (record { state = s; latest = Some 0xff }) ((λ f e. every f, refl), ranges, frame)).0.1

ranges_met : (s : Iic) → s.registers.mode < 256 → ranges_hold s ≡ true → Ranges s
ranges_met s byte h =
    let low = ltb-true s.registers.count 8 (and_left (ltb s.registers.count 8) (eqb (without s.registers.mode (MLS + WAIT)) 0) h) in (
      omega (arith, low),
      only_these_bits s.registers.mode byte (eqb-true (without s.registers.mode (MLS + WAIT)) 0
          (and_right (ltb s.registers.count 8) (eqb (without s.registers.mode (MLS + WAIT)) 0) h)),
    )

to_go_met : (p : Phase) (n : ℕ) → progress_at p n ≡ true → ToGo p n
to_go_met Data n h =
    let some = ltb-true 0 n (and_left (ltb 0 n) (ltb n 9) h) in
    let few = ltb-true n 9 (and_right (ltb 0 n) (ltb n 9) h) in
    (omega (arith, some), omega (arith, few))
to_go_met Ack n h = eqb-true n 0 h
to_go_met Done n h = eqb-true n 0 h

frame_met : (fr : Option Frame) → progress_in fr ≡ true → FrameToGo fr
frame_met None h = tt
frame_met (Some f) h = to_go_met f.phase f.remaining h

-- 9 or 10 is drawn, or what comes before it
drawn : (zero rates ranges progress : Bool) → (ranges && progress) ≡ false → is_ok (before_call zero rates ranges progress) ≡ false
drawn true rates ranges progress e = refl
drawn false false ranges progress e = refl
drawn false true false progress e = refl
drawn false true true false e = refl
drawn false true true true e = absurd (true≢false e)

held : (g : Result ⊤ Refusal) (s : Iic) (o : Stepped) → is_ok g ≡ false → (guarded g s o).state ≡ s
held (Ok v) s o e = absurd (true≢false e)
held (Err n) s o e = refl

refused_same : (k : Clocks) (x : Call) (s : Iic) → is_ok (guard_by (has_zero k) s) ≡ false → (outcome_of k x s).state ≡ s
unfolding outcome_of read_of write_of input_pins_of set_gate_of advance_of
refused_same k (peek a) s e = refl
refused_same k (read a now) s e = held (guard_by (has_zero k) s) s (read_at (register_at a) now k.system s) e
refused_same k (write a value now) s e = held (guard_by (has_zero k) s) s (write_at (register_at a) value now k.system s) e
refused_same k (input_pins scl sda now) s e = held (guard_by (has_zero k) s) s (take_pins_of (levels scl sda) now k.system s) e
refused_same k (set_gate gate now) s e = held (guard_by (has_zero k) s) s (turn_gate_of gate now k s) e
refused_same k deadline s e = refl
refused_same k (advance now) s e = held (guard_by (has_zero k) s) s (visit_of now k s) e
refused_same k pins s e = refl
refused_same k interrupt s e = refl
refused_same k (interrupt_with_enable retained) s e = refl
refused_same k (validate now) s e = refl

-- and from any other state, in which a call is refused; ICMR is a byte
pub handed_on_from_any : (k : Clocks) (x : Call) (s : Iic) → s.registers.mode < 256 → (outcome_of k x s).state.rates ≡ s.rates
handed_on_from_any k x s byte =
    decide (ranges_hold s && progress_holds s)
    (λ h. handed_on k x s (ranges_met s byte (and_left (ranges_hold s) (progress_holds s) h)) (frame_met s.frame (and_right (ranges_hold s) (progress_holds s) h)))
    (λ h. ap (λ (u : Iic). u.rates) (refused_same k x s (drawn (has_zero k) (rates_hold s.rates) (ranges_hold s) (progress_holds s) h)))
