-- Laws: two hosts agree, the proof of demand 3. Under the invariant an idle call leaves its host as it is; so the calls left are those of a
-- run without idle calls, and two such runs over the same calls are one.
use Rattle.std.specs.Prelude.{ℕ, zero, suc, Bool, true, false, not, ◌&&◌, ◌||◌, cond, List, [], ◌∷◌, map, ◌≡◌, refl, take, Err, None, Ok, Option, Result, ⊤}
use Rattle.std.specs.Bool.{beq}
use Rattle.std.proofs.Common.{true≢false, sym, ◌∙◌, ap, ap₂, subst}
use Rattle.std.proofs.lemmas.Bool.{false≢true}
use Rattle.bus.specs.declared.Levels.{Levels}
use Rattle.bus.specs.Bus.{same_levels, levels}
use Rattle.time.specs.declared.Time.{Time}
use Rattle.clocks.specs.declared.Clocks.{Clocks}
use Rattle.domain.specs.declared.Domain.{Domain}
use Rattle.clocks.specs.Clocks.{has_zero}
use Rattle.iic.specs.declared.Iic.{Iic}
use Rattle.registers.specs.declared.Register.{Register}
use Rattle.registers.specs.declared.Register.TheVariants.{ICCR1, ICCR2, ICMR, ICIER, ICSR, SAR, ICDRT, ICDRR}
use Rattle.registers.specs.Registers.{register_at}
use Rattle.iic.specs.Reading.{read_at}
use Rattle.iic.specs.Answers.{Stepped, and_then, fine, go_on, guarded}
use Rattle.iic.specs.Calls.{guard_by, take_pins_of, turn_gate_of, visit_of, read_of, input_pins_of, set_gate_of, advance_of}
use Rattle.iic.specs.Clocking.{firing, filter_fires_of, stretch_of, clock_step_of, fire_filter_of, fire_setup_of, fire_monitor_of, fire_clock_of}
use Rattle.iic.specs.Kick.{kick_of}
use Rattle.iic.specs.Setters.{set_clock_wait, set_monitor_wait, set_setup_wait}
use Rattle.iic.specs.State.{initial, awake, drive_scl}
use Rattle.rates.specs.declared.Rates.{Rates}
use Rattle.waits.specs.Ends.{wait_end, half_end, due_of}
use Rattle.hosts.specs.Calls.{Call, peek, read, write, input_pins, set_gate, deadline, advance, pins, interrupt, interrupt_with_enable, validate, Made, call_of, outcome_of, Host, start, after, after_all, host_with, is_now, waits_due, any_due, idle_read, idle}
use Rattle.iic.specs.Told.{is_refusal}
use Rattle.hosts.specs.Demand3.{Left, played, left, left_of, calls, IsKth, before, any_refused, TwoHostsAgree}
use Rattle.hosts.specs.Invariant.{Good}
use Rattle.iic.specs.Settled.{settled}
use Rattle.hosts.proofs.Kept.{good_after}
use Rattle.iic.specs.SettledLaws.{settled_kick}
use Rattle.time.specs.Truths.{and_left, and_right, or_left, or_right, not_so}
use Rattle.refusals.specs.declared.Refusal.{Refusal}

-- ## An idle call leaves the host as it is

guarded_same : (g : Result ⊤ Refusal) (s : Iic) (o : Stepped) → o.state ≡ s → (guarded g s o).state ≡ s
guarded_same (Ok v) s o h = h
guarded_same (Err n) s o h = refl

then_same : (s : Iic) (o : Stepped) (f : Iic → Stepped) → o.state ≡ s → (f s).state ≡ s → (and_then o f).state ≡ s
then_same s o f h g = go o.answer
  where
    go : (e : Result ⊤ Refusal) → (go_on e o f).state ≡ s
    go (Ok v) = ap (λ (t : Iic). (f t).state) h ∙ g
    go (Err n) = h

-- a wait that isn't due leaves the state, also where its time is refused
undue : (d : Result Bool Refusal) (s : Iic) (o : Stepped) → is_now d ≡ false → (firing d s o).state ≡ s
undue (Ok true) s o e = absurd (true≢false e)
undue (Ok false) s o e = refl
undue (Err n) s o e = refl

filter_undue : (end : Result (Option Time) Refusal) (now : Time) (k : Domain) (s : Iic) → is_now (due_of end now) ≡ false → (fire_filter_of end now k s).state ≡ s
unfolding fire_filter_of
filter_undue end now k s e = undue (due_of end now) s (filter_fires_of now k s) e

setup_undue : (end : Result (Option Time) Refusal) (now : Time) (s : Iic) → is_now (due_of end now) ≡ false → (fire_setup_of end now s).state ≡ s
unfolding fire_setup_of
setup_undue end now s e = undue (due_of end now) s (fine (set_setup_wait None (drive_scl true s))) e

monitor_undue : (now : Time) (k : Domain) (s : Iic) → is_now (due_of (half_end s.monitor_wait k) now) ≡ false → (fire_monitor_of now k s).state ≡ s
unfolding fire_monitor_of
monitor_undue now k s e = undue (due_of (half_end s.monitor_wait k) now) s (stretch_of now k (set_monitor_wait None s)) e

clock_undue : (now : Time) (k : Domain) (s : Iic) → is_now (due_of (half_end s.clock_wait k) now) ≡ false → (fire_clock_of now k s).state ≡ s
unfolding fire_clock_of
clock_undue now k s e = undue (due_of (half_end s.clock_wait k) now) s (clock_step_of now k (set_clock_wait None s)) e

undue_visit : (now : Time) (k : Clocks) (s : Iic) (b : Bool) → awake s ≡ b → settled s ≡ true → waits_due k now s ≡ false → (visit_of now k s).state ≡ s
unfolding visit_of
undue_visit now k s false e h d = rw e
undue_visit now k s true e h d =
    let filter : Bool = is_now (due_of (wait_end s.filter_wait k) now) in
    let setup : Bool = is_now (due_of (wait_end s.setup_wait k) now) in
    let monitor : Bool = is_now (due_of (half_end s.monitor_wait k.system) now) in
    let clock : Bool = is_now (due_of (half_end s.clock_wait k.system) now) in
    let d3 : (filter || setup || monitor) ≡ false = or_left (filter || setup || monitor) clock d in
    let d2 : (filter || setup) ≡ false = or_left (filter || setup) monitor d3 in
    let fires : Iic → Stepped = λ (u : Iic). fire_setup_of (wait_end u.setup_wait k) now u in
    let o1 : Stepped = fire_filter_of (wait_end s.filter_wait k) now k.system s in
    let o2 : Stepped = and_then o1 fires in
    let o3 : Stepped = and_then o2 (fire_monitor_of now k.system) in
    let o4 : Stepped = and_then o3 (fire_clock_of now k.system) in
    rw e
    (then_same s o4 (kick_of now k.system)
    (then_same s o3 (fire_clock_of now k.system)
    (then_same s o2 (fire_monitor_of now k.system)
    (then_same s o1 fires (filter_undue (wait_end s.filter_wait k) now k.system s (or_left filter setup d2))
    (setup_undue (wait_end s.setup_wait k) now s (or_right filter setup d2)))
    (monitor_undue now k.system s (or_right (filter || setup) monitor d3)))
    (clock_undue now k.system s (or_right (filter || setup || monitor) clock d)))
    (ap (λ (o : Stepped). o.state) (settled_kick now k.system s h)))

read_same : (r : Register) (now : Time) (k : Domain) (s : Iic) → idle_read r ≡ true → (read_at r now k s).state ≡ s
unfolding read_at
read_same ICCR1 now k s e = refl
read_same ICCR2 now k s e = refl
read_same ICMR now k s e = refl
read_same ICIER now k s e = refl
read_same ICSR now k s e = absurd (false≢true e)
read_same SAR now k s e = refl
read_same ICDRT now k s e = refl
read_same ICDRR now k s e = absurd (false≢true e)

pins_same : (given : Levels) (now : Time) (k : Domain) (s : Iic) → same_levels s.lines.raw given ≡ true → (take_pins_of given now k s).state ≡ s
unfolding take_pins_of
pins_same given now k s e = rw e

gate_same : (gate : Bool) (now : Time) (k : Clocks) (s : Iic) → beq s.flags.gate gate ≡ true → (turn_gate_of gate now k s).state ≡ s
unfolding turn_gate_of
gate_same gate now k s e = rw e

-- a call behind the refusals that stand first
behind : (k : Clocks) (s : Iic) (o : Stepped) → o.state ≡ s → (guarded (guard_by (has_zero k) s) s o).state ≡ s
behind k s o h = guarded_same (guard_by (has_zero k) s) s o h

-- where a clock of the set holds a zero the visit is refused before it looks at a wait
visit_same : (now : Time) (k : Clocks) (s : Iic) (z : Bool) → has_zero k ≡ z → settled s ≡ true → any_due k now s ≡ false
    → (guarded (guard_by (has_zero k) s) s (visit_of now k s)).state ≡ s
unfolding any_due
visit_same now k s true e h d = rw e refl
visit_same now k s false e h d = behind k s (visit_of now k s) (undue_visit now k s _ refl h (rw e at d))

pub idle_same : (k : Clocks) (x : Call) (h : Host) → Good h → idle k x h ≡ true → after k x h ≡ h
unfolding idle after outcome_of read_of input_pins_of set_gate_of advance_of
idle_same k (peek a) h g i = refl
idle_same k (read a now) h g i =
    ap (host_with (read a now) h) (behind k h.state (read_at (register_at a) now k.system h.state) (read_same (register_at a) now k.system h.state i))
idle_same k (write a value now) h g i = absurd (false≢true i)
idle_same k (input_pins scl sda now) h g i =
    ap (host_with (input_pins scl sda now) h) (behind k h.state (take_pins_of (levels scl sda) now k.system h.state) (pins_same (levels scl sda) now k.system h.state i))
idle_same k (set_gate gate now) h g i =
    ap (host_with (set_gate gate now) h) (behind k h.state (turn_gate_of gate now k h.state) (gate_same gate now k h.state i))
idle_same k deadline h g i = refl
idle_same k (advance now) h g i =
    let both : (not h.lifted && not (any_due k now h.state)) ≡ true = and_left _ _ i in
    let rested : h.lifted ≡ false = not_so h.lifted (and_left _ _ both) in
    let none : any_due k now h.state ≡ false = not_so _ (and_right (not h.lifted) _ both) in
    let kept : (guarded (guard_by (has_zero k) h.state) h.state (visit_of now k h.state)).state ≡ h.state =
    visit_same now k h.state _ refl (g rested) none in
    ap₂ (λ (s : Iic) (b : Bool). record { state = s; lifted = b }) kept (sym rested)
idle_same k pins h g i = refl
idle_same k interrupt h g i = refl
idle_same k (interrupt_with_enable retained) h g i = refl
idle_same k (validate now) h g i = refl

-- ## The calls left are a run without idle calls

-- each is played from what the one before it left; after a refusal nothing is said
abbrev Run : Clocks → Host → List Left → Type 0
Run k h [] = Unit {0}
Run k h (p ∷ l) = (p ≡ played k p.call h) × (is_refusal p.answer ≡ false → Run k (after k p.call h) l)

left_runs : (k : Clocks) (l : List Made) (h : Host) → Good h → Run k h (left k h l)
unfolding left
left_runs k [] h g = tt
left_runs k (m ∷ l) h g = go (idle k (call_of m) h) refl (λ h' g'. left_runs k l h' g')
  where
    go : (b : Bool) → idle k (call_of m) h ≡ b → ((h' : Host) → Good h' → Run k h' (left k h' l))
        → Run k h (cond b (left k (after k (call_of m) h) l) (played k (call_of m) h ∷ left k (after k (call_of m) h) l))
    go true e rest = rw (idle_same k (call_of m) h g e) (rest h g)
    go false e rest = (refl, λ ok. rest (after k (call_of m) h) (good_after k (call_of m) h g ok))

-- two entries of one call from one host are the same
same_entry : (k : Clocks) (h : Host) (x y : Left) → x ≡ played k x.call h → y ≡ played k y.call h → x.call ≡ y.call → x ≡ y
same_entry k h x y r t e = r ∙ ap (λ (z : Call). played k z h) e ∙ sym t

-- two runs from one host agree at the n-th entry
runs_agree : (k : Clocks) (n : ℕ) (h : Host) (l m : List Left) (p q : Left) → Run k h l → Run k h m → IsKth n l p → IsKth n m q
    → take n (calls l) ≡ take n (calls m) → any_refused (before n l) ≡ false → p ≡ q
runs_agree k zero h l m p q r t a b e ok = absurd a
runs_agree k (suc n) h [] m p q r t a b e ok = absurd a
runs_agree k (suc n) h (x ∷ l) [] p q r t a b e ok = absurd b
runs_agree k (suc zero) h (x ∷ l) (y ∷ m) p q r t a b e ok =
    let same_call : x.call ≡ y.call = cc in
    sym a ∙ same_entry k h x y r.0 t.0 same_call ∙ b
runs_agree k (suc (suc n)) h (x ∷ l) (y ∷ m) p q r t a b e ok =
    let same_call : x.call ≡ y.call = cc in
    let rest : take (suc n) (calls l) ≡ take (suc n) (calls m) = cc in
    let same : x ≡ y = same_entry k h x y r.0 t.0 same_call in
    let fine-x : is_refusal x.answer ≡ false = or_left (is_refusal x.answer) _ ok in
    let fine-y : is_refusal y.answer ≡ false = subst (λ (z : Left). is_refusal z.answer ≡ false) same fine-x in
    let second : Run k (after k x.call h) m = subst (λ (z : Call). Run k (after k z h) m) (sym same_call) (t.1 fine-y) in
    runs_agree k (suc n) (after k x.call h) l m p q (r.1 fine-x) second a b rest (or_right (is_refusal x.answer) _ ok)

-- the default is settled
pub good_start : (r : Rates) → Good (start r)
unfolding start initial settled
good_start r e = refl

-- ## Idle calls on the way

good_all : (k : Clocks) (l : List Made) (h : Host) → Good h → any_refused (left k h l) ≡ false → Good (after_all k h (map call_of l))
unfolding left
good_all k [] h g ok = g
good_all k (m ∷ l) h g ok = go (idle k (call_of m) h) refl (λ h' g' ok'. good_all k l h' g' ok') ok
  where
    go : (b : Bool) → idle k (call_of m) h ≡ b → ((h' : Host) → Good h' → any_refused (left k h' l) ≡ false → Good (after_all k h' (map call_of l)))
        → any_refused (cond b (left k (after k (call_of m) h) l) (played k (call_of m) h ∷ left k (after k (call_of m) h) l)) ≡ false
        → Good (after_all k (after k (call_of m) h) (map call_of l))
    go true e rest ok = rest (after k (call_of m) h) (subst Good (sym (idle_same k (call_of m) h g e)) g) ok
    go false e rest ok =
        rest (after k (call_of m) h) (good_after k (call_of m) h g (or_left (is_refusal (outcome_of k (call_of m) h.state).answer) _ ok))
        (or_right (is_refusal (outcome_of k (call_of m) h.state).answer) _ ok)

-- document 01: an idle visit that is refused changes nothing either. After any calls from the default, none of those left refused, no idle
-- call changes anything, answered or refused.
pub idle_changes_nothing : (r : Rates) (k : Clocks) (l : List Made) (x : Call) → any_refused (left_of r k l) ≡ false
    → idle k x (after_all k (start r) (map call_of l)) ≡ true → after k x (after_all k (start r) (map call_of l)) ≡ after_all k (start r) (map call_of l)
idle_changes_nothing r k l x ok i = idle_same k x (after_all k (start r) (map call_of l)) (good_all k l (start r) (good_start r) ok) i

-- ## Demand 3

pub two_hosts_agree_lem : TwoHostsAgree
two_hosts_agree_lem rates clocks one other k p q a b e ok =
    let same : p ≡ q =
    runs_agree clocks k (start rates) (left_of rates clocks one) (left_of rates clocks other) p q (left_runs clocks one (start rates) (good_start rates))
    (left_runs clocks other (start rates) (good_start rates)) a b e ok in
    (ap (λ (z : Left). z.answer) same, ap (λ (z : Left). z.state) same)
