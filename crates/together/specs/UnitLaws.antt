-- Laws: what a bench does to a unit none of whose calls is refused, in the words of `wires`. Assumes nothing.
use Rattle.std.specs.Prelude.{ℕ, zero, suc, ◌≤◌, ◌<◌, Bool, true, false, cond, not, ◌&&◌, List, [], ◌∷◌, refl, eqb, leb, ltb, drop, get_or, length, Some, Option, None, Ok, Err, Result, ⊤, option_and_then}
use Rattle.std.proofs.Common.{true≢false, sym, ap, ◌∙◌, subst}
use Rattle.std.proofs.Math.Path.{◌≡◌}
use native.Mathlib.Omega.{arith}
use borrow.Author.Tests.{le-ltb, leb-false, lt-ltb, ltb-true, ne_eqb}
use Rattle.clocks.specs.declared.Clocks.{Clocks}
use Rattle.time.specs.Time.{earlier, same_time, time_of}
use Rattle.time.specs.Truths.{by_cases, either}
use Rattle.time.specs.declared.Time.{Time}
use Rattle.waits.specs.Ahead.{Ahead, NotRefused}
use Rattle.waits.proofs.DueLaws.{ahead_both, sooner_unrefused}
use Rattle.waits.specs.Ends.{due_of, sooner}
use Rattle.hosts.specs.Calls.{is_now, outcome_of}
use Rattle.iic.specs.Calls.{advance_of, deadline_of, input_pins_of, read_of, set_gate_of, write_of}
use Rattle.iic.specs.Told.{Answer, refusal, nothing, byte, bit, no_levels, the_levels, no_moment, moment, is_refusal, number_of, of_byte, of_deadline, of_end, of_truth}
use Rattle.iic.specs.declared.Iic.{Iic}
use Rattle.answers.specs.Calls as player
use Rattle.lines.specs.Lines.{may_follow}
use Rattle.lines.specs.Reading.{digit_of, timed_of, verb_of}
use Rattle.lines.specs.declared.Call.{Call as ScriptCall}
use Rattle.lines.specs.declared.Verb.{Verb}
use Rattle.lines.specs.declared.Verb.TheVariants as verb
use Rattle.wires.specs.Units.{Answered, NotPast, named}
use Rattle.bench.specs.declared.Bench.{Bench}
use Rattle.bench.specs.declared.Place.{Place}
use Rattle.script.specs.Script.{called_of, is_scripted, line_of, next_of}
use Rattle.bench.specs.Steps.{Judged, judged_by}
use Rattle.units.specs.Units.{is_at, is_named, is_present, names_by, names_of}
use Rattle.bench.specs.Moments.{mark_of, moment_of, named_by, state_at}
use Rattle.together.specs.Calls.{call_from}
use Rattle.script.specs.declared.Unplayed.{Unplayed}
use Rattle.script.specs.declared.Unplayed.TheVariants.{Unread, Early}
use Rattle.script.specs.Script as Script
use Rattle.refusals.specs.declared.Refusal.{Refusal}
use Rattle.refusals.specs.Refusals.{number_ended}
use Rattle.answers.specs.Calls.{moment_in, valued}
use Rattle.answers.specs.declared.Value.TheVariants as value

-- ## Calls

-- the player's outcome of a verb is that of the call
pub state_is : (k : Clocks) (t : Time) (s : Iic) (v : Verb) → (player.outcome_of k t s v).state ≡ (outcome_of k (call_from t v) s).state
unfolding player.outcome_of outcome_of
state_is k t s (verb.Read a) = refl
state_is k t s (verb.Write a b) = refl
state_is k t s (verb.Pins scl sda) = refl
state_is k t s (verb.Gate on) = refl
state_is k t s verb.Visit = refl
state_is k t s verb.Deadline = refl

of_steps : (x : Result ⊤ Refusal) → number_ended (valued (λ _. None) x) ≡ number_of (of_end x)
of_steps (Ok u) = refl
of_steps (Err r) = refl

number_is : (k : Clocks) (t : Time) (s : Iic) (v : Verb) → number_ended (player.outcome_of k t s v).answer ≡ number_of (outcome_of k (call_from t v) s).answer
unfolding player.outcome_of outcome_of
number_is k t s (verb.Read a) = of_reads (read_of s a t k).answer
  where
    of_reads : (x : Result ℕ Refusal) → number_ended (valued (λ b. Some (value.Byte b)) x) ≡ number_of (of_byte x)
    of_reads (Ok b) = refl
    of_reads (Err r) = refl
number_is k t s (verb.Write a b) = of_steps (write_of s a b t k).answer
number_is k t s (verb.Pins scl sda) = of_pins (input_pins_of s scl sda t k).answer
  where
    of_pins : (x : Result Bool Refusal) → number_ended (valued (λ b. Some (value.Bit b)) x) ≡ number_of (of_truth x)
    of_pins (Ok b) = refl
    of_pins (Err r) = refl
number_is k t s (verb.Gate on) = of_steps (set_gate_of s on t k).answer
number_is k t s verb.Visit = of_steps (advance_of s t k).answer
number_is k t s verb.Deadline = of_deadlines (deadline_of s k)
  where
    of_deadlines : (x : Result (Option Time) Refusal) → number_ended (valued moment_in x) ≡ number_of (of_deadline x)
    of_deadlines (Ok None) = refl
    of_deadlines (Ok (Some u)) = refl
    of_deadlines (Err r) = refl

number_none : (a : Answer) → is_refusal a ≡ false → number_of a ≡ 0
number_none (refusal n) e = absurd (true≢false e)
number_none nothing e = refl
number_none (byte n) e = refl
number_none (bit b) e = refl
number_none no_levels e = refl
number_none (the_levels l) e = refl
number_none no_moment e = refl
number_none (moment t) e = refl

-- so a visit that is answered leaves no mark
pub no_mark : (k : Clocks) (t : Time) (s : Iic) (v : Verb) → Answered k (call_from t v) s → not (eqb (number_ended (player.outcome_of k t s v).answer) 0) ≡ false
no_mark k t s v h = ap (λ (n : ℕ). not (eqb n 0)) (number_is k t s v ∙ number_none (outcome_of k (call_from t v) s).answer h)

-- ## Script lines

-- a line that is played is of a unit that the bench has, and of one of the three verbs
pub record Playable (count u : ℕ) (c : ScriptCall) : Type 0 where
  pub there : u < count
  pub scripted : is_scripted c.verb ≡ true

abbrev Scripted : Option (ℕ × ScriptCall) → Type 0
Scripted None = Unit {0}
Scripted (Some (u, c)) = is_scripted c.verb ≡ true

abbrev NextScripted : Option (Option (ℕ × ScriptCall)) → Type 0
NextScripted None = Unit {0}
NextScripted (Some line) = Scripted line

abbrev Judges : ℕ → Judged → Type 0
Judges count None = Unit {0}
Judges count (Some (Err Unread)) = Unit {0}
Judges count (Some (Err (Early u))) = Unit {0}
Judges count (Some (Ok (u, c))) = Playable count u c

line_scripted : (l : List ℕ) → Scripted (line_of l)
unfolding line_of called_of
line_scripted l = timed (timed_of l)
  where
    of_verb : (u : ℕ) (t : Time) (v : Option Verb) → Scripted (option_and_then (λ w. cond (is_scripted w) (Some (u, record { time = t; verb = w })) None) v)
    of_verb u t None = tt
    of_verb u t (Some v) = by_cases Scripted (is_scripted v) (λ e. e) (λ e. tt)

    called : (t : Time) (m : List ℕ) → Scripted (called_of t m)
    called t m =
        either Scripted (ltb (length m) 2) tt
        (either Scripted (not (ltb (digit_of (get_or m 0 0)) 10 && eqb (get_or m 1 0) 9)) tt (of_verb (digit_of (get_or m 0 0)) t (verb_of (drop 2 m))))

    timed : (x : Option (Time × ℕ)) → Scripted (option_and_then (λ t. called_of t.0 (drop t.1 l)) x)
    timed None = tt
    timed (Some (t, m)) = called t (drop m l)

next_scripted : (ls : List (List ℕ)) → NextScripted (next_of ls)
next_scripted [] = tt
next_scripted (l ∷ ls) = line_scripted l

judges : (count : ℕ) (n : Option (Option (ℕ × ScriptCall))) (p : Place) → NextScripted n → Judges count (judged_by count n p)
unfolding Script.judged_by Script.judged_as
judges count None p h = tt
judges count (Some None) p h = tt
judges count (Some (Some (u, c))) p h =
    by_cases (λ (x : Result (ℕ × ScriptCall) Unplayed). Judges count (Some x)) (leb count u) (λ e. tt)
    (λ e. either (λ (x : Result (ℕ × ScriptCall) Unplayed). Judges count (Some x)) (may_follow p.last c.time) (record { there = leb-false count u e; scripted = h }) tt)

pub playable : (count u : ℕ) (c : ScriptCall) (ls : List (List ℕ)) (p : Place) → judged_by count (next_of ls) p ≡ Some (Ok (u, c)) → Playable count u c
playable count u c ls p e = subst (Judges count) e (judges count (next_of ls) p (next_scripted ls))

-- ## The moment that a deadline names

-- a unit with no mark is visited where its deadline names the moment
pub named_is : (k : Clocks) (t : Time) (s : Iic) → is_named k t false s ≡ named k t s
unfolding is_named names_of due_of earlier same_time
named_is k t s = go (deadline_of s k)
  where
    apart : (a b : ℕ) → a < b → a ≡ b → ⊥
    apart a b l f = omega arith

    now_is : (b : Bool) → b ≡ is_now (cond b (Ok true) (Ok false))
    now_is true = refl
    now_is false = refl

    at : (x : Time) (e : Bool) → ltb (time_of x) (time_of t) ≡ e
        → is_at (cond (not e && not (false && is_present (Some t) x)) (Ok (Some x)) (Ok None)) t ≡ is_now (due_of (Ok (Some x)) t)
    at x true e = sym (ap (λ (b : Bool). is_now (cond b (Ok true) (Ok false))) (ne_eqb (time_of x) (time_of t) (apart (time_of x) (time_of t) (ltb-true (time_of x) (time_of t) e))))
    at x false e = now_is (eqb (time_of x) (time_of t))

    go : (d : Result (Option Time) Refusal) → is_at (names_by (Some t) false d) t ≡ is_now (due_of d t)
    go (Ok None) = refl
    go (Ok (Some x)) = at x (ltb (time_of x) (time_of t)) refl
    go (Err n) = refl

-- the moment that the bench goes to isn't past the deadline of a unit with no mark
module _ (k : Clocks) (count : ℕ) (now : Time) (line : Result (Option Time) Refusal) (b : Bench) (m : Time) (chosen : moment_of k count (Some now) line b ≡ Ok (Some m)) where
  abbrev names : ℕ → Result (Option Time) Refusal
  names u = named_by k count (Some now) b u

  same_at : (x y : Time) → ◌≡◌ {A = Result (Option Time) Refusal} (Ok (Some x)) (Ok (Some y)) → x ≡ y
  same_at x y e = cc

  all_ahead : (u : ℕ) → u < 4 → Ahead m (names u)
  unfolding moment_of
  all_ahead u l = pick u l
    where
      not_refused_lem : NotRefused (sooner (names 0) (sooner (names 1) (sooner (names 2) (sooner (names 3) line))))
      not_refused_lem n e = differ (sym chosen ∙ e)
        where
          differ : ◌≡◌ {A = Result (Option Time) Refusal} (Ok (Some m)) (Err n) → ⊥
          differ f = let z : ◌≡◌ {A = ℕ} 0 1 = cc in omega arith

      ahead : Ahead m (sooner (names 0) (sooner (names 1) (sooner (names 2) (sooner (names 3) line))))
      ahead x e = subst (λ (y : Time). time_of m ≤ time_of y) (same_at m x (sym chosen ∙ e)) (omega arith)

      r1 : NotRefused (sooner (names 1) (sooner (names 2) (sooner (names 3) line)))
      r1 = (sooner_unrefused (names 0) (sooner (names 1) (sooner (names 2) (sooner (names 3) line))) not_refused_lem).1

      r2 : NotRefused (sooner (names 2) (sooner (names 3) line))
      r2 = (sooner_unrefused (names 1) (sooner (names 2) (sooner (names 3) line)) r1).1

      r3 : NotRefused (sooner (names 3) line)
      r3 = (sooner_unrefused (names 2) (sooner (names 3) line) r2).1

      a0 : Ahead m (names 0) × Ahead m (sooner (names 1) (sooner (names 2) (sooner (names 3) line)))
      a0 = ahead_both m (names 0) (sooner (names 1) (sooner (names 2) (sooner (names 3) line))) not_refused_lem ahead

      a1 : Ahead m (names 1) × Ahead m (sooner (names 2) (sooner (names 3) line))
      a1 = ahead_both m (names 1) (sooner (names 2) (sooner (names 3) line)) r1 a0.1

      a2 : Ahead m (names 2) × Ahead m (sooner (names 3) line)
      a2 = ahead_both m (names 2) (sooner (names 3) line) r2 a1.1

      pick : (u : ℕ) → u < 4 → Ahead m (names u)
      pick zero l = a0.0
      pick (suc zero) l = a1.0
      pick (suc (suc zero)) l = a2.0
      pick (suc (suc (suc zero))) l = (ahead_both m (names 3) line r3 a2.1).0
      pick (suc (suc (suc (suc u)))) l = absurd (omega arith)

  pub not_past_lem : (u : ℕ) → u < count → u < 4 → mark_of b.place u ≡ false → NotPast k now (state_at b u) m
  unfolding named_by names_of earlier
  not_past_lem u there small clear t e le = all_ahead u small t (rw (lt-ltb u count there, clear, e, le-ltb (time_of t) (time_of now) le) refl)
