-- Laws: the proof of `MovedRuns`, and a use of it from the default. Assumes nothing.
use Rattle.std.specs.Prelude.{ℕ, ◌+◌, ◌-◌, ◌*◌, ◌^◌, ◌≤◌, ◌<◌, Bool, true, false, cond, List, ◌≡◌, refl, ltb, Err, Ok}
use Rattle.std.proofs.Common.{sym, ◌∙◌, ap, subst, arith, ltb-true}
use Rattle.time.specs.declared.Clock.{Clock}
use Rattle.time.specs.Clock.{in_width, move_of, moved_by, start_after, zero_in}
use Rattle.time.proofs.Laws.{no_zero, time_of_from}
use Rattle.time.proofs.MoveLaws.{moved_sound}
use Rattle.time.proofs.NextLaws.{slow}
use Rattle.time.specs.Time.{time_of}
use Rattle.time.specs.Truths.{and_right}
use Rattle.clocks.specs.declared.Clocks.{Clocks}
use Rattle.clocks.specs.declared.NewClocks.{NewClocks}
use Rattle.clocks.specs.Clocks.{clock_set, default_frequencies, has_zero}
use Rattle.clocks.specs.Moves.{move_system, moved_in, with_system}
use Rattle.clocks.specs.SystemLaws.{system_free}
use Rattle.iic.specs.State.{default_iic, initial}
use Rattle.iic.specs.declared.Iic.{Iic}
use Rattle.hosts.specs.Calls.{Call}
use Rattle.moves.proofs.Agree.{alike_agree_lem}
use Rattle.moves.specs.Moving.{moved_alike}
use Rattle.moves.proofs.Own.{own_ahead}
use Rattle.moves.specs.Sets.{set_alike}
use Rattle.moves.specs.Statement.{AllFrom, Moved, MovedRuns, NoneBefore, new_start, outcomes}
use Rattle.refusals.proofs.Laws.{err_not_ok}
use Rattle.refusals.specs.declared.Refusal.{Refusal}
use Rattle.refusals.specs.declared.Refusal.TheVariants.{ZeroFrequency, Overflow}

-- what a move that wasn't refused tells
record Parts (n : ℕ) (k k' : Clocks) : Type 0 where
  free : has_zero k ≡ false
  width : in_width n k.system.clock ≡ true
  is : with_system (moved_by n k.system.clock) k ≡ k'

some : (r : Refusal) (a b : Clocks) → ◌≡◌ {A = NewClocks} (record { ended = Err r; clocks = a }) (record { ended = Ok tt; clocks = b }) → ⊥
some r a b e = err_not_ok (ap (λ (x : NewClocks). x.ended) e)

moved_parts : (k k' : Clocks) (n : ℕ) → Moved k n k' → Parts n k k'
unfolding move_system move_of
moved_parts k k' n e = go (has_zero k) refl e
  where
    go : (z : Bool) → has_zero k ≡ z → cond z (record { ended = Err ZeroFrequency; clocks = k }) (moved_in k (move_of n k.system.clock)) ≡ record { ended = Ok tt; clocks = k' } → Parts n k k'
    go true p f = absurd (some ZeroFrequency k k' f)
    go false p f = width (in_width n k.system.clock) refl (rw (system_free k p) at f)
      where
        width : (w : Bool) → in_width n k.system.clock ≡ w → moved_in k (cond w (Ok (moved_by n k.system.clock)) (Err Overflow)) ≡ record { ended = Ok tt; clocks = k' } → Parts n k k'
        width true q g = record { free = p; width = q; is = ap (λ (x : NewClocks). x.clocks) g }
        width false q g = absurd (some Overflow k k' g)

pub moved_runs_lem : MovedRuns
unfolding moved_by
moved_runs_lem k k' n e runs early word u own l from =
    let x : Clock = k.system.clock in
    let p : Parts n k k' = moved_parts k k' n e in
    let sound : zero_in x ≡ false = system_free k p.free in
    let counted : x.ordinal + n ≤ 2 ^ 64 - 1 = (let less : x.ordinal + n < 2 ^ 64 = ltb-true (x.ordinal + n) (2 ^ 64) (and_right (ltb (start_after n x) (2 ^ 128)) _ p.width) in omega arith) in
    let before : start_after n x + 1 < 2 ^ 128 = subst (λ (y : ℕ). y + 1 < 2 ^ 128) (ap (λ (y : Clocks). time_of (new_start y)) (sym p.is) ∙ time_of_from (start_after n x)) early in
    subst (λ (y : Clocks). NoneBefore k (new_start y) u → AllFrom (new_start y) l → outcomes k u l ≡ outcomes y u l) p.is
    (λ own' from'. over k n sound p.free runs counted before (slow x.numerator x.denominator word (no_zero x sound).1) u own' l from')
    own from
  where
    over : (k : Clocks) (n : ℕ) (sound : zero_in k.system.clock ≡ false) (free : has_zero k ≡ false) (runs : k.system.running ≡ true)
        (counted : k.system.clock.ordinal + n ≤ 2 ^ 64 - 1) (before : start_after n k.system.clock + 1 < 2 ^ 128)
        (least : k.system.clock.numerator ≤ k.system.clock.denominator * 2 ^ 64)
        (u : Iic) → NoneBefore k (new_start (with_system (moved_by n k.system.clock) k)) u
        → (l : List Call) → AllFrom (new_start (with_system (moved_by n k.system.clock) k)) l
        → outcomes k u l ≡ outcomes (with_system (moved_by n k.system.clock) k) u l
    over k n sound free runs counted before least u own l from =
        let c : Clock = moved_by n k.system.clock in
        let o : ℕ = k.system.clock.ordinal + n in
        let zeros : zero_in k.system.clock ≡ zero_in c = sound ∙ sym (moved_sound k.system.clock n sound) in
        let clocks = moved_alike k.system.clock n sound counted before least in
        (alike_agree_lem k (with_system c k) c.start o (set_alike k c c.start o zeros runs clocks free) u (own_ahead k c c.start o zeros runs clocks free u own) l from).0

-- ## It isn't empty: the default, over the default clock set moved by a million edges

abbrev defaults : Clocks
defaults = clock_set (record { seconds = 0; fraction = 0 }) default_frequencies

abbrev later : Clock
later = record { start = record { seconds = 0; fraction = 0x4571c71c71c71c71 }; numerator = 3686400; denominator = 1; ordinal = 1000000; fraction = 2867200 }

pub from_default : (l : List Call) → AllFrom later.start l → outcomes defaults default_iic l ≡ outcomes (with_system later defaults) default_iic l
unfolding move_system move_of moved_by zero_in has_zero clock_set initial
from_default l from = moved_runs_lem defaults (with_system later defaults) 1000000 refl refl (ltb-true _ (2 ^ 128) refl) (ltb-true 3686400 (2 ^ 64) refl) default_iic (tt, tt, tt, tt) l from
