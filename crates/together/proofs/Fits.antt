-- Laws: tests, worked out step by step, of what is asked of a unit in a run, and of extra visits: where they pass, `Shares` and `AllIdle` are met. Assumes nothing.
use Prim.Native.Nat.{ℕ, zero, suc, ◌≤◌, ◌<◌}
use Rattle.std.specs.Prelude.{Bool, false, not, ◌&&◌, ◌||◌, List, [], ◌∷◌, ◌≡◌, refl, eqb}
use Rattle.std.proofs.Math.Bool.{true}
use Rattle.std.proofs.lemmas.Bool.{false≢true}
use Rattle.std.proofs.Common.{ap, subst, arith, eq-eqb}
use Rattle.clocks.specs.declared.Clocks.{Clocks}
use Rattle.time.specs.Truths.{and_left, and_right, not_so}
use Rattle.hosts.specs.Calls.{Call, advance, deadline, idle, outcome_of}
use Rattle.iic.specs.State.{awake}
use Rattle.iic.specs.Told.{is_refusal}
use Rattle.wires.specs.Units.{Answered, On}
use Rattle.bench.specs.Bench.{Run, after, next, start}
use Rattle.together.specs.Calls.{Made, asks, doing_in, made, none, one, unit_in}
use Rattle.together.specs.Extra.{AllIdle, Idle, Move, Watched, host_in, moved, step, visit}
use Rattle.together.specs.Runs.{Shares, is_reporting}

-- where the first holds, the second does
so : (a b : Bool) → (not a || b) ≡ true → a ≡ true → b ≡ true
so true b h e = h
so false b h e = absurd (false≢true e)

or_true : (a b : Bool) → b ≡ true → (a || b) ≡ true
or_true true b e = refl
or_true false b e = e

module _ (k : Clocks) (count room u : ℕ) where
  abbrev answers : Call → Run → Bool
  answers x r = not (is_refusal (outcome_of k x (unit_in r u)).answer)

  -- the call that the next step makes of the unit, and its deadline
  abbrev call_fits : Made → Run → Bool
  call_fits none r = true
  call_fits (one i x) r = not (eqb i u) || answers x r

  abbrev step_fits : Run → Bool
  step_fits r = call_fits (made k count room r) r && (not (asks count r) || answers deadline r)

  -- the bench reports levels, or did before
  abbrev reported : Bool → Run → Bool
  reported q r = q || is_reporting (doing_in r)

  abbrev is_on : Bool → Run → Bool
  is_on q r = not (reported q r) || awake (unit_in r u)

  -- so many steps on
  abbrev pub fits : ℕ → Bool → Run → Bool
  fits zero q r = is_on q r
  fits (suc n) q r = is_on q r && step_fits r && fits n (reported q r) (next k count room r)

  on_now : (n : ℕ) (q : Bool) (r : Run) → fits n q r ≡ true → is_on q r ≡ true
  on_now zero q r h = h
  on_now (suc n) q r h = and_left (is_on q r) (step_fits r) (and_left (is_on q r && step_fits r) (fits n (reported q r) (next k count room r)) h)

  step_now : (n : ℕ) (q : Bool) (r : Run) → fits (suc n) q r ≡ true → step_fits r ≡ true
  step_now n q r h = and_right (is_on q r) (step_fits r) (and_left (is_on q r && step_fits r) (fits n (reported q r) (next k count room r)) h)

  rest : (n : ℕ) (q : Bool) (r : Run) → fits (suc n) q r ≡ true → fits n (reported q r) (next k count room r) ≡ true
  rest n q r h = and_right (is_on q r && step_fits r) (fits n (reported q r) (next k count room r)) h

  on_since : (n : ℕ) (q : Bool) (r : Run) → fits n q r ≡ true → reported q r ≡ true → (j : ℕ) → j ≤ n → On (unit_in (after k count room j r) u)
  unfolding after
  on_since n q r h c zero l = so (reported q r) (awake (unit_in r u)) (on_now n q r h) c
  on_since zero q r h c (suc j) l = absurd (omega arith)
  on_since (suc n) q r h c (suc j) l =
      on_since n (reported q r) (next k count room r) (rest n q r h) (ap (λ (b : Bool). b || is_reporting (doing_in (next k count room r))) c) j (omega arith)

  fits_on : (n : ℕ) (q : Bool) (r : Run) → fits n q r ≡ true → (i j : ℕ) → i ≤ j → j ≤ n → is_reporting (doing_in (after k count room i r)) ≡ true
      → On (unit_in (after k count room j r) u)
  unfolding after
  fits_on n q r h zero j le l c = on_since n q r h (or_true q (is_reporting (doing_in r)) c) j l
  fits_on n q r h (suc i) zero le l c = absurd (omega arith)
  fits_on zero q r h (suc i) (suc j) le l c = absurd (omega arith)
  fits_on (suc n) q r h (suc i) (suc j) le l c = fits_on n (reported q r) (next k count room r) (rest n q r h) i j (omega arith) (omega arith) c

  fits_answered : (n : ℕ) (q : Bool) (r : Run) → fits n q r ≡ true → (i : ℕ) → i < n → (x : Call) → made k count room (after k count room i r) ≡ one u x
      → Answered k x (unit_in (after k count room i r) u)
  unfolding after
  fits_answered zero q r h i l x e = absurd (omega arith)
  fits_answered (suc n) q r h zero l x e =
      let now : call_fits (made k count room r) r ≡ true = and_left (call_fits (made k count room r) r) (not (asks count r) || answers deadline r) (step_now n q r h) in
      not_so (is_refusal (outcome_of k x (unit_in r u)).answer) (so (eqb u u) (answers x r) (subst (λ (m : Made). call_fits m r ≡ true) e now) (eq-eqb u u refl))
  fits_answered (suc n) q r h (suc i) l x e = fits_answered n (reported q r) (next k count room r) (rest n q r h) i (omega arith) x e

  fits_dated : (n : ℕ) (q : Bool) (r : Run) → fits n q r ≡ true → (i : ℕ) → i < n → asks count (after k count room i r) ≡ true
      → Answered k deadline (unit_in (after k count room i r) u)
  unfolding after
  fits_dated zero q r h i l e = absurd (omega arith)
  fits_dated (suc n) q r h zero l e =
      not_so (is_refusal (outcome_of k deadline (unit_in r u)).answer)
      (so (asks count r) (answers deadline r) (and_right (call_fits (made k count room r) r) (not (asks count r) || answers deadline r) (step_now n q r h)) e)
  fits_dated (suc n) q r h (suc i) l e = fits_dated n (reported q r) (next k count room r) (rest n q r h) i (omega arith) e

  pub fits_shares : (script : List ℕ) (n : ℕ) → fits n false (start script) ≡ true → Shares k count room script n u
  fits_shares script n h = record {
    answered = fits_answered n false (start script) h;
    dated = fits_dated n false (start script) h;
    on = fits_on n false (start script) h;
  }

-- ## Extra visits

abbrev visit_fits : Clocks → Move → Watched → Bool
visit_fits k step w = true
visit_fits k (visit u t) w = not (w.past u).refused && idle k (advance t) (host_in w u)

abbrev pub visits_fit : Clocks → ℕ → ℕ → List Move → Watched → Bool
visits_fit k count room [] w = true
visits_fit k count room (m ∷ l) w = visit_fits k m w && visits_fit k count room l (moved k count room m w)

visit_idle : (k : Clocks) (m : Move) (w : Watched) → visit_fits k m w ≡ true → Idle k m w
visit_idle k step w h = tt
visit_idle k (visit u t) w h = (
  not_so (w.past u).refused (and_left (not (w.past u).refused) (idle k (advance t) (host_in w u)) h),
  and_right (not (w.past u).refused) (idle k (advance t) (host_in w u)) h,
)

pub visits_idle : (k : Clocks) (count room : ℕ) (l : List Move) (w : Watched) → visits_fit k count room l w ≡ true → AllIdle k count room l w
visits_idle k count room [] w h = tt
visits_idle k count room (m ∷ l) w h = (
  visit_idle k m w (and_left (visit_fits k m w) (visits_fit k count room l (moved k count room m w)) h),
  visits_idle k count room l (moved k count room m w) (and_right (visit_fits k m w) (visits_fit k count room l (moved k count room m w)) h),
)
