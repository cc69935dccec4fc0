-- Laws: the proof of `EqualOnBench`, by the steps of the run: what holds of the two units at the start is kept by each step. Assumes nothing.
use Rattle.std.specs.Prelude.{ℕ, zero, suc, ◌≤◌, ◌<◌, Bool, true, false, ◌||◌, List, ◌⊎◌, ◌≡◌, refl, None, Some}
use Rattle.std.proofs.lemmas.Bool.{false≢true}
use Rattle.std.proofs.Common.{inl, inr, sym, ap, ◌∙◌, eq-eqb, eqb-true}
use Rattle.std.proofs.Math.Logic.{⊎_elim}
use Rattle.std.proofs.Math.Path.{subst}
use native.Mathlib.Omega.{arith}
use Rattle.clocks.specs.declared.Clocks.{Clocks}
use Rattle.iic.specs.State.{default_iic}
use Rattle.iic.specs.declared.Iic.{Iic}
use Rattle.wires.specs.Statement.{InWord}
use Rattle.wires.specs.Units.{On}
use Rattle.wires.specs.Views.{View}
use Rattle.bench.specs.declared.Bench.{Bench}
use Rattle.bench.specs.declared.Doing.{Doing}
use Rattle.bench.specs.declared.Doing.TheVariants.{Looks, Visits, Plays, Reports, Ended}
use Rattle.bench.specs.Bench.{Run, after, end_of, enough, has_ended, next, ran, start}
use Rattle.bench.proofs.EndLaws.{after_last, it_ends}
use Rattle.bench.specs.Moments.{fresh_bench, state_at}
use Rattle.together.specs.Calls.{doing_in, run_at, unit_in}
use Rattle.together.specs.Runs.{EqualOnBench, Shares, is_between, is_reporting}
use Rattle.together.specs.Stages.{FirstAt, Holds, LaterAt}
use Rattle.together.proofs.StepsHold.{none_marked, step_holds}
use Rattle.refusals.specs.Refusals.{number_ended}

-- ## After any number of steps

pub fresh_unit : (u : ℕ) → state_at fresh_bench u ≡ default_iic
unfolding fresh_bench
fresh_unit zero = refl
fresh_unit (suc zero) = refl
fresh_unit (suc (suc zero)) = refl
fresh_unit (suc (suc (suc zero))) = refl
fresh_unit (suc (suc (suc (suc u)))) = refl

one_of : (p q : Bool) → (p || q) ≡ true → (p ≡ true) ⊎ (q ≡ true)
one_of true q e = inl refl
one_of false q e = inr e

module _ (k : Clocks) (word : InWord k) (count room : ℕ) (small : count ≤ 4) (script : List ℕ) (U : ℕ → Type 0) (below : (u : ℕ) → U u → u < count)
    (some : ℕ) (is_some : U some) where
  abbrev at : ℕ → Run
  at n = run_at k count room script n

  -- it has come to reports
  abbrev Reported : ℕ → Type 0
  Reported n = (i : ℕ) × (i ≤ n) × (is_reporting (doing_in (at i)) ≡ true)

  abbrev Inv : ℕ → Type 0
  Inv n = (q : Bool) × (q ≡ true → Reported n) × Holds k U q (at n).bench

  start_holds : Inv 0
  unfolding after fresh_bench
  start_holds = (false, λ e. absurd (false≢true e), (refl, λ u x. none_marked u, λ u x. fresh_unit u))

  step : (n : ℕ) → ((u : ℕ) → U u → Shares k count room script (suc n) u) → Inv n → Inv (suc n)
  unfolding next
  step n h i = (
    i.0 || is_reporting (doing_in then),
    λ e. ⊎_elim (λ f. before (i.1 f)) (λ f. (suc n, omega arith, subst (λ (r : Run). is_reporting (doing_in r) ≡ true) (sym is) f)) (one_of i.0 (is_reporting (doing_in then)) e),
    subst (λ (r : Run). Holds k U (i.0 || is_reporting (doing_in then)) r.bench) (sym is)
        (step_holds k word count room small U below some is_some (at n) (λ u x y c. (h u x).answered n (omega arith) y c) (λ u x y. (h u x).dated n (omega arith) y)
        i.2.0 i.2.1 i.0 i.2.2 on),
  )
    where
      then : Run
      then = next k count room (at n)

      is : at (suc n) ≡ next k count room (at n)
      is = after_last k count room n (start script)

      before : Reported n → Reported (suc n)
      before p = (p.0, omega (arith, p.1), p.2)

      on : (i.0 || is_reporting (doing_in (next k count room (at n)))) ≡ true → (u : ℕ) → U u → On (unit_in (next k count room (at n)) u)
      on e u x =
          subst (λ (r : Run). On (unit_in r u)) is
          (⊎_elim (λ f. let p : Reported (suc n) = before (i.1 f) in (h u x).on p.0 (suc n) p.1 (omega arith) p.2)
          (λ f. (h u x).on (suc n) (suc n) (omega arith) (omega arith) (subst (λ (r : Run). is_reporting (doing_in r) ≡ true) (sym is) f))
          (one_of i.0 (is_reporting (doing_in (next k count room (at n)))) e))

  fewer : (n u : ℕ) → Shares k count room script (suc n) u → Shares k count room script n u
  fewer n u h = record { answered = λ i lt. h.answered i (omega arith); dated = λ i lt. h.dated i (omega arith); on = λ i j le lt. h.on i j le (omega arith) }

  pub holds : (n : ℕ) → ((u : ℕ) → U u → Shares k count room script n u) → Inv n
  holds zero h = start_holds
  holds (suc n) h = step n h (holds n (λ u x. fewer n u (h u x)))

-- ## Between two moments

first_filtered : (k : Clocks) (d : Doing) (s : Iic) → is_between d ≡ true → FirstAt k d s → s.lines.filtered ≡ default_iic.lines.filtered
first_filtered k (Looks None) s e h = ap (λ (x : Iic). x.lines.filtered) h
first_filtered k (Looks (Some m)) s e h = absurd h
first_filtered k (Visits t i) s e h = absurd (false≢true e)
first_filtered k (Plays t) s e h = absurd (false≢true e)
first_filtered k (Reports t w i) s e h = absurd (false≢true e)
first_filtered k (Ended n) s e h = ap (λ (x : Iic). x.lines.filtered) (h (eqb-true (number_ended n) 0 e))

later_filtered : (k : Clocks) (v : View) (d : Doing) (u : ℕ) (s : Iic) → is_between d ≡ true → LaterAt k v d u s → s.lines.filtered ≡ v.filtered
later_filtered k v (Looks None) u s e h = absurd h
later_filtered k v (Looks (Some m)) u s e h = h.keeps.filtered
later_filtered k v (Visits t i) u s e h = absurd (false≢true e)
later_filtered k v (Plays t) u s e h = absurd (false≢true e)
later_filtered k v (Reports t w i) u s e h = absurd (false≢true e)
later_filtered k v (Ended n) u s e h = h (eqb-true (number_ended n) 0 e)

both_filtered : (k : Clocks) (U : ℕ → Type 0) (q : Bool) (c : Bench) → Holds k U q c → is_between c.place.doing ≡ true → (a b : ℕ) → U a → U b
    → (state_at c a).lines.filtered ≡ (state_at c b).lines.filtered
both_filtered k U false c h e a b x y =
    first_filtered k c.place.doing (state_at c a) e (h.2 a x) ∙ sym (first_filtered k c.place.doing (state_at c b) e (h.2 b y))
both_filtered k U true c h e a b x y =
    later_filtered k h.2.0 c.place.doing a (state_at c a) e (h.2.1 a x) ∙ sym (later_filtered k h.2.0 c.place.doing b (state_at c b) e (h.2.1 b y))

pub equal_on_bench_lem : EqualOnBench
equal_on_bench_lem k word count room small script n a b less-a less-b shares-a shares-b between =
    let i = holds k word count room small script U (λ u x. is (λ (v : ℕ). v < count) less-a less-b u x) a (inl refl) n
    (λ u x. is (Shares k count room script n) shares-a shares-b u x) in
    both_filtered k U i.0 (run_at k count room script n).bench i.2 between a b (inl refl) (inr refl)
  where
    U : ℕ → Type 0
    U u = (u ≡ a) ⊎ (u ≡ b)

    is : (P : ℕ → Type 0) → P a → P b → (u : ℕ) → U u → P u
    is P p q u x = ⊎_elim (λ e. subst P (sym e) p) (λ e. subst P (sym e) q) x

-- ## At the end

ended_between : (d : Doing) → has_ended d ≡ true → number_ended (end_of d) ≡ 0 → is_between d ≡ true
ended_between (Looks p) h e = absurd (false≢true h)
ended_between (Visits t i) h e = absurd (false≢true h)
ended_between (Plays t) h e = absurd (false≢true h)
ended_between (Reports t w i) h e = absurd (false≢true h)
ended_between (Ended n) h e = eq-eqb (number_ended n) 0 e

-- of a bench that isn't refused
pub equal_at_end : (k : Clocks) → InWord k → (count room : ℕ) → count ≤ 4 → (script : List ℕ) (a b : ℕ) → a < count → b < count
    → Shares k count room script (enough (start script).lines) a → Shares k count room script (enough (start script).lines) b
    → number_ended (end_of (doing_in (ran k count room (start script)))) ≡ 0
    → (unit_in (ran k count room (start script)) a).lines.filtered ≡ (unit_in (ran k count room (start script)) b).lines.filtered
equal_at_end k word count room small script a b less-a less-b shares-a shares-b e =
    equal_on_bench_lem k word count room small script (enough (start script).lines) a b less-a less-b shares-a shares-b
    (ended_between (doing_in (ran k count room (start script))) (it_ends k count room small script) e)
