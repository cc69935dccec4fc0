-- Laws: the proof of `ExtraVisits`: under the invariant of `hosts` an idle visit leaves its unit as it is, and each call that isn't refused keeps the invariant.
-- Assumes nothing.
use Rattle.std.specs.Prelude.{ℕ, ◌≤◌, Bool, true, false, cond, ◌||◌, ◌≡◌, eqb}
use mathlib.Core.List.{List, [], ◌∷◌}
use Rattle.std.proofs.Math.Path.{refl, ap, subst}
use Rattle.std.proofs.Common.{sym, ◌∙◌, arith, get_or-set_other, get_or-set_same, eqb-true}
use Rattle.std.proofs.Math.ListN.{length, length-set, set}
use Rattle.std.proofs.Math.Seq.{set-get_or}
use Rattle.std.proofs.lemmas.Bool.{eqb-false}
use Rattle.clocks.specs.declared.Clocks.{Clocks}
use Rattle.time.specs.Truths.{or_left, or_right}
use Rattle.time.specs.declared.Time.{Time}
use Rattle.rates.specs.Rates.{default_rates}
use Rattle.hosts.proofs.Agree.{good_start, idle_same}
use Rattle.hosts.specs.Calls as hosts
use Rattle.hosts.specs.Calls.{Host, advance, outcome_of}
use Rattle.hosts.specs.Invariant.{Good}
use Rattle.hosts.proofs.Kept.{good_after}
use Rattle.iic.specs.State.{default_iic}
use Rattle.iic.specs.Told.{is_refusal}
use Rattle.iic.specs.declared.Iic.{Iic}
use Rattle.bench.specs.Bench.{Run, after, next}
use Rattle.bench.specs.Moments.{fresh_bench, state_in}
use Rattle.together.proofs.CallLaws.{Below, made_below, states_after, states_by}
use Rattle.together.specs.Calls.{Made, made, none, one, unit_in}
use Rattle.together.specs.Extra.{AllIdle, ExtraVisits, Idle, Move, Past, Watched, host_in, moved, moved_all, past_by, past_visit, step, steps, visit, visited_run, watched}
use Rattle.together.proofs.RunsProof.{fresh_unit}

-- four states, and a unit of which no call was refused is good
pub record AllGood (w : Watched) : Type 0 where
  pub four : length w.run.bench.states ≡ 4
  pub good : (u : ℕ) → (w.past u).refused ≡ false → Good (host_in w u)

start_good : (script : List ℕ) → AllGood (watched script)
unfolding fresh_bench hosts.start
start_good script = record {
  four = refl;
  good = λ u e. subst (λ (s : Iic). Good (record { state = s; lifted = false })) (sym (fresh_unit u)) (good_start default_rates);
}

module _ (k : Clocks) (count room : ℕ) (small : count ≤ 4) where
  -- ## A step

  -- whatever call it makes
  made_good : (w : Watched) → AllGood w → (m : Made) → Below count m → (r : Run) → r.bench.states ≡ states_by k m w.run.bench.states
      → AllGood (record { run = r; past = past_by k m w })
  unfolding hosts.after
  made_good w h none l r e = record {
    four = ap length e ∙ h.four;
    good = λ u f. subst (λ (ss : List Iic). Good (record { state = state_in ss u; lifted = (w.past u).lifted })) (sym e) (h.good u f);
  }
  made_good w h (one i x) l r e = record {
    four = ap length e ∙ length-set ss i (left i) ∙ h.four;
    good = λ u f. subst (λ (qq : List Iic). Good (record { state = state_in qq u; lifted = (past_by k (one i x) w u).lifted })) (sym e) (each u (eqb u i) refl f);
  }
    where
      ss : List Iic
      ss = w.run.bench.states

      left : ℕ → Iic
      left u = (outcome_of k x (state_in ss u)).state

      called : ℕ → Past
      called u = record { lifted = (hosts.after k x (host_in w u)).lifted; refused = (w.past u).refused || is_refusal (outcome_of k x (unit_in w.run u)).answer }

      its : (u : ℕ) → u ≡ i → state_in (set ss i (left i)) u ≡ left u
      its u same =
          subst (λ (j : ℕ). state_in (set ss j (left j)) u ≡ left u) same (get_or-set_same ss u (left u) default_iic (omega (arith, same, l, small, h.four)))

      each : (u : ℕ) (t : Bool) → eqb u i ≡ t → (cond t (called u) (w.past u)).refused ≡ false
          → Good (record { state = state_in (set ss i (left i)) u; lifted = (cond t (called u) (w.past u)).lifted })
      each u true g f =
          subst (λ (s : Iic). Good (record { state = s; lifted = (called u).lifted })) (sym (its u (eqb-true u i g)))
          (good_after k x (host_in w u) (h.good u (or_left (w.past u).refused (is_refusal (outcome_of k x (unit_in w.run u)).answer) f))
          (or_right (w.past u).refused (is_refusal (outcome_of k x (unit_in w.run u)).answer) f))
      each u false g f =
          subst (λ (s : Iic). Good (record { state = s; lifted = (w.past u).lifted })) (sym (get_or-set_other ss i u (left i) default_iic (eqb-false u i g))) (h.good u f)

  step_good : (w : Watched) → AllGood w → AllGood (moved k count room step w)
  step_good w h = made_good w h (made k count room w.run) (made_below k count room w.run) (next k count room w.run) (states_after k count room w.run)

  -- ## An extra visit

  module _ (w : Watched) (u : ℕ) (t : Time) (h : AllGood w) (i : Idle k (visit u t) w) where
    same_host : hosts.after k (advance t) (host_in w u) ≡ host_in w u
    same_host = idle_same k (advance t) (host_in w u) (h.good u i.0) i.1

    same_run : visited_run k u t w.run ≡ w.run
    unfolding hosts.after
    same_run =
        ap (λ (l : List Iic). record { bench = record { states = l; place = w.run.bench.place }; lines = w.run.lines; answered = w.run.answered; bytes = w.run.bytes })
        (ap (λ (x : Host). set w.run.bench.states u x.state) same_host ∙ set-get_or w.run.bench.states u default_iic)

    visit_good : AllGood (moved k count room (visit u t) w)
    visit_good = record {
      four = ap (λ (r : Run). length r.bench.states) same_run ∙ h.four;
      good = λ v f. subst (λ (r : Run). Good (record { state = unit_in r v; lifted = (past_visit k u t w v).lifted })) (sym same_run) (each v (eqb v u) refl f);
    }
      where
        left : ℕ → Past
        left v = record { lifted = (hosts.after k (advance t) (host_in w v)).lifted; refused = (w.past v).refused }

        each : (v : ℕ) (b : Bool) → eqb v u ≡ b → (cond b (left v) (w.past v)).refused ≡ false
            → Good (record { state = unit_in w.run v; lifted = (cond b (left v) (w.past v)).lifted })
        each v true e f =
            let same : hosts.after k (advance t) (host_in w v) ≡ host_in w v = subst (λ (x : ℕ). hosts.after k (advance t) (host_in w x) ≡ host_in w x) (sym (eqb-true v u e)) same_host in
            subst (λ (b : Bool). Good (record { state = unit_in w.run v; lifted = b })) (sym (ap (λ (x : Host). x.lifted) same)) (h.good v f)
        each v false e f = h.good v f

  -- ## All moves

  moves_same : (l : List Move) (w : Watched) → AllGood w → AllIdle k count room l w → (moved_all k count room l w).run ≡ after k count room (steps l) w.run
  unfolding after
  moves_same [] w h i = refl
  moves_same (step ∷ l) w h i = moves_same l (moved k count room step w) (step_good w h) i.1
  moves_same (visit u t ∷ l) w h i =
      moves_same l (moved k count room (visit u t) w) (visit_good w u t h i.0) i.1 ∙ ap (after k count room (steps l)) (same_run w u t h i.0)

pub extra_visits_lem : ExtraVisits
extra_visits_lem k count room small script l i = moves_same k count room small l (watched script) (start_good script) i
