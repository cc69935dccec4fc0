-- Laws: lines played one at a time, and what is known after a further first line.
-- Assumes nothing.
use Rattle.std.specs.Prelude.{◌≡◌, refl, List, [], ◌∷◌, ◌++◌, ◌⊎◌, Option, Some, None, MatchOption, IfSome, Bool, true, false, cond, eqb, ℕ, suc, ◌+◌, ◌-◌, ◌*◌, ◌≤◌, ◌<◌, min, length, take, drop, get_or}
use Rattle.std.specs.Borrow.{Bor}
use Rattle.std.proofs.Math.Path.{sym, ap}
use Rattle.std.proofs.Common.{◌∙◌, subst, inl, inr, ⊎_elim, mul-le-mul, add-one, arith, length-drop, take-suc, drop-cons}
use Rattle.std.proofs.Math.Nat.{sub-zero}
use Rattle.std.proofs.lemmas.Option.{none-some, same_Some}
use Rattle.clocks.specs.declared.Clocks.{Clocks}
use Rattle.answers.specs.declared.Host.{Host}
use Rattle.answers.specs.declared.Answer.{Answer}
use Rattle.lines.specs.Lines.{unclosed, lines_from, lines_in}
use Rattle.answers.specs.Calls.{answer_of}
use Rattle.answers.specs.Calls.{trace_clocks}
use Rattle.search.specs.declared.Best.{Best}
use Rattle.search.specs.Shortest.{unplayed, last_answer, drawn_by, Answers}
use Rattle.search.proofs.ShortestLaws.{less_or}
use Rattle.search.specs.Search.{Hit, Met, kept_of, run_from, Sought}
use Rattle.refusals.specs.Refusals.{number_ended}

-- ## Lines one at a time

-- the lines that are left are those from a number on
pub record Left (left ls : List (List ℕ)) (n : ℕ) : Type 0 where
  pub lines_are : left ≡ drop n ls
  pub n_le : n ≤ length ls

pub all_left : (ls : List (List ℕ)) → Left ls ls 0
all_left ls = record { lines_are = refl; n_le = omega arith }

module _ {left ls : List (List ℕ)} {n : ℕ} (g : Left left ls n) where
  left_long : length left ≡ length ls - n
  left_long = ap length g.lines_are ∙ length-drop n ls

  pub none_left : left ≡ [] → length ls ≤ n
  none_left e = let z : length left ≡ 0 = ap length e in omega (arith, left_long)

  module _ (l : List ℕ) (more : List (List ℕ)) (next : left ≡ l ∷ more) where
    pub next_within : n < length ls
    next_within = let z : length left ≡ suc (length more) = ap length next in omega (arith, left_long)

    split : get_or ls n [] ∷ drop (suc n) ls ≡ l ∷ more
    split = sym (drop-cons ls n [] next_within) ∙ sym g.lines_are ∙ next

    pub left_next : Left more ls (n + 1)
    left_next = record {
      lines_are = let q = split in let r : more ≡ drop (suc n) ls = cc in r ∙ ap (λ (x : ℕ). drop x ls) (sym (add-one n));
      n_le = omega (arith, next_within);
    }

    pub taken_next : take (n + 1) ls ≡ take n ls ++ (l ∷ [])
    taken_next =
        let q = split in
        let r : get_or ls n [] ≡ l = cc in
        ap (λ (x : ℕ). take x ls) (add-one n) ∙ take-suc ls n [] next_within ∙ ap (λ (x : List ℕ). take n ls ++ (x ∷ [])) r

  -- after a call that gives the next line, where there is one
  pub left_after : (more : List (List ℕ)) (given : Option (Bor (List ℕ))) → n < length ls → MatchOption given ((left ≡ []) × (more ≡ [])) (λ x. left ≡ x.now ∷ more) → Left more ls (n + 1)
  left_after more None some e = absurd (let h = none_left e.0 in omega arith)
  left_after more (Some x) some e = left_next x.now more e

unclosed_fits : (ended : Bool) (begun : List ℕ) → length (unclosed ended begun) ≤ min 1 (length begun)
unclosed_fits ended [] = omega arith
unclosed_fits ended (x ∷ xs) = by ended
  where
    by : (t : Bool) → length (cond t ((x ∷ xs) ∷ []) []) ≤ min 1 (suc (length xs))
    by true = omega arith
    by false = omega arith

from_fit : (ended : Bool) (begun s : List ℕ) → length (lines_from ended begun s) ≤ length s + min 1 (length begun)
unfolding lines_from
from_fit ended begun [] = let h = unclosed_fits ended begun in omega (arith, h)
from_fit ended begun (x ∷ xs) = by (eqb x 10) (from_fit ended [] xs) (from_fit ended (begun ++ (x ∷ [])) xs)
  where
    by : (t : Bool) → length (lines_from ended [] xs) ≤ length xs + min 1 0 → length (lines_from ended (begun ++ (x ∷ [])) xs) ≤ length xs + min 1 (length (begun ++ (x ∷ [])))
        → length (cond t (begun ∷ lines_from ended [] xs) (lines_from ended (begun ++ (x ∷ [])) xs)) ≤ suc (length xs) + min 1 (length begun)
    by true a b = omega (arith, a)
    by false a b = omega (arith, b)

-- there are no more lines than bytes
pub lines_fit : (ended : Bool) (s : List ℕ) → length (lines_in ended s) ≤ length s
unfolding lines_in
lines_fit ended s = let h = from_fit ended [] s in omega (arith, h)

-- ## Playing

answer_append : (k : Clocks) (a : Answer) (xs ys : List (List ℕ)) → last_answer k a (xs ++ ys) ≡ last_answer k (last_answer k a xs) ys
unfolding last_answer
answer_append k a [] ys = refl
answer_append k a (x ∷ xs) ys = answer_append k (answer_of k a.host x) xs ys

-- so many lines from the start were played, and none drew the number
pub record Playing (ls : List (List ℕ)) (number : ℕ) (h : Host) (n : ℕ) : Type 0 where
  pub host_is : h ≡ (last_answer trace_clocks unplayed (take n ls)).host
  pub clear : (m : ℕ) → 0 < m → m ≤ n → Hit ls number m → ⊥

module _ {ls : List (List ℕ)} {number : ℕ} {h : Host} {n : ℕ} (p : Playing ls number h n) where
  pub met_none : (most : ℕ) → (most ≤ n) ⊎ (length ls ≤ n) → Met ls number most None
  met_none most e = record {
    hit = λ r z. absurd (none-some r z);
    clear = λ m some few within before. p.clear m some (⊎_elim (λ w. omega arith) (λ w. omega arith) e);
  }

  module _ (l : List ℕ) (a : Answer) (a-is : a ≡ answer_of trace_clocks h l) (taken : take (n + 1) ls ≡ take n ls ++ (l ∷ [])) where
    answer_is : last_answer trace_clocks unplayed (take (n + 1) ls) ≡ a
    unfolding last_answer
    answer_is =
        ap (last_answer trace_clocks unplayed) taken
        ∙ answer_append trace_clocks unplayed (take n ls) (l ∷ [])
        ∙ ap (λ (x : Host). answer_of trace_clocks x l) (sym p.host_is)
        ∙ sym a-is

    drawn_is : drawn_by (take (n + 1) ls) ≡ number_ended a.answer
    unfolding drawn_by
    drawn_is = ap (λ (x : Answer). number_ended x.answer) answer_is

    pub met_here : (most : ℕ) → n < most → n < length ls → number_ended a.answer ≡ number → Met ls number most (Some (n + 1))
    met_here most few within e = record {
      hit = λ r z. let same : n + 1 ≡ r = same_Some (n + 1) r z in (omega arith, omega arith, omega arith, subst (λ (x : ℕ). Hit ls number x) same (drawn_is ∙ e));
      clear = λ m some _ _ before. p.clear m some (let b : m < n + 1 = before (n + 1) refl in omega arith);
    }

    pub playing_on : (number_ended a.answer ≡ number → ⊥) → Playing ls number a.host (n + 1)
    playing_on ne = record {
      host_is = ap (λ (x : Answer). x.host) (sym answer_is);
      clear = λ m some le hit. ⊎_elim (λ lt. p.clear m some (omega arith) hit) (λ ge. let e : m ≡ n + 1 = omega arith in ne (sym drawn_is ∙ subst (λ (x : ℕ). drawn_by (take x ls) ≡ number) e hit)) (less_or m (n + 1));
    }

pub playing : (ls : List (List ℕ)) (number : ℕ) (h : Host) → h ≡ unplayed.host → Playing ls number h 0
unfolding last_answer
playing ls number h e = record { host_is = e; clear = λ m some le. absurd (omega arith) }

-- ## First lines

-- so many plays from the first lines tried leave room for one of every line from each of the others
pub record Few (ls : List (List ℕ)) (tried plays : ℕ) : Type 0 where
  pub few : 2 * plays + (length ls - tried) * (length ls - tried + 1) ≤ length ls * (length ls + 1)

module _ {ls : List (List ℕ)} {tried plays : ℕ} (g : Few ls tried plays) (lines : ℕ) (some : tried < length ls) (within : lines ≤ length (drop tried ls)) where
  on : (bound left rest : ℕ) → 2 * plays + left * (left + 1) ≤ bound → lines ≤ left → left ≡ suc rest → 2 * (plays + lines) + rest * (rest + 1) ≤ bound
  on bound left rest h le e = let h' = subst (λ (x : ℕ). 2 * plays + x * (x + 1) ≤ bound) e h in omega arith

  pub few_on : Few ls (tried + 1) (plays + lines)
  few_on = record { few = on _ (length ls - tried) (length ls - (tried + 1)) g.few (omega (arith, length-drop tried ls)) (omega arith) }

  -- the plays of a trace of at most 65535 lines are counted in 64 bits
  pub few_fit : length ls ≤ 65535 → plays + lines < 4294967296
  few_fit h = omega (arith, few_on.few, mul-le-mul {n₁ = length ls} {m₁ = length ls + 1} {n₂ = 65535} {m₂ = 65536} h (omega arith))

-- a larger limit allows more plays
pub few_within : (plays lines limit : ℕ) → 2 * plays ≤ lines * (lines + 1) → lines ≤ limit → 2 * plays ≤ limit * (limit + 1)
few_within plays lines limit h w = omega (arith, mul-le-mul {n₁ = lines} {m₁ = lines + 1} {n₂ = limit} {m₂ = limit + 1} w (omega arith))

pub few_none : (ls : List (List ℕ)) → Few ls 0 0
few_none ls = record { few = rw sub-zero (omega arith) }

pub sought_none_yet : (ls : List (List ℕ)) (number most : ℕ) → most ≡ length ls → Sought ls number 0 None most
sought_none_yet ls number most e = record {
  none = λ z. e;
  found = λ f z. absurd (none-some f z);
  shorter = λ g n lt some few within hit. omega arith;
  earlier = λ f g z lt within hit. none-some f z;
}

-- what draws the number is a line at least
pub met_some : {ls : List (List ℕ)} {number most : ℕ} (drawn : Option ℕ) → Met ls number most drawn → IfSome drawn (λ r. 0 < r)
met_some None met = tt
met_some (Some r) met = (met.hit r refl).0

module _ {ls : List (List ℕ)} {number tried : ℕ} {b : Best} (g : Sought ls number tried b.first b.most) (within : tried < length ls) where
  long : length (drop tried ls) ≡ length ls - tried
  long = length-drop tried ls

  -- a first line after those tried, or that one
  new_or : (f : ℕ) → f < tried + 1 → (f < tried) ⊎ (f ≡ tried)
  new_or f lt = ⊎_elim inl (λ ge. inr (omega arith)) (less_or f tried)

  pub sought_on : (drawn : Option ℕ) → Met (drop tried ls) number b.most drawn → Sought ls number (tried + 1) (kept_of b (tried + 1) drawn).first (kept_of b (tried + 1) drawn).most
  -- nothing as short from here either
  sought_on None met = record {
    none = g.none;
    found = λ f e. let h = g.found f e in (h.0, omega (arith, h.1), h.2, h.3);
    shorter = λ f n lt some few fits hit. ⊎_elim (λ old. g.shorter f n old some few fits hit)
        (λ e. met.clear n some few (omega (arith, long)) (λ r z. absurd (none-some r z)) (subst (λ (x : ℕ). Hit (drop x ls) number n) e hit)) (new_or f lt);
    earlier = g.earlier;
  }
  -- a shorter run starts here
  sought_on (Some r) met =
      let h = met.hit r refl in record {
        none = λ z. absurd (none-some (tried + 1) (sym z));
        found = λ f e. let same : tried + 1 ≡ f = same_Some (tried + 1) f e in
            (omega arith, omega arith, omega (arith, long), at_first (f - 1) (r - 1 + 1) (omega arith) (omega (arith, h.0)) h.3);
        shorter = λ f n lt some few fits hit. ⊎_elim (λ old. g.shorter f n old some (omega (arith, h.1)) fits hit)
            (λ e. met.clear n some (omega (arith, h.1)) (omega (arith, long)) (λ q z. let same : r ≡ q = same_Some r q z in omega (arith, h.0)) (subst (λ (x : ℕ). Hit (drop x ls) number n) e hit)) (new_or f lt);
        earlier = λ f x e lt fits hit. let same : tried + 1 ≡ f = same_Some (tried + 1) f e in g.shorter x (r - 1 + 1) (omega arith) (omega arith) (omega (arith, h.0, h.1)) fits hit;
      }
    where
      at_first : (f n : ℕ) → f ≡ tried → n ≡ r → Hit (drop tried ls) number r → Hit (drop f ls) number n
      at_first f n e d hit = subst (λ (x : ℕ). Hit (drop x ls) number n) (sym e) (subst (λ (x : ℕ). Hit (drop tried ls) number x) (sym d) hit)

-- where every first line was tried, the best run is what is asked for
pub sought_answers : {ls : List (List ℕ)} {number tried : ℕ} (first : Option ℕ) (most limit : ℕ) → Sought ls number tried first most → length ls ≤ tried → 0 < number → length ls ≤ limit
    → Answers ls number limit (run_from first most)
sought_answers None most limit g all real fits =
    (fits, λ f m d. g.shorter (f - 1) m (omega (arith, d.within, d.some)) d.some (omega (arith, d.within, g.none refl)) d.within d.draws, refl)
sought_answers (Some first) most limit g all real fits =
    let h = g.found first refl in (
      fits,
      record {
        is = record { refuses = real; begins = h.0; some = omega arith; within = omega (arith, h.0, h.2); draws = h.3 };
        shortest = λ f m d. ⊎_elim (λ lt. absurd (g.shorter (f - 1) m (omega (arith, d.within, d.some)) d.some (omega arith) d.within d.draws)) (λ ge. ge) (less_or m (most + 1));
        earliest = λ f d. ⊎_elim (λ lt. absurd (g.earlier first (f - 1) refl (omega (arith, d.begins)) d.within d.draws)) (λ ge. ge) (less_or f first);
      },
    )

-- a better run has no more lines than there are
pub sought_most : {ls : List (List ℕ)} {number tried : ℕ} (first : Option ℕ) (most : ℕ) → Sought ls number tried first most → most ≤ length ls
sought_most None most g = let e = g.none refl in omega arith
sought_most (Some first) most g = let h = g.found first refl in omega (arith, h.2)
