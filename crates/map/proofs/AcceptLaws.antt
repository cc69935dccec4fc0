-- Laws: a map is accepted exactly if its ranges are sound and each address from 0000 to ffff lies in one of them (`accepted_each`, `each_accepted`); 19
-- and 20 carry the lowest address that lies in two ranges, or in none (`two_lowest`, `none_lowest`); the lookup gives the unit of the one range that
-- an address lies in (`unit_of_one`).
-- Assumes nothing.
use Rattle.std.specs.Prelude.{Bool, true, false, cond, List, [], ◌∷◌, ◌≡◌, refl, ℕ, zero, suc, ◌+◌, ◌≤◌, ◌<◌, ltb, length, get_or, ⊤, Option, None, Some, Result, Ok, Err}
use Rattle.std.proofs.Common.{⊎_elim, sym, ◌∙◌, arith, ltb-true, ltb-false, le-ltb, eqb-true, ne_eqb}
use Rattle.std.proofs.lemmas.Bool.{eqb-false}
use Rattle.lines.specs.NumberLaws.{below_or_not, chosen}
use Rattle.map.specs.declared.Range.{Range}
use Rattle.map.specs.declared.Map.{Map}
use Rattle.map.specs.declared.Fault.{Fault}
use Rattle.map.specs.declared.Fault.TheVariants.{Line, InTwo, InNone}
use Rattle.map.specs.Map.{addresses, check_of, check_ranges, holders_of, in_none, in_two, lies, lowest, ranges_of, unit_at, unless_wrong, wrong_of}
use Rattle.map.specs.Meaning.{InOne, TwoAt, NoneAt, Means}
use Rattle.map.proofs.MapLaws.{lowest_told, check_ranges_lem, check_fine, wrong_few, not_both}

pub no_refusal : {A : Type 0} (f : Fault) → ◌≡◌ {A = Result ⊤ Fault} (Err f) (Ok tt) → A
no_refusal f e = absurd (let z : ◌≡◌ {A = ℕ} 0 1 = cc in omega arith)

-- ## Accepted

-- what is known where no address lies in two ranges, or none in none
none_two : (rs : List Range) → addresses ≤ lowest (in_two rs) → (a : ℕ) → a < addresses → holders_of rs a ≤ 1
none_two rs h a k = ltb-false 1 (holders_of rs a) ((lowest_told (in_two rs)).below a (omega arith) (omega arith))

some_one : (rs : List Range) → addresses ≤ lowest (in_none rs) → (a : ℕ) → a < addresses → 0 < holders_of rs a
some_one rs h a k = some (holders_of rs a) (eqb-false (holders_of rs a) 0 ((lowest_told (in_none rs)).below a (omega arith) (omega arith)))
  where
    some : (n : ℕ) → (n ≡ 0 → ⊥) → 0 < n
    some zero h = absurd (h refl)
    some (suc n) h = omega arith

ranges_accepted : (rs : List Range) → check_ranges rs ≡ Ok tt → InOne rs
unfolding check_ranges
ranges_accepted rs e a h =
    ⊎_elim
    (λ t. no_refusal (InTwo (lowest (in_two rs))) t.1)
    (λ t.
    ⊎_elim
    (λ u. no_refusal (InNone (lowest (in_none rs))) u.1)
    (λ u.
    let p = none_two rs (ltb-false (lowest (in_two rs)) addresses t.0) a h in
    let q = some_one rs (ltb-false (lowest (in_none rs)) addresses u.0) a h in
    omega arith)
    (chosen (ltb (lowest (in_none rs)) addresses) (Err (InNone (lowest (in_none rs)))) (Ok tt) (Ok tt) t.1))
    (chosen (ltb (lowest (in_two rs)) addresses) (Err (InTwo (lowest (in_two rs)))) (cond (ltb (lowest (in_none rs)) addresses) (Err (InNone (lowest (in_none rs)))) (Ok tt)) (Ok tt) e)

pub accepted_sound : (m : Map) → check_of m ≡ Ok tt → wrong_of m ≡ None
unfolding check_of
accepted_sound m e = by (wrong_of m) refl e
  where
    by : (o : Option ℕ) → wrong_of m ≡ o → unless_wrong o (check_ranges (ranges_of m)) ≡ Ok tt → wrong_of m ≡ None
    by None f e = f
    by (Some n) f e = no_refusal (Line n) e

pub accepted_few : (m : Map) → check_of m ≡ Ok tt → m.count ≤ 64
accepted_few m e = wrong_few m (accepted_sound m e)

pub accepted_each : (m : Map) → check_of m ≡ Ok tt → InOne (ranges_of m)
accepted_each m e = ranges_accepted (ranges_of m) (check_ranges_lem m (accepted_sound m e) ∙ e)

-- where no address has a property, none is the lowest
nowhere : (p : ℕ → Bool) → ((a : ℕ) → a < addresses → p a ≡ false) → addresses ≤ lowest p
nowhere p h =
    ⊎_elim (λ (k : lowest p < addresses). not_both (p (lowest p)) ((lowest_told p).has k) (h (lowest p) k)) (λ (k : addresses ≤ lowest p). k) (below_or_not (lowest p) addresses)

pub each_accepted : (m : Map) → wrong_of m ≡ None → InOne (ranges_of m) → check_of m ≡ Ok tt
each_accepted m w one =
    let rs = ranges_of m in
    sym (check_fine rs _ refl _
    (nowhere (in_two rs) (λ a h. le-ltb 1 (holders_of rs a) (let e = one a h in omega arith)))
    refl
    (nowhere (in_none rs) (λ a h. ne_eqb (holders_of rs a) 0 (λ z. let e = one a h in omega arith))) ∙ check_ranges_lem m w)

-- ## Refused

two_at : (rs : List Range) → lowest (in_two rs) < addresses → TwoAt rs (lowest (in_two rs))
two_at rs h =
    let l = lowest_told (in_two rs) in record {
      within = h;
      two = ltb-true 1 (holders_of rs (lowest (in_two rs))) (l.has h);
      below = λ b k. ltb-false 1 (holders_of rs b) (l.below b (omega arith) k);
    }

none_at : (rs : List Range) → addresses ≤ lowest (in_two rs) → lowest (in_none rs) < addresses → NoneAt rs (lowest (in_none rs))
none_at rs t h =
    let l = lowest_told (in_none rs) in record {
      within = h;
      none = eqb-true (holders_of rs (lowest (in_none rs))) 0 (l.has h);
      below = λ b k. let p = none_two rs t b (omega arith) in one (holders_of rs b) p (eqb-false (holders_of rs b) 0 (l.below b (omega arith) k));
      none_in_two = none_two rs t;
    }
  where
    one : (n : ℕ) → n ≤ 1 → (n ≡ 0 → ⊥) → n ≡ 1
    one zero h k = absurd (k refl)
    one (suc n) h k = omega arith

-- what a check of sound ranges says
pub check_means : (rs : List Range) → Means rs (check_ranges rs)
unfolding check_ranges
check_means rs = by (ltb (lowest (in_two rs)) addresses) refl (ltb (lowest (in_none rs)) addresses) refl
  where
    by : (t : Bool) → ltb (lowest (in_two rs)) addresses ≡ t → (u : Bool) → ltb (lowest (in_none rs)) addresses ≡ u
        → Means rs (cond t (Err (InTwo (lowest (in_two rs)))) (cond u (Err (InNone (lowest (in_none rs)))) (Ok tt)))
    by true e u f = (refl, two_at rs (ltb-true (lowest (in_two rs)) addresses e))
    by false e true f = (refl, none_at rs (ltb-false (lowest (in_two rs)) addresses e) (ltb-true (lowest (in_none rs)) addresses f))
    by false e false f = λ a h. let p = none_two rs (ltb-false (lowest (in_two rs)) addresses e) a h in let q = some_one rs (ltb-false (lowest (in_none rs)) addresses f) a h in omega arith

-- ## The lookup

none_held : (rs : List Range) (a : ℕ) → holders_of rs a ≡ 0 → (i : ℕ) (d : Range) → i < length rs → lies a (get_or rs i d) ≡ false
unfolding holders_of
none_held [] a e i d h = absurd (omega arith)
none_held (r ∷ rs) a e i d h = by (lies a r) refl e i h (none_held rs a)
  where
    by : (t : Bool) → lies a r ≡ t → cond t 1 0 + holders_of rs a ≡ 0 → (i : ℕ) → i < suc (length rs)
        → (holders_of rs a ≡ 0 → (i : ℕ) (d : Range) → i < length rs → lies a (get_or rs i d) ≡ false) → lies a (get_or (r ∷ rs) i d) ≡ false
    by true e f i h more = absurd (omega arith)
    by false e f zero h more = e
    by false e f (suc i) h more = more (omega arith) i d (omega arith)

-- an address that lies in one range: its unit is that range's
pub unit_of_one : (rs : List Range) (a : ℕ) → holders_of rs a ≡ 1 → (i : ℕ) (d : Range) → i < length rs → lies a (get_or rs i d) ≡ true → unit_at rs a ≡ (get_or rs i d).unit
unfolding holders_of unit_at
unit_of_one [] a e i d h k = absurd (omega arith)
unit_of_one (r ∷ rs) a e i d h k = by (lies a r) refl e i h k (unit_of_one rs a)
  where
    by : (t : Bool) → lies a r ≡ t → cond t 1 0 + holders_of rs a ≡ 1 → (i : ℕ) → i < suc (length rs) → lies a (get_or (r ∷ rs) i d) ≡ true
        → (holders_of rs a ≡ 1 → (i : ℕ) (d : Range) → i < length rs → lies a (get_or rs i d) ≡ true → unit_at rs a ≡ (get_or rs i d).unit)
        → cond t r.unit (unit_at rs a) ≡ (get_or (r ∷ rs) i d).unit
    by true e f zero h k more = refl
    by true e f (suc i) h k more = not_both (lies a (get_or rs i d)) k (none_held rs a (omega arith) i d (omega arith))
    by false e f zero h k more = not_both (lies a r) k e
    by false e f (suc i) h k more = more (omega arith) i d (omega arith) k
