-- Laws: `lowest` gives the lowest address that has a property; a map is accepted exactly if each address lies in one of its ranges, and the lookup
-- gives that range's unit.
-- Assumes nothing.
use Rattle.std.specs.Prelude.{Bool, true, false, cond, List, [], ◌∷◌, ◌⊎◌, ◌≡◌, refl, ℕ, zero, suc, ◌+◌, ◌≤◌, ◌<◌, ltb, length, drop, get_or, Option, None, Some, Ok, Err}
use Rattle.std.proofs.Common.{inl, inr, ⊎_elim, sym, ◌∙◌, add-one, arith, drop_of_length-le, drop-cons}
use Rattle.std.proofs.Math.Path.{ap}
use borrow.Author.Tests.{lt-ltb, le-ltb, ltb-false}
use Rattle.lines.specs.NumberLaws.{below_or_not}
use Rattle.std.proofs.lemmas.Option.{none-some}
use Rattle.map.specs.declared.Range.{Range}
use Rattle.map.specs.declared.Map.{Map}
use Rattle.map.specs.declared.Fault.TheVariants.{Line, InTwo, InNone}
use Rattle.map.specs.Map.{addresses, check_of, check_ranges, in_none, in_two, lies, lowest, lowest_from, or_too_many, range_sound, ranges_of, unit_at, unless_wrong, wrong_from, wrong_of}
use Rattle.map.specs.Meaning.{LeastFrom, Least}

-- ## The lowest address

pub true_or_false : (t : Bool) → (t ≡ true) ⊎ (t ≡ false)
true_or_false true = inl refl
true_or_false false = inr refl

pub not_both : {A : Type 0} (t : Bool) → t ≡ true → t ≡ false → A
not_both t e f = absurd (omega (arith, ap {B = ℕ} (λ (b : Bool). cond b 1 0) (sym e ∙ f)))

pub least_told : (p : ℕ → Bool) (a n : ℕ) → LeastFrom p a n (lowest_from p a n)
unfolding lowest_from
least_told p a zero = record { from = omega arith; within = omega arith; has = λ h. absurd (omega arith); below = λ b h k. absurd (omega arith) }
least_told p a (suc n) = by (p a) refl (least_told p (suc a) n)
  where
    by : (t : Bool) → p a ≡ t → LeastFrom p (suc a) n (lowest_from p (suc a) n) → LeastFrom p a (suc n) (cond t a (lowest_from p (suc a) n))
    by true e r = record { from = omega arith; within = omega arith; has = λ h. e; below = λ b h k. absurd (omega arith) }
    by false e r = record {
      from = omega (arith, r.from);
      within = omega (arith, r.within);
      has = λ h. r.has (omega arith);
      below = λ b h k. ⊎_elim (λ (z : a < b). r.below b (omega arith) k) (λ (z : b ≤ a). ap p (same b h z) ∙ e) (below_or_not a b);
    }
      where
        same : (b : ℕ) → a ≤ b → b ≤ a → b ≡ a
        same b h k = omega arith

pub least_one : (p : ℕ → Bool) (a n l m : ℕ) → LeastFrom p a n l → LeastFrom p a n m → l ≡ m
least_one p a n l m x y =
    ⊎_elim
    (λ (h : l < m). not_both (p l) (x.has (omega (arith, y.within))) (y.below l x.from h))
    (λ (h : m ≤ l).
    ⊎_elim
    (λ (k : m < l). not_both (p m) (y.has (omega (arith, x.within))) (x.below m y.from k))
    (λ (k : l ≤ m). omega arith)
    (below_or_not m l))
    (below_or_not l m)

pub lowest_told : (p : ℕ → Bool) → Least p (lowest p)
unfolding lowest
lowest_told p = least_told p 0 addresses

pub lowest_is : (p : ℕ → Bool) (l : ℕ) → Least p l → lowest p ≡ l
lowest_is p l h = least_one p 0 addresses (lowest p) l (lowest_told p) h

pub lowest_same : (p q : ℕ → Bool) → ((a : ℕ) → p a ≡ q a) → lowest p ≡ lowest q
lowest_same p q same =
    let r = lowest_told q in
    lowest_is p (lowest q) (record { from = r.from; within = r.within; has = λ h. same (lowest q) ∙ r.has h; below = λ b h k. same b ∙ r.below b h k })

-- ## Ranges one at a time

-- the ranges from a place on
pub line_at : (l : List Range) (i : ℕ) (d : Range) → i < length l → drop i l ≡ get_or l i d ∷ drop (i + 1) l
line_at l i d h = drop-cons l i d h ∙ ap (λ (m : ℕ). get_or l i d ∷ drop m l) (sym (add-one i))

pub line_end : (l : List Range) (i : ℕ) → length l ≤ i → drop i l ≡ []
line_end l i h = drop_of_length-le l {i = i} h

pub unit_here : (r : Range) (rs l : List Range) (a : ℕ) → l ≡ r ∷ rs → lies a r ≡ true → unit_at l a ≡ r.unit
unfolding unit_at
unit_here r rs l a e h = ap (λ (x : List Range). unit_at x a) e ∙ simp h

pub unit_on : (r : Range) (rs l : List Range) (a : ℕ) → l ≡ r ∷ rs → lies a r ≡ false → unit_at l a ≡ unit_at rs a
unfolding unit_at
unit_on r rs l a e h = ap (λ (x : List Range). unit_at x a) e ∙ simp h

pub unit_none : (l : List Range) (a : ℕ) → l ≡ [] → unit_at l a ≡ None
unfolding unit_at
unit_none l a e = ap (λ (x : List Range). unit_at x a) e

pub wrong_here : (n : ℕ) (r : Range) (rs l : List Range) → l ≡ r ∷ rs → range_sound r ≡ false → wrong_from n l ≡ Some n
unfolding wrong_from
wrong_here n r rs l e h = ap (wrong_from n) e ∙ simp h

pub wrong_on : (n : ℕ) (r : Range) (rs l : List Range) → l ≡ r ∷ rs → range_sound r ≡ true → wrong_from n l ≡ wrong_from (suc n) rs
unfolding wrong_from
wrong_on n r rs l e h = ap (wrong_from n) e ∙ simp h

pub wrong_none : (n : ℕ) (l : List Range) → l ≡ [] → wrong_from n l ≡ None
unfolding wrong_from
wrong_none n l e = ap (wrong_from n) e

-- the first line that is none, where the ranges show one or none
pub wrong_some : (m : Map) (n : ℕ) → wrong_from 1 (ranges_of m) ≡ Some n → wrong_of m ≡ Some n
unfolding wrong_of
wrong_some m n e = ap (or_too_many m.count) e

pub wrong_many : (m : Map) → wrong_from 1 (ranges_of m) ≡ None → 64 < m.count → wrong_of m ≡ Some 65
unfolding wrong_of
wrong_many m e h = ap (or_too_many m.count) e ∙ simp (lt-ltb 64 m.count h)

pub wrong_clear : (m : Map) → wrong_from 1 (ranges_of m) ≡ None → m.count ≤ 64 → wrong_of m ≡ None
unfolding wrong_of
wrong_clear m e h = ap (or_too_many m.count) e ∙ simp (le-ltb 64 m.count h)

pub wrong_few : (m : Map) → wrong_of m ≡ None → m.count ≤ 64
unfolding wrong_of
wrong_few m e = by (wrong_from 1 (ranges_of m)) (ltb 64 m.count) refl e
  where
    by : (o : Option ℕ) (t : Bool) → ltb 64 m.count ≡ t → (elim o as (λ x. Option ℕ) [ None ↦ cond t (Some 65) None | Some n ↦ Some n ]) ≡ None → m.count ≤ 64
    by None true f e = absurd (none-some 65 (sym e))
    by None false f e = ltb-false 64 m.count f
    by (Some n) t f e = absurd (none-some n (sym e))

-- ## A check, by what was found

pub check_wrong : (m : Map) (n : ℕ) → wrong_of m ≡ Some n → Err (Line n) ≡ check_of m
unfolding check_of
check_wrong m n e = sym (ap (λ (o : Option ℕ). unless_wrong o (check_ranges (ranges_of m))) e)

pub check_ranges_lem : (m : Map) → wrong_of m ≡ None → check_ranges (ranges_of m) ≡ check_of m
unfolding check_of
check_ranges_lem m e = sym (ap (λ (o : Option ℕ). unless_wrong o (check_ranges (ranges_of m))) e)

module _ (rs : List Range) (t : ℕ) (t-is : t ≡ lowest (in_two rs)) where
  pub check_two : t < addresses → Err (InTwo t) ≡ check_ranges rs
  unfolding check_ranges
  check_two h = ap (λ (a : ℕ). Err (InTwo a)) t-is ∙ simp (lt-ltb (lowest (in_two rs)) addresses (omega arith))

  pub check_none : (n : ℕ) → addresses ≤ t → n ≡ lowest (in_none rs) → n < addresses → Err (InNone n) ≡ check_ranges rs
  unfolding check_ranges
  check_none n h e k = ap (λ (a : ℕ). Err (InNone a)) e ∙ simp (le-ltb (lowest (in_two rs)) addresses (omega arith), lt-ltb (lowest (in_none rs)) addresses (omega arith))

  pub check_fine : (n : ℕ) → addresses ≤ t → n ≡ lowest (in_none rs) → addresses ≤ n → Ok tt ≡ check_ranges rs
  unfolding check_ranges
  check_fine n h e k = simp (le-ltb (lowest (in_two rs)) addresses (omega arith), le-ltb (lowest (in_none rs)) addresses (omega arith))
