-- Laws: two lists side by side hold an address as often as the ranges do, and where the lowest addresses are found: the lowest that lies in two ranges
-- is the first of one, and the lowest that lies in none is 0 or stands after the last of one.
-- Assumes nothing.
use Rattle.std.specs.Prelude.{Bool, cond, ◌&&◌, List, [], ◌∷◌, ◌++◌, ◌⊎◌, ◌≡◌, ℕ, zero, suc, ◌+◌, ◌≤◌, ◌<◌, leb, eqb, length, take, drop, get_or, set, replicate}
use Rattle.std.proofs.Math.Bool.{true, false}
use Rattle.std.proofs.Common.{inl, inr, ⊎_elim, sym, ap, ◌∙◌, add-one, arith, length-set, take-suc, take_all, get_or-set_other}
use Rattle.std.proofs.Math.Path.{refl}
use Rattle.std.proofs.Math.Dec.{ltb}
use Rattle.std.proofs.lemmas.List.{length-replicate, get_or-replicate}
use borrow.Author.Tests.{ltb-true, ltb-false, eqb-true, eqb-false, le-leb, lt-leb}
use Rattle.lines.specs.NumberLaws.{below_or_not}
use Rattle.map.specs.declared.Range.{Range}
use Rattle.map.specs.Map.{addresses, between, lies, holders_of, lowest, in_two, in_none}
use Rattle.map.proofs.MapLaws.{true_or_false, not_both, lowest_is, lowest_same}
use Rattle.map.specs.Spans.{held_in, Held, in_two_of, in_none_of, lower_of, lower_after}

-- ## One range

-- 1 where an address lies between two others, else 0
abbrev one : ℕ → ℕ → ℕ → ℕ
one f l a = cond (between f l a) 1 0

one_in : (f l a : ℕ) → f ≤ a → a ≤ l → one f l a ≡ 1
one_in f l a h k = simp (le-leb f a h, le-leb a l k)

one_before : (f l a : ℕ) → a < f → one f l a ≡ 0
one_before f l a h = simp (lt-leb f a h)

one_after : (f l a : ℕ) → l < a → one f l a ≡ 0
one_after f l a h = ⊎_elim (λ (e : leb f a ≡ true). simp (e, lt-leb a l h)) (λ (e : leb f a ≡ false). simp e) (true_or_false (leb f a))

-- where an address lies
pub data Place (f l a : ℕ) : Type 0 where
  before : a < f → one f l a ≡ 0 → Place f l a
  after : l < a → one f l a ≡ 0 → Place f l a
  inside : f ≤ a → a ≤ l → one f l a ≡ 1 → Place f l a

place : (f l a : ℕ) → Place f l a
place f l a =
    ⊎_elim (λ (h : a < f). before h (one_before f l a h))
    (λ (h : f ≤ a). ⊎_elim (λ (k : l < a). after k (one_after f l a k)) (λ (k : a ≤ l). inside h k (one_in f l a h k)) (below_or_not l a))
    (below_or_not a f)

-- ## Where the number of ranges changes

-- some place of a list has the value
pub record Some (xs : List ℕ) (v : ℕ) : Type 0 where
  pub at : ℕ
  pub within : at < length xs
  pub is : get_or xs at 0 ≡ v

first_some : (x : ℕ) (xs : List ℕ) (v : ℕ) → x ≡ v → Some (x ∷ xs) v
first_some x xs v e = record { at = 0; within = omega arith; is = e }

rest_some : (x : ℕ) (xs : List ℕ) (v : ℕ) → Some xs v → Some (x ∷ xs) v
rest_some x xs v s = record { at = suc s.at; within = omega (arith, s.within); is = s.is }

-- one more range: an address at which a range starts
more_starts : (f l b : ℕ) → (f ≡ suc b) ⊎ (one f l (suc b) ≤ one f l b)
more_starts f l b = by (place f l b) (place f l (suc b))
  where
    by : Place f l b → Place f l (suc b) → (f ≡ suc b) ⊎ (one f l (suc b) ≤ one f l b)
    by x (before h e) = inr (omega arith)
    by x (after h e) = inr (omega arith)
    by (before h e) (inside p q r) = inl (omega arith)
    by (after h e) (inside p q r) = absurd (omega arith)
    by (inside h k e) (inside p q r) = inr (omega arith)

fewer_ends : (f l b : ℕ) → (l ≡ b) ⊎ (one f l b ≤ one f l (suc b))
fewer_ends f l b = by (place f l b) (place f l (suc b))
  where
    by : Place f l b → Place f l (suc b) → (l ≡ b) ⊎ (one f l b ≤ one f l (suc b))
    by (before h e) x = inr (omega arith)
    by (after h e) x = inr (omega arith)
    by (inside h k e) (before p q) = absurd (omega arith)
    by (inside h k e) (after p q) = inl (omega arith)
    by (inside h k e) (inside p q r) = inr (omega arith)

starts : (fs ls : List ℕ) (b : ℕ) → held_in fs ls b < held_in fs ls (suc b) → Some fs (suc b)
unfolding held_in
starts [] ls b h = absurd (omega arith)
starts (f ∷ fs) [] b h = absurd (omega arith)
starts (f ∷ fs) (l ∷ ls) b h = ⊎_elim (first_some f fs (suc b)) (λ k. rest_some f fs (suc b) (starts fs ls b (omega arith))) (more_starts f l b)

starts_at_0 : (fs ls : List ℕ) → 0 < held_in fs ls 0 → Some fs 0
unfolding held_in
starts_at_0 [] ls h = absurd (omega arith)
starts_at_0 (f ∷ fs) [] h = absurd (omega arith)
starts_at_0 (f ∷ fs) (l ∷ ls) h = by (place f l 0) (starts_at_0 fs ls)
  where
    by : Place f l 0 → (0 < held_in fs ls 0 → Some fs 0) → Some (f ∷ fs) 0
    by (before p q) more = rest_some f fs 0 (more (omega arith))
    by (after p q) more = absurd (omega arith)
    by (inside p q r) more = first_some f fs 0 (omega arith)

ends : (fs ls : List ℕ) (b : ℕ) → held_in fs ls (suc b) < held_in fs ls b → Some ls b
unfolding held_in
ends [] ls b h = absurd (omega arith)
ends (f ∷ fs) [] b h = absurd (omega arith)
ends (f ∷ fs) (l ∷ ls) b h = ⊎_elim (first_some l ls b) (λ k. rest_some l ls b (ends fs ls b (omega arith))) (fewer_ends f l b)

-- ## The lowest of some addresses that were tried

-- of the addresses tried so far, so many of those that `at` names, the lowest that has the property; 65536 where there is none
pub record Tried (p : ℕ → Bool) (at : ℕ → ℕ) (i least : ℕ) : Type 0 where
  pub within : least ≤ addresses
  pub has : least < addresses → p least ≡ true
  pub lowest_so_far : (j : ℕ) → j < i → p (at j) ≡ true → least ≤ at j

pub tried_none : (p : ℕ → Bool) (at : ℕ → ℕ) → Tried p at 0 addresses
tried_none p at = record { within = omega arith; has = λ h. absurd (omega arith); lowest_so_far = λ j h e. absurd (omega arith) }

module _ {p : ℕ → Bool} {at : ℕ → ℕ} {i least : ℕ} (g : Tried p at i least) (k : ℕ) (k-le : k ≤ suc i) where
  here_or : {A : Type 0} (j : ℕ) → j < k → (j < i → A) → (j ≡ i → A) → A
  here_or j h x y = ⊎_elim x (λ (z : i ≤ j). y (omega arith)) (below_or_not j i)

  pub tried_past : addresses ≤ at i → Tried p at k least
  tried_past h = record {
    within = g.within;
    has = g.has;
    lowest_so_far = λ j l e. here_or j l (λ (z : j < i). g.lowest_so_far j z e) (λ (z : j ≡ i). let w = g.within in let y : at j ≡ at i = ap at z in omega arith);
  }

  pub tried_on : (a : ℕ) (t : Bool) → a ≡ at i → t ≡ p a → Tried p at k (lower_of least a t)
  tried_on a t is e = by t (ltb a least) refl (sym e)
    where
      by : (t u : Bool) → ltb a least ≡ u → p a ≡ t → Tried p at k (cond (t && u) a least)
      by true true u-is t-is = record {
        within = omega (arith, g.within, ltb-true a least u-is);
        has = λ k. t-is;
        lowest_so_far = λ j l e.
            here_or j l
            (λ (z : j < i). let w = g.lowest_so_far j z e in let v = ltb-true a least u-is in omega arith)
            (λ (z : j ≡ i). let y : at j ≡ at i = ap at z in omega arith);
      }
      by true false u-is t-is = record {
        within = g.within;
        has = g.has;
        lowest_so_far = λ j l e.
            here_or j l (λ (z : j < i). g.lowest_so_far j z e) (λ (z : j ≡ i). let v = ltb-false a least u-is in let y : at j ≡ at i = ap at z in omega arith);
      }
      by false u u-is t-is = record {
        within = g.within;
        has = g.has;
        lowest_so_far = λ j l e.
            here_or j l (λ (z : j < i). g.lowest_so_far j z e)
            (λ (z : j ≡ i). not_both (p a) (ap p (is ∙ sym (ap at z)) ∙ e) t-is);
      }

-- an address tried that has the property, at or below another
pub record Under (p : ℕ → Bool) (at : ℕ → ℕ) (n b : ℕ) : Type 0 where
  pub number : ℕ
  pub tried : number < n
  pub low : at number ≤ b
  pub has : p (at number) ≡ true

-- where every address that has the property has such a one under it, the lowest tried is the lowest of all
pub tried_all : (p : ℕ → Bool) (at : ℕ → ℕ) (n least : ℕ) → Tried p at n least → ((b : ℕ) → p b ≡ true → Under p at n b) → lowest p ≡ least
tried_all p at n least g under = lowest_is p least (record {
  from = omega arith;
  within = g.within;
  has = g.has;
  below = λ b h k. ⊎_elim
      (λ (e : p b ≡ true). let u = under b e in let w = g.lowest_so_far u.number u.tried u.has in let v = u.low in absurd (omega arith))
      (λ (e : p b ≡ false). e)
      (true_or_false (p b));
})

under_on : {p : ℕ → Bool} {at : ℕ → ℕ} {n b : ℕ} → Under p at n b → Under p at n (suc b)
under_on u = record { number = u.number; tried = u.tried; low = omega (arith, u.low); has = u.has }

-- ## The lowest address in two ranges is tried where each first address is

abbrev pub first_at : List ℕ → ℕ → ℕ
first_at fs j = get_or fs j 0

module _ (fs ls : List ℕ) where
  some_under : (b : ℕ) → Some fs b → in_two_of fs ls b ≡ true → Under (in_two_of fs ls) (first_at fs) (length fs) b
  some_under b s e = record { number = s.at; tried = s.within; low = omega (arith, s.is); has = ap (in_two_of fs ls) s.is ∙ e }

  two_under : (b : ℕ) → in_two_of fs ls b ≡ true → Under (in_two_of fs ls) (first_at fs) (length fs) b
  two_under zero e = some_under 0 (starts_at_0 fs ls (let h = ltb-true 1 (held_in fs ls 0) e in omega arith)) e
  two_under (suc b) e =
      ⊎_elim
      (λ (t : in_two_of fs ls b ≡ true). under_on (two_under b t))
      (λ (t : in_two_of fs ls b ≡ false).
      some_under (suc b) (starts fs ls b (let h = ltb-true 1 (held_in fs ls (suc b)) e in let k = ltb-false 1 (held_in fs ls b) t in omega arith)) e)
      (true_or_false (in_two_of fs ls b))

  pub two_lowest : (n least : ℕ) → length fs ≤ n → Tried (in_two_of fs ls) (first_at fs) n least → least ≡ lowest (in_two_of fs ls)
  two_lowest n least h g = sym (tried_all (in_two_of fs ls) (first_at fs) n least g (λ b e. let u = two_under b e in record { number = u.number; tried = omega (arith, u.tried); low = u.low; has = u.has }))

-- ## The lowest address in none is tried where 0 and the address after each last one are

abbrev pub after_at : List ℕ → ℕ → ℕ
after_at ls zero = 0
after_at ls (suc j) = get_or ls j 0 + 1

module _ (fs ls : List ℕ) where
  none_under : (b : ℕ) → in_none_of fs ls b ≡ true → Under (in_none_of fs ls) (after_at ls) (suc (length ls)) b
  none_under zero e = record { number = 0; tried = omega arith; low = omega arith; has = e }
  none_under (suc b) e =
      ⊎_elim
      (λ (t : in_none_of fs ls b ≡ true). under_on (none_under b t))
      (λ (t : in_none_of fs ls b ≡ false).
      let s = ends fs ls b (let h = eqb-true (held_in fs ls (suc b)) 0 e in let k = some (held_in fs ls b) (eqb-false (held_in fs ls b) 0 t) in omega arith) in
      let is : after_at ls (suc s.at) ≡ suc b = let z = s.is in omega arith in
      record { number = suc s.at; tried = omega (arith, s.within); low = omega (arith, is); has = ap (in_none_of fs ls) is ∙ e })
      (true_or_false (in_none_of fs ls b))
    where
      some : (n : ℕ) → (n ≡ 0 → ⊥) → 0 < n
      some zero h = absurd (h refl)
      some (suc n) h = omega arith

  pub none_first : Tried (in_none_of fs ls) (after_at ls) 1 (lower_of addresses 0 (in_none_of fs ls 0))
  none_first = tried_on (tried_none (in_none_of fs ls) (after_at ls)) 1 (omega arith) 0 (in_none_of fs ls 0) refl refl

  pub none_on : (i least : ℕ) → Tried (in_none_of fs ls) (after_at ls) (suc i) least → Tried (in_none_of fs ls) (after_at ls) (suc (suc i)) (lower_after fs ls (get_or ls i 0) least)
  unfolding lower_after
  none_on i least g = by (ltb (get_or ls i 0) 65535) refl
    where
      by : (t : Bool) → ltb (get_or ls i 0) 65535 ≡ t
          → Tried (in_none_of fs ls) (after_at ls) (suc (suc i)) (cond t (lower_of least (get_or ls i 0 + 1) (in_none_of fs ls (get_or ls i 0 + 1))) least)
      by true e = tried_on g (suc (suc i)) (omega arith) (get_or ls i 0 + 1) (in_none_of fs ls (get_or ls i 0 + 1)) refl refl
      by false e = tried_past g (suc (suc i)) (omega arith) (omega (arith, ltb-false (get_or ls i 0) 65535 e))

  pub none_lowest : (n least : ℕ) → length ls < n → Tried (in_none_of fs ls) (after_at ls) n least → least ≡ lowest (in_none_of fs ls)
  none_lowest n least h g = sym (tried_all (in_none_of fs ls) (after_at ls) n least g (λ b e. let u = none_under b e in record { number = u.number; tried = omega (arith, u.tried); low = u.low; has = u.has }))

-- ## Counting, one range at a time

pub held_on : (fs ls : List ℕ) (a i : ℕ) → i < length fs → i < length ls
    → held_in (drop i fs) (drop i ls) a ≡ one (get_or fs i 0) (get_or ls i 0) a + held_in (drop (suc i) fs) (drop (suc i) ls) a
unfolding held_in
held_on (f ∷ fs) (l ∷ ls) a zero h k = refl
held_on (f ∷ fs) (l ∷ ls) a (suc i) h k = held_on fs ls a i (omega arith) (omega arith)
held_on [] ls a i h k = absurd (omega arith)
held_on (f ∷ fs) [] a i h k = absurd (omega arith)

-- a place that held no address takes a range
pub held_set : (fs ls : List ℕ) (a i f l : ℕ) → i < length fs → i < length ls → get_or fs i 0 ≡ 1 → get_or ls i 0 ≡ 0
    → held_in (set fs i f) (set ls i l) a ≡ held_in fs ls a + one f l a
unfolding held_in
held_set (x ∷ fs) (y ∷ ls) a zero f l h k p q = by (place x y a)
  where
    by : Place x y a → one f l a + held_in fs ls a ≡ (one x y a + held_in fs ls a) + one f l a
    by (before u v) = omega arith
    by (after u v) = omega arith
    by (inside u v w) = absurd (omega arith)
held_set (x ∷ fs) (y ∷ ls) a (suc i) f l h k p q = let e = held_set fs ls a i f l (omega arith) (omega arith) p q in omega arith
held_set [] ls a i f l h k p q = absurd (omega arith)
held_set (x ∷ fs) [] a i f l h k p q = absurd (omega arith)

held_none : (n a : ℕ) → held_in (replicate n 1) (replicate n 0) a ≡ 0
unfolding held_in
held_none zero a = refl
held_none (suc n) a = by (place 1 0 a) (held_none n a)
  where
    by : Place 1 0 a → held_in (replicate n 1) (replicate n 0) a ≡ 0 → one 1 0 a + held_in (replicate n 1) (replicate n 0) a ≡ 0
    by (before u v) e = omega arith
    by (after u v) e = omega arith
    by (inside u v w) e = absurd (omega arith)

holders_snoc : (rs : List Range) (r : Range) (a : ℕ) → holders_of (rs ++ (r ∷ [])) a ≡ holders_of rs a + cond (lies a r) 1 0
unfolding holders_of
holders_snoc [] r a = omega arith
holders_snoc (x ∷ rs) r a = let e = holders_snoc rs r a in omega arith

-- so many ranges stand in the lists, and the places after them hold no address
pub record Filled (fs ls : List ℕ) (rs : List Range) (i : ℕ) : Type 0 where
  pub firsts : length fs ≡ 64
  pub lasts : length ls ≡ 64
  pub held : Held fs ls (take i rs)
  pub free : (j : ℕ) → i ≤ j → j < 64 → (get_or fs j 0 ≡ 1) × (get_or ls j 0 ≡ 0)

pub filled_none : (rs : List Range) → Filled (replicate 64 1) (replicate 64 0) rs 0
unfolding holders_of
filled_none rs = record {
  firsts = length-replicate {A = ℕ} 64 1;
  lasts = length-replicate {A = ℕ} 64 0;
  held = held_none 64;
  free = λ j h k. (get_or-replicate {A = ℕ} 64 j 1 0 k, get_or-replicate {A = ℕ} 64 j 0 0 k);
}

module _ {fs ls : List ℕ} {rs : List Range} {i : ℕ} (g : Filled fs ls rs i) where
  pub filled_on : (r d : Range) → i < 64 → i < length rs → get_or rs i d ≡ r → Filled (set fs i r.first) (set ls i r.last) rs (i + 1)
  filled_on r d few some is = record {
    firsts = length-set fs i r.first ∙ g.firsts;
    lasts = length-set ls i r.last ∙ g.lasts;
    held = λ a.
        held_set fs ls a i r.first r.last (omega (arith, g.firsts)) (omega (arith, g.lasts)) (g.free i (omega arith) few).0 (g.free i (omega arith) few).1
        ∙ ap (λ (n : ℕ). n + one r.first r.last a) (g.held a)
        ∙ sym (ap (λ (l : List Range). holders_of l a) (ap (λ (n : ℕ). take n rs) (add-one i) ∙ take-suc rs i d some ∙ ap (λ (x : Range). take i rs ++ (x ∷ [])) is) ∙ holders_snoc (take i rs) r a);
    free = λ j h k. let f = g.free j (omega arith) k in
        (get_or-set_other fs i j r.first 0 (λ z. omega arith) ∙ f.0, get_or-set_other ls i j r.last 0 (λ z. omega arith) ∙ f.1);
  }

  pub filled_all : length rs ≤ i → Held fs ls rs
  filled_all h a = g.held a ∙ ap (λ (l : List Range). holders_of l a) (take_all i rs h)

module _ (fs ls : List ℕ) (rs : List Range) (held : Held fs ls rs) where
  pub two_same : lowest (in_two_of fs ls) ≡ lowest (in_two rs)
  two_same = lowest_same (in_two_of fs ls) (in_two rs) (λ a. ap (ltb 1) (held a))

  pub none_same : lowest (in_none_of fs ls) ≡ lowest (in_none rs)
  none_same = lowest_same (in_none_of fs ls) (in_none rs) (λ a. ap (λ (n : ℕ). eqb n 0) (held a))
