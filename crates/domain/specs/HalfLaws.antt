-- Laws: counts and half counts of a domain, and its half edges: one lies between its neighbouring edges, they come in order, one whose number is above the
-- count doesn't come before now, and at a half edge at most two more are counted than its number. Assumes nothing.
use Rattle.std.specs.Prelude.{Bool, not, ◌≡◌, ℕ, ◌+◌, ◌-◌, ◌*◌, ◌/◌, ◌%◌, ◌^◌, ◌≤◌, ◌<◌, ltb, Result, Ok, Err}
use Rattle.std.proofs.Math.Bool.{true, false, cond}
use Rattle.std.proofs.Math.Logic.{⊎_elim}
use Rattle.std.proofs.Math.Path.{refl, sym, ap, subst}
use Rattle.std.proofs.Common.{◌∙◌, le_refl, le_trans, le_of_lt, lt_of_le_of_lt}
use Rattle.std.proofs.Math.Nat.{le_of_eq}
use native.Mathlib.Omega.{arith}
use borrow.Author.Tests.{eqb-true, eqb-false, ltb-true, ne_eqb}
use Rattle.std.proofs.Math.Dec.{eqb}
use Rattle.time.specs.Clock.{after_of, edge_of, edges_before, zero_in}
use Rattle.time.proofs.Laws.{after_is, counted, edge_mono, edges_before_ge, edges_before_of_lem, lt_or_le, midway_time, moment_at, moment_time, no_zero, uncounted}
use Rattle.time.proofs.NextLaws.{after_at_lem, edge_steps, moment_fits, next_le, next_near, slow}
use Rattle.time.specs.Time.{earlier, midway, next_time, time_from, time_of}
use Rattle.time.specs.Truths.{and_right}
use Rattle.time.specs.declared.Clock.{Clock}
use Rattle.refusals.specs.declared.Refusal.{Refusal}
use Rattle.refusals.proofs.Laws.{err_not_ok, same_ok}
use Rattle.time.specs.declared.Time.{Time}
use Rattle.domain.specs.Domain.{domain_half_edge, domain_half_ticks, domain_ticks, edge_or_last, halves, halves_of, high_between, level_high, odd_edge, shown}
use Rattle.domain.specs.declared.Domain.{Domain}

module _ (d : Domain) where
  abbrev c : Clock
  c = d.clock

  -- ## Counts

  -- the ordinal is counted, whether the domain runs or not
  ordinal_counted : (now : Time) (n : ℕ) → domain_ticks d now ≡ Ok n → c.ordinal ≤ n
  unfolding domain_ticks
  ordinal_counted now n e = go (zero_in c) refl d.running refl
    where
      go : (z : Bool) → zero_in c ≡ z → (r : Bool) → d.running ≡ r → c.ordinal ≤ n
      go true f r g = absurd (err_not_ok (rw f at e))
      go false f true g =
          let is : edges_before c (time_of (next_time now)) ≡ n = same_ok (sym (edges_before_of_lem c (next_time now) f) ∙ (rw (f, g) at e)) in
          subst (λ (x : ℕ). c.ordinal ≤ x) is (edges_before_ge c (time_of (next_time now)))
      go false f false g = le_of_eq (same_ok (rw (f, g) at e))

  -- what a count of a domain that runs tells
  running_count : d.running ≡ true → (now : Time) (n : ℕ) → domain_ticks d now ≡ Ok n → (zero_in c ≡ false) × (n ≡ edges_before c (time_of (next_time now)))
  unfolding domain_ticks
  running_count on now n e = go (zero_in c) refl
    where
      go : (z : Bool) → zero_in c ≡ z → (zero_in c ≡ false) × (n ≡ edges_before c (time_of (next_time now)))
      go true f = absurd (err_not_ok (rw f at e))
      go false f = (f, same_ok (sym (rw (f, on) at e) ∙ edges_before_of_lem c (next_time now) f))

  -- an edge whose number is above the count doesn't come before now
  pub edge_later : d.running ≡ true → (now : Time) (t n : ℕ) → domain_ticks d now ≡ Ok t → t < n → n < 2 ^ 64 → (u : Time) → after_of c n ≡ Ok u → time_of now ≤ time_of u
  edge_later on now t n e less word u f =
      let count = running_count on now t e in
      let some = no_zero c count.0 in
      let at : time_of u ≡ edge_of c n = moment_time (edge_of c n) u (after_at_lem c n u f).2 in
      let past : time_of (next_time now) ≤ edge_of c n = uncounted c (time_of (next_time now)) some.0 some.1 n (above count.1 less) (omega arith) in
      le_trans (next_le now) (le_trans past (le_of_eq (sym at)))
    where
      above : {m : ℕ} → t ≡ m → t < n → m < n
      above p q = omega arith

  -- ## Half counts

  -- the level of the clock, where n edges were counted
  abbrev is_high : Time → ℕ → Bool
  is_high now n = high_between (shown d now) (edge_or_last c n) (edge_or_last c (n + 1))

  -- what a half count tells
  half_parts : (now : Time) (t : ℕ) → domain_half_ticks d now ≡ Ok t → (n : ℕ) × (domain_ticks d now ≡ Ok n) × (n < 2 ^ 63) × (t ≡ 2 * n + cond (is_high now n) 0 1)
  unfolding domain_half_ticks halves_of halves level_high
  half_parts now t e = go (domain_ticks d now) refl
    where
      Parts : Type 0
      Parts = (n : ℕ) × (domain_ticks d now ≡ Ok n) × (n < 2 ^ 63) × (t ≡ 2 * n + cond (is_high now n) 0 1)

      go : (x : Result ℕ Refusal) → domain_ticks d now ≡ x → Parts
      go (Err r) f = absurd (err_not_ok (rw f at e))
      go (Ok n) f = doubled (ltb n (2 ^ 63)) refl
        where
          below : n < 2 ^ 63 → n ≡ 2 ^ 64 - 1 → ⊥
          below g h = omega arith

          doubled : (b : Bool) → ltb n (2 ^ 63) ≡ b → Parts
          doubled true g =
              let less : n < 2 ^ 63 = ltb-true n (2 ^ 63) g in
              (n, f, less, sym (same_ok (rw (f, g, ne_eqb n (2 ^ 64 - 1) (below less)) at e)))
          doubled false g = absurd (err_not_ok (rw (f, g) at e))

  -- none is below that of the ordinal
  pub half_ordinal : (now : Time) (t : ℕ) → domain_half_ticks d now ≡ Ok t → 2 * c.ordinal ≤ t
  half_ordinal now t e =
      let parts = half_parts now t e in
      doubled c.ordinal parts.0 (cond (is_high now parts.0) 0 1) (ordinal_counted now parts.0 parts.1) parts.3
    where
      doubled : (o n b : ℕ) → o ≤ n → t ≡ 2 * n + b → 2 * o ≤ t
      doubled o n b p q = omega arith

  -- ## Half edges

  -- what a half edge that has a time tells: it lies between the edges on both sides, and in the middle where it is odd
  pub record HalfEdge (n : ℕ) (u : Time) : Type 0 where
    pub free : zero_in d.clock ≡ false
    pub from : d.clock.ordinal ≤ n / 2
    pub lower : edge_of d.clock (n / 2) ≤ time_of u
    pub upper : time_of u ≤ edge_of d.clock ((n + 1) / 2)
    pub fits : edge_of d.clock ((n + 1) / 2) < 2 ^ 128
    pub odd : n % 2 ≡ 1 → u ≡ midway (edge_or_last d.clock (n / 2)) (edge_or_last d.clock (n / 2 + 1))

  pub half_edge_lem : (n : ℕ) (u : Time) → domain_half_edge d n ≡ Ok u → HalfEdge n u
  unfolding domain_half_edge odd_edge edge_or_last
  half_edge_lem n u e = go (after_of c (n / 2)) refl (eqb (n % 2) 0) refl (after_of c (n / 2 + 1)) refl
    where
      go : (a : Result Time Refusal) → after_of c (n / 2) ≡ a → (p : Bool) → eqb (n % 2) 0 ≡ p → (b : Result Time Refusal) → after_of c (n / 2 + 1) ≡ b → HalfEdge n u
      go (Err m) f p h b g = absurd (err_not_ok (rw f at e))
      go (Ok x) f true h b g =
          let even : n % 2 ≡ 0 = eqb-true (n % 2) 0 h in
          let same : (n + 1) / 2 ≡ n / 2 = omega arith in
          let told = after_at_lem c (n / 2) x f in
          let is : time_of u ≡ edge_of c (n / 2) = ap time_of (sym (same_ok (rw (f, h) at e))) ∙ moment_time (edge_of c (n / 2)) x told.2 in
          record {
            free = told.0;
            from = told.1;
            lower = le_of_eq (sym is);
            upper = subst (λ (m : ℕ). time_of u ≤ edge_of c m) (sym same) (le_of_eq is);
            fits = subst (λ (m : ℕ). edge_of c m < 2 ^ 128) (sym same) (moment_fits (edge_of c (n / 2)) x told.2);
            odd = λ o. absurd (differ even o);
          }
        where
          differ : {m : ℕ} → m ≡ 0 → m ≡ 1 → ⊥
          differ p q = omega arith
      go (Ok x) f false h (Err m) g = absurd (err_not_ok (rw (f, h, g) at e))
      go (Ok x) f false h (Ok y) g =
          let odd : (n % 2 ≡ 0) → ⊥ = eqb-false (n % 2) 0 h in
          let next : (n + 1) / 2 ≡ n / 2 + 1 = omega arith in
          let is : midway x y ≡ u = same_ok (rw (f, h, g) at e) in
          let told = after_at_lem c (n / 2) x f in
          let at_x : time_of x ≡ edge_of c (n / 2) = moment_time (edge_of c (n / 2)) x told.2 in
          let at_y : time_of y ≡ edge_of c (n / 2 + 1) = moment_time (edge_of c (n / 2 + 1)) y (after_at_lem c (n / 2 + 1) y g).2 in
          let up : edge_of c (n / 2) ≤ edge_of c (n / 2 + 1) = edge_mono c (omega arith) in
          let mid : time_of u ≡ time_of x + (time_of y - time_of x) / 2 = ap time_of (sym is) ∙ midway_time x y in
          record {
            free = told.0;
            from = told.1;
            lower = after (edge_of c (n / 2)) (time_of x) (time_of y) (time_of u) at_x mid;
            upper = subst (λ (m : ℕ). time_of u ≤ edge_of c m) (sym next) (before (edge_of c (n / 2)) (edge_of c (n / 2 + 1)) (time_of x) (time_of y) (time_of u) at_x at_y up mid);
            fits = subst (λ (m : ℕ). edge_of c m < 2 ^ 128) (sym next) (moment_fits (edge_of c (n / 2 + 1)) y (after_at_lem c (n / 2 + 1) y g).2);
            odd = λ o. sym (rw (f, g) is);
          }
        where
          after : (a x y u : ℕ) → x ≡ a → u ≡ x + (y - x) / 2 → a ≤ u
          after a x y u p q = omega arith

          before : (a b x y u : ℕ) → x ≡ a → y ≡ b → a ≤ b → u ≡ x + (y - x) / 2 → u ≤ b
          before a b x y u p q r s = omega arith

  -- from that of the ordinal on there is one where the edge after it is a time
  half_there : (n : ℕ) → zero_in c ≡ false → c.ordinal ≤ n / 2 → edge_of c ((n + 1) / 2) < 2 ^ 128 → (u : Time) × (domain_half_edge d n ≡ Ok u)
  unfolding domain_half_edge odd_edge
  half_there n free from less = go (eqb (n % 2) 0) refl
    where
      set : (m : ℕ) → c.ordinal ≤ m → edge_of c m < 2 ^ 128 → after_of c m ≡ Ok (time_from (edge_of c m))
      set m le f = after_is c m free le ∙ moment_at (edge_of c m) f

      go : (p : Bool) → eqb (n % 2) 0 ≡ p → (u : Time) × (domain_half_edge d n ≡ Ok u)
      go true h =
          let even : n % 2 ≡ 0 = eqb-true (n % 2) 0 h in
          let same : (n + 1) / 2 ≡ n / 2 = omega arith in
          (time_from (edge_of c (n / 2)), rw (set (n / 2) from (rw same at less), h))
      go false h =
          let odd : (n % 2 ≡ 0) → ⊥ = eqb-false (n % 2) 0 h in
          let next : (n + 1) / 2 ≡ n / 2 + 1 = omega arith in
          let last : edge_of c (n / 2 + 1) < 2 ^ 128 = rw next at less in
          let first : edge_of c (n / 2) < 2 ^ 128 = lt_of_le_of_lt (edge_mono c (omega arith)) last in
          (midway (time_from (edge_of c (n / 2))) (time_from (edge_of c (n / 2 + 1))), rw (set (n / 2) from first, h, set (n / 2 + 1) (more from) last))
        where
          more : {o m : ℕ} → o ≤ m → o ≤ m + 1
          more p = omega arith

  -- from there on, half edges come in order, and there is one where there is a later one
  pub half_order : (m n : ℕ) → 2 * c.ordinal ≤ m → m ≤ n → (u : Time) → domain_half_edge d n ≡ Ok u → (t : Time) × (domain_half_edge d m ≡ Ok t) × (time_of t ≤ time_of u)
  half_order m n from le u e = ⊎_elim less same (lt_or_le m n)
    where
      halved : (o m : ℕ) → 2 * o ≤ m → o ≤ m / 2
      halved o m p = omega arith

      same : n ≤ m → (t : Time) × (domain_half_edge d m ≡ Ok t) × (time_of t ≤ time_of u)
      same f = let is : m ≡ n = omega arith in (u, rw is e, le_refl (time_of u))

      less : m < n → (t : Time) × (domain_half_edge d m ≡ Ok t) × (time_of t ≤ time_of u)
      less f =
          let above = half_edge_lem n u e in
          let near : (m + 1) / 2 ≤ n / 2 = omega arith in
          let far : (m + 1) / 2 ≤ (n + 1) / 2 = omega arith in
          let there = half_there m above.free (halved c.ordinal m from) (lt_of_le_of_lt (edge_mono c far) above.fits) in
          (there.0, there.1, le_trans (half_edge_lem m there.0 there.1).upper (le_trans (edge_mono c near) above.lower))

  -- ## Half edges and half counts, while the domain runs

  module _ (on : d.running ≡ true) where
    -- a half edge whose number is above the half count doesn't come before now
    pub half_later : (now : Time) (t n : ℕ) → domain_half_ticks d now ≡ Ok t → t < n → (u : Time) → domain_half_edge d n ≡ Ok u → time_of now ≤ time_of u
    unfolding high_between earlier
    half_later now t n e less u f = ⊎_elim far (near (is_high now m) refl) (lt_or_le (2 * m + 1) n)
      where
        parts : (m : ℕ) × (domain_ticks d now ≡ Ok m) × (m < 2 ^ 63) × (t ≡ 2 * m + cond (is_high now m) 0 1)
        parts = half_parts now t e

        m : ℕ
        m = parts.0

        edge : HalfEdge n u
        edge = half_edge_lem n u f

        far : 2 * m + 1 < n → time_of now ≤ time_of u
        far h =
            let small : m < 2 ^ 63 = parts.2 in
            let count = running_count on now m parts.1 in
            let some = no_zero c count.0 in
            let past : time_of (next_time now) ≤ edge_of c (m + 1) = uncounted c (time_of (next_time now)) some.0 some.1 (m + 1) (above count.1) (omega arith) in
            let up : m + 1 ≤ n / 2 = omega arith in
            le_trans (next_le now) (le_trans past (le_trans (edge_mono c up) edge.lower))
          where
            above : {a b : ℕ} → a ≡ b → b < a + 1
            above p = omega arith

        near : (h : Bool) → is_high now m ≡ h → n ≤ 2 * m + 1 → time_of now ≤ time_of u
        near false g le =
            let is : t ≡ 2 * m + 1 = rw g at parts.3 in
            absurd (omega arith)
        near true g le =
            let is : t ≡ 2 * m + 0 = rw g at parts.3 in
            let half : n / 2 ≡ m = omega arith in
            let one : n % 2 ≡ 1 = omega arith in
            let mid : u ≡ midway (edge_or_last c m) (edge_or_last c (m + 1)) = rw half at (edge.odd one) in
            let shows : shown d now ≡ now = ap (λ (r : Bool). cond r now d.held_at) on in
            let high = and_right (not (earlier (shown d now) (edge_or_last c m))) _ g in
            let before : time_of (shown d now) < time_of (midway (edge_or_last c m) (edge_or_last c (m + 1))) = ltb-true (time_of (shown d now)) (time_of (midway (edge_or_last c m) (edge_or_last c (m + 1)))) high in
            le_of_lt (subst (λ (x : Time). time_of now < time_of x) (sym mid) (subst (λ (x : Time). time_of x < time_of (midway (edge_or_last c m) (edge_or_last c (m + 1)))) shows before))

    -- at a half edge, at most two more are counted than its number, where edges are at different times
    pub half_counted : c.numerator < 2 ^ 64 → (now : Time) (t n : ℕ) (u : Time)
        → domain_half_edge d n ≡ Ok u → time_of u ≡ time_of now → domain_half_ticks d now ≡ Ok t → t ≤ n + 2
    half_counted word now t n u e is f = ⊎_elim (λ h. absurd (over h)) (λ h. h) (lt_or_le (n + 2) t)
      where
        parts : (m : ℕ) × (domain_ticks d now ≡ Ok m) × (m < 2 ^ 63) × (t ≡ 2 * m + cond (is_high now m) 0 1)
        parts = half_parts now t f

        m : ℕ
        m = parts.0

        edge : HalfEdge n u
        edge = half_edge_lem n u e

        some : (0 < c.numerator) × (0 < c.denominator)
        some = no_zero c edge.free

        small : (h : Bool) → cond h 0 1 ≤ 1
        small true = omega arith
        small false = omega arith

        over : n + 2 < t → ⊥
        over h =
            let next : ℕ = (n + 1) / 2 in
            let high : next + 1 ≤ m = counts h parts.3 (small (is_high now m)) in
            let from : c.ordinal ≤ next = above edge.from in
            let within : m ≤ edges_before c (time_of (next_time now)) = le_of_eq (running_count on now m parts.1).1 in
            let reached : edge_of c m < time_of (next_time now) = counted c (time_of (next_time now)) some.0 some.1 m (past c.ordinal next from high) within in
            let step : edge_of c next < edge_of c (next + 1) = edge_steps c next (next + 1) some.0 (slow c.numerator c.denominator word some.1) from (omega arith) in
            let up : edge_of c (next + 1) ≤ edge_of c m = edge_mono c high in
            clash edge.upper step up reached (next_near now) is
          where
            counts : {b : ℕ} → n + 2 < t → t ≡ 2 * m + b → b ≤ 1 → (n + 1) / 2 + 1 ≤ m
            counts p q r = omega arith

            above : {o : ℕ} → o ≤ n / 2 → o ≤ (n + 1) / 2
            above p = omega arith

            past : (o a : ℕ) {b : ℕ} → o ≤ a → a + 1 ≤ b → o < b
            past o a p q = omega arith

            clash : {a b d l o w : ℕ} → a ≤ b → b < d → d ≤ l → l < o → o ≤ w + 1 → a ≡ w → ⊥
            clash p q r s x y = omega arith
