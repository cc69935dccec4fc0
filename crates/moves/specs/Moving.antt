-- Laws: a clock whose start was moved up to a time before the last one is alike from there on (document 02, (k)). Assumes nothing.
use Rattle.std.specs.Prelude.{ℕ, ◌+◌, ◌-◌, ◌*◌, ◌^◌, ◌≤◌, ◌<◌, Bool, true, false, cond, ◌≡◌, ltb, Err, Ok, Result}
use Rattle.std.proofs.Math.Path.{refl, sym, ap, subst}
use Rattle.std.proofs.Common.{◌∙◌, ⊎_elim, ltb-false}
use native.Mathlib.Omega.{arith}
use Rattle.time.specs.declared.Time.{Time}
use Rattle.time.specs.declared.Clock.{Clock}
use Rattle.time.specs.Clock.{after_of, edge_of, edges_before, edges_before_of, moved_by, start_after, zero_in}
use Rattle.time.proofs.Laws.{after_is, edge_start, edges_before_ge, lt_or_le, moment_at, next_last, next_later, no_zero, time_of_from}
use Rattle.time.proofs.MoveLaws.{count_moved, edge_moved, moved_sound}
use Rattle.time.proofs.NextLaws.{edge_steps}
use Rattle.time.specs.Time.{moment_of, next_time, time_from, time_of}
use Rattle.moves.specs.Statement.{From}
use Rattle.moves.specs.Alike.{Early, EdgesAlike}
use Rattle.refusals.specs.declared.Refusal.{Refusal}
use Rattle.refusals.specs.declared.Refusal.TheVariants.{ZeroFrequency, Reversed}

-- the edges at or before now
abbrev counted_at : Clock → Time → Result ℕ Refusal
counted_at c now = edges_before_of c (next_time now)

-- the time at which the moved clock starts
abbrev moved_start : ℕ → Clock → Time
moved_start n c = time_from (start_after n c)

-- a clock moved to a time before the last one is alike from there on
module _ (c : Clock) (n : ℕ) (sound : zero_in c ≡ false) (ordinal : c.ordinal + n ≤ 2 ^ 64 - 1) (early : start_after n c + 1 < 2 ^ 128) where
  pos : 0 < c.numerator
  pos = (no_zero c sound).0

  -- the new start is before the limit of every time from it on
  within : (now : Time) → From (moved_start n c) now → start_after n c < time_of (next_time now)
  within now from = ⊎_elim
      (λ h. subst (λ (x : ℕ). start_after n c < x) (sym (ap (λ (t : Time). time_of t) (next_later now h) ∙ time_of_from (time_of now + 1))) (later now_from))
      (λ h. subst (λ (t : Time). start_after n c < time_of t) (sym (next_last now h)) (last early h))
      (lt_or_le (time_of now + 1) (2 ^ 128))
    where
      now_from : start_after n c ≤ time_of now
      now_from = subst (λ (x : ℕ). x ≤ time_of now) (time_of_from (start_after n c)) from

      later : {x y : ℕ} → x ≤ y → x < y + 1
      later h = omega arith

      last : {x y l : ℕ} → x + 1 < l → l ≤ y + 1 → x < y
      last p q = omega arith

  new_ordinal : (moved_by n c).ordinal ≡ c.ordinal + n
  unfolding moved_by
  new_ordinal = refl

  -- no count below the new ordinal
  counted_from : (now : Time) (x : ℕ) → From (moved_start n c) now → ◌≡◌ {A = Result ℕ Refusal} (Ok (edges_before c (time_of (next_time now)))) (Ok x) → c.ordinal + n ≤ x
  counted_from now x from e =
      let f : edges_before c (time_of (next_time now)) ≡ x = cc in
      let g : edges_before (moved_by n c) (time_of (next_time now)) ≡ x = count_moved c n (time_of (next_time now)) pos ordinal (within now from) ∙ f in
      omega (arith, new_ordinal, edges_before_ge (moved_by n c) (time_of (next_time now)))

  -- an edge below the new ordinal was before the new start
  before_start : c.numerator ≤ c.denominator * 2 ^ 64 → (m : ℕ) → m < c.ordinal + n → Early (moved_start n c) (after_of c m)
  unfolding after_of
  before_start slow m less = go (ltb m c.ordinal) refl
    where
      at : c.ordinal ≤ m → Early (moved_start n c) (moment_of (edge_of c m))
      at le =
          let lower : edge_of c m < start_after n c = subst (λ (x : ℕ). edge_of c m < x) (edge_start c n) (edge_steps c m (c.ordinal + n) pos slow le less) in
          subst (Early (moved_start n c)) (sym (moment_at (edge_of c m) (over lower early)))
          (subst (λ (x : ℕ). x < time_of (moved_start n c)) (sym (time_of_from (edge_of c m))) (subst (λ (x : ℕ). edge_of c m < x) (sym (time_of_from (start_after n c))) lower))
        where
          over : {x y l : ℕ} → x < y → y + 1 < l → x < l
          over p q = omega arith

      go : (b : Bool) → ltb m c.ordinal ≡ b → Early (moved_start n c) (cond (zero_in c) (Err ZeroFrequency) (cond b (Err Reversed) (moment_of (edge_of c m))))
      go true e = rw sound refl
      go false e = rw sound (at (ltb-false m c.ordinal e))

  pub moved_alike : c.numerator ≤ c.denominator * 2 ^ 64 → EdgesAlike (after_of c) (after_of (moved_by n c)) (counted_at c) (counted_at (moved_by n c)) (moved_start n c) (c.ordinal + n)
  unfolding edges_before_of
  moved_alike slow = record {
    edges = λ m le.
        after_is c m sound (omega arith) ∙ ap moment_of (sym (edge_moved c n m pos le))
        ∙ sym (after_is (moved_by n c) m (moved_sound c n sound) (subst (λ (x : ℕ). x ≤ m) (sym new_ordinal) le));
    counts = λ now from. rw (sound, moved_sound c n sound) (ap Ok (sym (count_moved c n (time_of (next_time now)) pos ordinal (within now from))));
    counts_from = λ now x from e. counted_from now x from (rw sound at e);
    start = after_is c (c.ordinal + n) sound (omega arith) ∙ ap moment_of (edge_start c n) ∙ moment_at (start_after n c) (less early);
    before = λ m less. before_start slow m less;
  }
    where
      less : {x l : ℕ} → x + 1 < l → x < l
      less h = omega arith
