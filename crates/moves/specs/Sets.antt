-- Laws: a clock set whose system clock is replaced by one that is alike from a time on is alike from there on, for every tap, whatever its prescalers hold. They look at a
-- clock only through `zero_in`, `after_of` and `edges_before_of`. Assumes nothing.
use Prim.Native.Nat.{ℕ, zero, suc, ◌+◌, ◌-◌, ◌*◌, ◌/◌, ◌%◌, ◌^◌, ◌≤◌, ◌<◌}
use Rattle.std.specs.Prelude.{Bool, ◌&&◌, ◌||◌, List, ◌≡◌, eqb, leb, ltb, get_or, Err, None, Ok, Option, Result, Some, ℕ}
use Rattle.std.proofs.Math.Bool.{true, false, cond}
use Rattle.std.proofs.Math.Path.{refl, ap, ap₂, fun_ext}
use Rattle.std.proofs.Common.{sym, ◌∙◌, subst, div-lt_iff_lt-mul, eqb-true, le-leb, leb-true, ltb-false, pow_mono, pow_pos}
use native.Mathlib.Omega.{arith}
use Rattle.std.proofs.lemmas.Bool.{eqb-false}
use Rattle.time.specs.declared.Clock.{Clock}
use Rattle.time.specs.declared.Time.{Time}
use Rattle.time.specs.Clock.{after_of, edges_before_of, zero_in}
use Rattle.time.specs.Time.{next_time}
use Rattle.time.specs.Truths.{and_left, and_right}
use Rattle.clocks.specs.Clocks.{available_of, fed_by, has_zero, routed_edge, routed_ticks, source_of, tap_edge, tap_ticks}
use Rattle.counts.specs.Counts.{fits}
use Rattle.refusals.specs.Refusals.{and_then}
use Rattle.refusals.proofs.Laws.{err_not_ok, same_ok}
use Rattle.std.specs.Result.{result_unwrap_or}
use Rattle.domain.specs.Domain.{domain_half_edge, domain_half_ticks, domain_ticks, edge_or_last, halves, halves_of, high_between, last_time, level_high, odd_edge, shown}
use Rattle.clocks.specs.Moves.{with_system}
use Rattle.prescaler.specs.Prescaler.{crossed, elapsed, outside, parent_edge, stage_edge, stage_ticks}
use Rattle.clocks.specs.Tap.{route_of, route_s, stage_below, stage_of, system_tap, tap_of, within}
use Rattle.clocks.specs.Wait.{dated, edge_deadline}
use Rattle.clocks.specs.declared.Clocks.{Clocks}
use Rattle.domain.specs.declared.Domain.{Domain}
use Rattle.prescaler.specs.declared.Divider.{Divider}
use Rattle.clocks.specs.declared.tap.Route.{Route}
use Rattle.clocks.specs.declared.tap.Route.TheVariants.{ThroughS, ThroughW, Direct}
use Rattle.clocks.specs.declared.tap.Source.{Source}
use Rattle.clocks.specs.declared.tap.Source.TheVariants.{System, Cpu, Watch, OnChip, Oscillator, Subclock}
use Rattle.clocks.specs.declared.tap.Tap.{Tap}
use Rattle.moves.specs.Statement.{From}
use Rattle.moves.specs.Alike.{Alike, ClocksAlike, Other}
use Rattle.refusals.specs.declared.Refusal.{Refusal}
use Rattle.refusals.specs.declared.Refusal.TheVariants.{ZeroFrequency, ZeroDivider, NoStage, Overflow, Reversed}

-- ## Dividers: an edge after those counted is an edge of the source after those counted

-- a sum that fits is the number itself
fits_is : (a b : ℕ) → fits a ≡ Ok b → a ≡ b
unfolding fits
fits_is a b = go (ltb a (2 ^ 64))
  where
    go : (t : Bool) → cond t (Ok a) (Err Overflow) ≡ Ok b → a ≡ b
    go true e = same_ok e
    go false e = absurd (err_not_ok e)

direct_later : (k : Clocks) (d t n m x : ℕ) → routed_ticks k d t Direct ≡ Ok n → n < m → routed_edge k d m Direct ≡ Ok x → t < x
unfolding routed_ticks routed_edge
direct_later k d t n m x e less f = go (eqb d 0) refl e
  where
    go : (z : Bool) → eqb d 0 ≡ z → cond z (Err ZeroDivider) (Ok (t / d)) ≡ Ok n → t < x
    go true g h = absurd (err_not_ok h)
    go false g h =
        let ne : d ≡ 0 → ⊥ = eqb-false d 0 g in
        let q : t / d ≡ n = same_ok h in
        let p : m * d ≡ x = fits_is (m * d) x f in
        let over : t < m * d = (div-lt_iff_lt-mul {k = d} {x = t} {y = m} (omega arith)).0 (omega arith) in
        omega arith

-- a stage that runs: e edges were given at the anchor a, f of the 2 ^ s had passed there
stage_later : (a f e t m p x : ℕ) → 0 < p → f ≤ a → e + (f + (t - a)) / p < m → a - f + (m - e) * p ≡ x → t < x
stage_later a f e t m p x pos le less eq =
    let over : f + (t - a) < (m - e) * p = (div-lt_iff_lt-mul {k = p} {x = f + (t - a)} {y = m - e} pos).0 (omega arith) in
    omega arith

through_later : (p : Divider) (emitted : List ℕ) (t n m s x : ℕ) → p.running ≡ true → stage_ticks 13 p emitted t s ≡ Ok n → n < m → stage_edge 13 p emitted m s ≡ Ok x → t < x
unfolding stage_ticks stage_edge parent_edge crossed elapsed
through_later p emitted t n m s x runs e less f = out (outside 13 s) (rw runs at e) f
  where
    given : ℕ
    given = get_or emitted (s - 1) 0

    low : ℕ
    low = p.phase % 2 ^ s

    late : (b : Bool) → ltb p.anchor low ≡ b → given + (low + (t - p.anchor)) / 2 ^ s ≡ n → cond b (Err Overflow) (fits (p.anchor - low + (m - given) * 2 ^ s)) ≡ Ok x → t < x
    late true g h i = absurd (err_not_ok i)
    late false g h i = stage_later p.anchor low given t m (2 ^ s) x (pow_pos s) (ltb-false p.anchor low g) (omega arith) (fits_is _ x i)

    past : (b : Bool) → given + (low + (t - p.anchor)) / 2 ^ s ≡ n → cond b (Err Reversed) (cond (ltb p.anchor low) (Err Overflow) (fits (p.anchor - low + (m - given) * 2 ^ s))) ≡ Ok x → t < x
    past true h i = absurd (err_not_ok i)
    past false h i = late (ltb p.anchor low) refl h i

    out : (b : Bool) → cond b (Err NoStage) (fits (given + (low + (t - p.anchor)) / 2 ^ s)) ≡ Ok n
        → cond b (Err NoStage) (cond (ltb m given) (Err Reversed) (cond (ltb p.anchor low) (Err Overflow) (fits (p.anchor - low + (m - given) * 2 ^ s)))) ≡ Ok x → t < x
    out true h i = absurd (err_not_ok h)
    out false h i = past (ltb m given) (fits_is _ n h) i

-- ## Which taps of the system clock go through prescaler S

stage_is : (j d s : ℕ) → stage_below j d ≡ Some s → d ≡ 2 ^ s
unfolding stage_below
stage_is zero d s e = absurd (let z : ◌≡◌ {A = ℕ} 0 1 = cc in omega arith)
stage_is (suc j) d s e = go (eqb d (2 ^ j)) refl e (stage_is j d s)
  where
    go : (b : Bool) → eqb d (2 ^ j) ≡ b → cond b (Some j) (stage_below j d) ≡ Some s → (stage_below j d ≡ Some s → d ≡ 2 ^ s) → d ≡ 2 ^ s
    go true f g rest = eqb-true d (2 ^ j) f ∙ ap (λ (x : ℕ). 2 ^ x) (let same : j ≡ s = cc in same)
    go false f g rest = rest g

-- a stage of 1 to 13 has a divider of 2 to 8192
in_range : (s : ℕ) → within 1 13 s ≡ true → within 2 8192 (2 ^ s) ≡ true
in_range s e =
    let low : 1 ≤ s = leb-true 1 s (and_left (leb 1 s) (leb s 13) e) in
    let high : s ≤ 13 = leb-true s 13 (and_right (leb 1 s) (leb s 13) e) in
    rw (le-leb 2 (2 ^ s) (pow_mono {i = 1} {j = s} low), le-leb (2 ^ s) 8192 (pow_mono {i = s} {j = 13} high))

data Routed (d : ℕ) : Route → Type 0 where
  direct : Routed d Direct
  through : (s : ℕ) → within 2 8192 d ≡ true → Routed d (ThroughS s)

routed : (d : ℕ) → Routed d (route_of (system_tap d))
unfolding route_of route_s stage_of
routed d = go (stage_of d) refl
  where
    at : (s : ℕ) (b : Bool) → stage_of d ≡ Some s → within 1 13 s ≡ b → Routed d (cond b (ThroughS s) Direct)
    at s true e f = through s (subst (λ (x : ℕ). within 2 8192 x ≡ true) (sym (stage_is 32 d s e)) (in_range s f))
    at s false e f = direct

    go : (x : Option ℕ) → stage_of d ≡ x → Routed d (route_s x)
    go None e = direct
    go (Some s) e = at s (within 1 13 s) e refl

-- ## The set

-- a domain that runs counts the edges of its clock
running_ticks : (d : Domain) (now : Time) → d.running ≡ true → domain_ticks d now ≡ cond (zero_in d.clock) (Err ZeroFrequency) (edges_before_of d.clock (next_time now))
unfolding domain_ticks
running_ticks d now e = ap (λ (r : Bool). cond (zero_in d.clock) (Err ZeroFrequency) (cond r (edges_before_of d.clock (next_time now)) (Ok d.clock.ordinal))) e

module _ (k : Clocks) (c : Clock) (s : Time) (o : ℕ) (zeros : zero_in k.system.clock ≡ zero_in c) (runs : k.system.running ≡ true) (clocks : ClocksAlike k.system.clock c s o) where
  pub zero_same : has_zero k ≡ has_zero (with_system c k)
  unfolding has_zero
  zero_same = ap (λ (z : Bool). z || zero_in k.cpu.clock || zero_in k.watch.clock || zero_in k.on_chip.clock || zero_in k.oscillator.clock || zero_in k.subclock.clock) zeros

  available_at : (x : Source) (d : ℕ) → available_of k (tap_of x d) ≡ available_of (with_system c k) (tap_of x d)
  unfolding available_of source_of fed_by
  available_at System d = ap (λ (z : Bool). cond z (Err ZeroFrequency) (Ok (k.system.running && fed_by k System d))) zero_same
  available_at Cpu d = ap (λ (z : Bool). cond z (Err ZeroFrequency) (Ok (k.cpu.running && true))) zero_same
  available_at Watch d = ap (λ (z : Bool). cond z (Err ZeroFrequency) (Ok (k.watch.running && fed_by k Watch d))) zero_same
  available_at OnChip d = ap (λ (z : Bool). cond z (Err ZeroFrequency) (Ok (k.on_chip.running && true))) zero_same
  available_at Oscillator d = ap (λ (z : Bool). cond z (Err ZeroFrequency) (Ok (k.oscillator.running && true))) zero_same
  available_at Subclock d = ap (λ (z : Bool). cond z (Err ZeroFrequency) (Ok (k.subclock.running && true))) zero_same

  -- counts
  system_ticks : (now : Time) → From s now → domain_ticks k.system now ≡ domain_ticks (with_system c k).system now
  system_ticks now from =
      running_ticks k.system now runs ∙ ap₂ (λ (z : Bool) (x : Result ℕ Refusal). cond z (Err ZeroFrequency) x) zeros (clocks.counts now from)
      ∙ sym (running_ticks (with_system c k).system now runs)

  system_counted : (now : Time) (n : ℕ) → From s now → domain_ticks k.system now ≡ Ok n → o ≤ n
  system_counted now n from e = go (zero_in k.system.clock) (sym (running_ticks k.system now runs) ∙ e)
    where
      go : (z : Bool) → cond z (Err ZeroFrequency) (edges_before_of k.system.clock (next_time now)) ≡ Ok n → o ≤ n
      go true f = absurd (err_not_ok f)
      go false f = clocks.counts_from now n from f

  source_ticks : (x : Source) (now : Time) → From s now → domain_ticks (source_of k x) now ≡ domain_ticks (source_of (with_system c k) x) now
  unfolding source_of
  source_ticks System now from = system_ticks now from
  source_ticks Cpu now from = refl
  source_ticks Watch now from = refl
  source_ticks OnChip now from = refl
  source_ticks Oscillator now from = refl
  source_ticks Subclock now from = refl

  routed_ticks_lem : (d n : ℕ) (r : Route) → routed_ticks k d n r ≡ routed_ticks (with_system c k) d n r
  unfolding routed_ticks
  routed_ticks_lem d n (ThroughS x) = refl
  routed_ticks_lem d n (ThroughW x) = refl
  routed_ticks_lem d n Direct = refl

  tap_ticks_lem : (t : Tap) (now : Time) → From s now → tap_ticks k now t ≡ tap_ticks (with_system c k) now t
  unfolding tap_ticks
  tap_ticks_lem t now from =
      ap₂ (λ (z : Bool) (x : Result ℕ Refusal). cond z (Err ZeroFrequency) (and_then x (λ n. routed_ticks k t.divide n (route_of t)))) zero_same (source_ticks t.source now from)
      ∙ ap (λ (f : ℕ → Result ℕ Refusal). cond (has_zero (with_system c k)) (Err ZeroFrequency) (and_then (domain_ticks (source_of (with_system c k) t.source) now) f)) (fun_ext (λ n. routed_ticks_lem t.divide n (route_of t)))

  -- edges
  routed_edge_lem : (d n : ℕ) (r : Route) → routed_edge k d n r ≡ routed_edge (with_system c k) d n r
  unfolding routed_edge
  routed_edge_lem d n (ThroughS x) = refl
  routed_edge_lem d n (ThroughW x) = refl
  routed_edge_lem d n Direct = refl

  -- the time of a tap's edge is the same where that of its source's edge is
  pub edge_same : (t : Tap) (m : ℕ) → ((x : ℕ) → routed_edge k t.divide m (route_of t) ≡ Ok x → after_of (source_of k t.source).clock x ≡ after_of (source_of (with_system c k) t.source).clock x)
      → tap_edge k m t ≡ tap_edge (with_system c k) m t
  unfolding tap_edge
  edge_same t m h =
      ap₂ (λ (z : Bool) (x : Result Time Refusal). cond z (Err ZeroFrequency) x) zero_same
      (go (routed_edge k t.divide m (route_of t)) refl ∙ ap (λ (x : Result ℕ Refusal). and_then x (after_of (source_of (with_system c k) t.source).clock)) (routed_edge_lem t.divide m (route_of t)))
    where
      go : (x : Result ℕ Refusal) → routed_edge k t.divide m (route_of t) ≡ x
          → and_then x (after_of (source_of k t.source).clock) ≡ and_then x (after_of (source_of (with_system c k) t.source).clock)
      go (Ok x) e = h x e
      go (Err r) e = refl

  pub deadline_same : (x : Source) (d m : ℕ) → tap_edge k m (tap_of x d) ≡ tap_edge (with_system c k) m (tap_of x d) → edge_deadline (tap_of x d) k m ≡ edge_deadline (tap_of x d) (with_system c k) m
  unfolding edge_deadline
  deadline_same x d m e = ap₂ (λ (v : Result Bool Refusal) (y : Result Time Refusal). and_then v (λ b. cond b (dated y) (Ok None))) (available_at x d) e

  -- taps of another clock
  pub other_same : (x : Source) (d m : ℕ) → Other x → edge_deadline (tap_of x d) k m ≡ edge_deadline (tap_of x d) (with_system c k) m
  unfolding source_of
  other_same System d m e = absurd e
  other_same Cpu d m e = deadline_same Cpu d m (edge_same (tap_of Cpu d) m (λ x f. refl))
  other_same Watch d m e = deadline_same Watch d m (edge_same (tap_of Watch d) m (λ x f. refl))
  other_same OnChip d m e = deadline_same OnChip d m (edge_same (tap_of OnChip d) m (λ x f. refl))
  other_same Oscillator d m e = deadline_same Oscillator d m (edge_same (tap_of Oscillator d) m (λ x f. refl))
  other_same Subclock d m e = deadline_same Subclock d m (edge_same (tap_of Subclock d) m (λ x f. refl))

  -- what a count of a tap of the system clock tells: the count of the clock itself, and that the tap's comes from it
  counted_parts : (d n : ℕ) (now : Time) → From s now → tap_ticks k now (system_tap d) ≡ Ok n → (t : ℕ) × (o ≤ t) × (routed_ticks k d t (route_of (system_tap d)) ≡ Ok n)
  unfolding tap_ticks source_of
  counted_parts d n now from e = go (has_zero k) (domain_ticks k.system now) refl e
    where
      go : (z : Bool) (x : Result ℕ Refusal) → domain_ticks k.system now ≡ x → cond z (Err ZeroFrequency) (and_then x (λ t. routed_ticks k d t (route_of (system_tap d)))) ≡ Ok n
          → (t : ℕ) × (o ≤ t) × (routed_ticks k d t (route_of (system_tap d)) ≡ Ok n)
      go true x f g = absurd (err_not_ok g)
      go false (Ok t) f g = (t, system_counted now t from f, g)
      go false (Err r) f g = absurd (err_not_ok g)

  -- a tap that isn't available has no edges to come, whatever the clock
  pub idle_same : (d m : ℕ) → (k.system.running && fed_by k System d) ≡ false → edge_deadline (system_tap d) k m ≡ edge_deadline (system_tap d) (with_system c k) m
  unfolding edge_deadline available_of source_of
  idle_same d m e =
      ap (λ (v : Result Bool Refusal). and_then v (λ b. cond b (dated (tap_edge k m (system_tap d))) (Ok None))) none ∙ go (has_zero k)
      ∙ ap (λ (v : Result Bool Refusal). and_then v (λ b. cond b (dated (tap_edge (with_system c k) m (system_tap d))) (Ok None))) (sym none ∙ available_at System d)
    where
      none : available_of k (system_tap d) ≡ cond (has_zero k) (Err ZeroFrequency) (Ok false)
      none = ap (λ (x : Bool). cond (has_zero k) (Err ZeroFrequency) (Ok x)) e

      go : (z : Bool) → and_then (cond z (Err ZeroFrequency) (Ok false)) (λ b. cond b (dated (tap_edge k m (system_tap d))) (Ok None))
          ≡ and_then (cond z (Err ZeroFrequency) (Ok false)) (λ b. cond b (dated (tap_edge (with_system c k) m (system_tap d))) (Ok None))
      go true = refl
      go false = refl

  -- a tap of a stopped prescaler
  unfed : (d : ℕ) → within 2 8192 d ≡ true → k.prescaler_s.divider.running ≡ false → (k.system.running && fed_by k System d) ≡ false
  unfolding fed_by
  unfed d w p = ap (λ (x : Bool). k.system.running && cond x k.prescaler_s.divider.running true) w ∙ ap₂ (λ (x y : Bool). x && y) runs p

  system_later : (d n m : ℕ) (now : Time) → From s now → tap_ticks k now (system_tap d) ≡ Ok n → n < m → edge_deadline (system_tap d) k m ≡ edge_deadline (system_tap d) (with_system c k) m
  unfolding source_of routed_ticks routed_edge
  system_later d n m now from e less = go (route_of (system_tap d)) (routed d) refl
    where
      t : ℕ
      t = (counted_parts d n now from e).0

      -- an edge of the system clock after those counted
      then_same : ((x : ℕ) → routed_edge k d m (route_of (system_tap d)) ≡ Ok x → t < x) → edge_deadline (system_tap d) k m ≡ edge_deadline (system_tap d) (with_system c k) m
      then_same h = deadline_same System d m (edge_same (system_tap d) m (λ x f. let over : t < x = h x f in let least : o ≤ t = (counted_parts d n now from e).1 in clocks.edges x (omega arith)))

      stage : (x : ℕ) (b : Bool) → k.prescaler_s.divider.running ≡ b → route_of (system_tap d) ≡ ThroughS x → within 2 8192 d ≡ true → edge_deadline (system_tap d) k m ≡ edge_deadline (system_tap d) (with_system c k) m
      stage x true p f w = then_same (λ y g. through_later k.prescaler_s.divider k.prescaler_s.emitted t n m x y p (rw f at (counted_parts d n now from e).2) less (rw f at g))
      stage x false p f w = idle_same d m (unfed d w p)

      go : (r : Route) → Routed d r → route_of (system_tap d) ≡ r → edge_deadline (system_tap d) k m ≡ edge_deadline (system_tap d) (with_system c k) m
      go r direct f = then_same (λ y g. direct_later k d t n m y (rw f at (counted_parts d n now from e).2) less (rw f at g))
      go r (through x w) f = stage x k.prescaler_s.divider.running refl f w

  -- of system/1, every edge from the ordinal on
  pub counted_same : (m : ℕ) → o ≤ m → edge_deadline (system_tap 1) k m ≡ edge_deadline (system_tap 1) (with_system c k) m
  unfolding source_of routed_edge route_of route_s stage_of stage_below
  counted_same m le = deadline_same System 1 m (edge_same (system_tap 1) m (λ x f. let e : m * 1 ≡ x = fits_is (m * 1) x f in clocks.edges x (omega arith)))

  tap_later : (x : Source) (d : ℕ) (now : Time) (n m : ℕ) → From s now → tap_ticks k now (tap_of x d) ≡ Ok n → n < m → edge_deadline (tap_of x d) k m ≡ edge_deadline (tap_of x d) (with_system c k) m
  tap_later System d now n m from e less = system_later d n m now from e less
  tap_later Cpu d now n m from e less = other_same Cpu d m tt
  tap_later Watch d now n m from e less = other_same Watch d m tt
  tap_later OnChip d now n m from e less = other_same OnChip d m tt
  tap_later Oscillator d now n m from e less = other_same Oscillator d m tt
  tap_later Subclock d now n m from e less = other_same Subclock d m tt

  -- half counts and half edges
  halves_at : (now : Time) (n : ℕ) → o ≤ n → halves_of k.system now n ≡ halves_of (with_system c k).system now n
  unfolding halves_of level_high edge_or_last
  halves_at now n le =
      ap₂ (λ (a b : Result Time Refusal). cond (ltb n (2 ^ 63)) (halves n (cond (eqb n (2 ^ 64 - 1)) (Err Overflow) (Ok (high_between (shown k.system now) (result_unwrap_or a last_time) (result_unwrap_or b last_time))))) (Err Overflow))
      (clocks.edges n le) (clocks.edges (n + 1) (omega arith))

  half_counts : (now : Time) → From s now → domain_half_ticks k.system now ≡ domain_half_ticks (with_system c k).system now
  unfolding domain_half_ticks
  half_counts now from =
      go (domain_ticks k.system now) refl ∙ ap (λ (x : Result ℕ Refusal). and_then x (halves_of (with_system c k).system now)) (system_ticks now from)
    where
      go : (x : Result ℕ Refusal) → domain_ticks k.system now ≡ x → and_then x (halves_of k.system now) ≡ and_then x (halves_of (with_system c k).system now)
      go (Ok n) e = halves_at now n (system_counted now n from e)
      go (Err r) e = refl

  half_counts_from : (now : Time) (n : ℕ) → From s now → domain_half_ticks k.system now ≡ Ok n → 2 * o ≤ n
  unfolding domain_half_ticks halves_of halves
  half_counts_from now n from e = go (domain_ticks k.system now) refl e
    where
      level : (t : ℕ) (h : Result Bool Refusal) → o ≤ t → and_then h (λ b. Ok (2 * t + cond b 0 1)) ≡ Ok n → 2 * o ≤ n
      level t (Ok b) le f = let g : 2 * t + cond b 0 1 ≡ n = same_ok f in omega arith
      level t (Err r) le f = absurd (err_not_ok f)

      doubled : (t : ℕ) (b : Bool) → o ≤ t → cond b (and_then (level_high k.system now t) (λ b. Ok (2 * t + cond b 0 1))) (Err Overflow) ≡ Ok n → 2 * o ≤ n
      doubled t true le f = level t (level_high k.system now t) le f
      doubled t false le f = absurd (err_not_ok f)

      go : (x : Result ℕ Refusal) → domain_ticks k.system now ≡ x → and_then x (halves_of k.system now) ≡ Ok n → 2 * o ≤ n
      go (Ok t) f g = doubled t (ltb t (2 ^ 63)) (system_counted now t from f) g
      go (Err r) f g = absurd (err_not_ok g)

  half_edge_lem : (m : ℕ) → 2 * o ≤ m → domain_half_edge k.system m ≡ domain_half_edge (with_system c k).system m
  unfolding domain_half_edge
  half_edge_lem m le =
      ap₂ (λ (a b : Result Time Refusal). and_then a (λ t. cond (eqb (m % 2) 0) (Ok t) (odd_edge t b)))
      (clocks.edges (m / 2) (omega arith)) (clocks.edges (m / 2 + 1) (omega arith))

  -- the set is alike from the new start on, where it has no zero
  pub set_alike : has_zero k ≡ false → Alike k (with_system c k) s o
  set_alike free = record {
    free = free;
    free' = sym zero_same ∙ free;
    runs = refl;
    ticks = tap_ticks_lem;
    later = λ t now n m from e less. tap_later t.source t.divide now n m from e less;
    halves = half_counts;
    halves_from = half_counts_from;
    half_edges = half_edge_lem;
  }
