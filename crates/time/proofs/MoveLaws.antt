-- Laws of the move (document 02, (k)), over all of ℕ: by n and then by m is by n + m, refusals included; the edges from the new ordinal on, and the counts
-- before a limit past the new start, are as they were. Assumes nothing.
use Rattle.std.specs.Prelude.{◌≡◌, ℕ, zero, suc, ◌+◌, ◌-◌, ◌*◌, ◌/◌, ◌%◌, ◌^◌, ◌<◌, ◌≤◌, Bool, true, false, cond, ◌&&◌, ltb, nat_lt, refl, Ok, Err}
use Rattle.std.proofs.Common.{true≢false, sym, ◌∙◌, ap, ap₂, subst, add_assoc, add-mul, div-add-mod', le_refl, le_trans, mod-lt, mul-le-mul_right, add-le-add, arith, ltb-true, lt-ltb, ne_eqb}
use Rattle.std.proofs.Math.Nat.{add-mul-div_right, add-mul-mod_self_right}
use Rattle.refusals.specs.declared.Refusal.TheVariants.{ZeroFrequency, Overflow}
use Rattle.refusals.specs.Refusals.{and_then}
use Rattle.time.specs.declared.Clock.{Clock}
use Rattle.time.specs.Clock.{after_of, count_to, edge_of, edges_before, in_width, move_of, moved_by, span, start_after, zero_in}
use Rattle.time.specs.Time.{moment_of, time_from, time_of}
use Rattle.time.specs.Truths.{and_left, and_right}
use Rattle.time.proofs.Laws.{div_mono, edge_mono, edge_start, no_zero, time_of_from}

-- ## Edges after a move

-- the part left over goes on
carried : (y x h : ℕ) → 0 < h → x / h + (y + x % h) / h ≡ (y + x) / h
carried y x h pos =
    let e : y + x % h + x / h * h ≡ y + x = omega (arith, div-add-mod' x h) in
    omega (arith, add-mul-div_right (y + x % h) (x / h) pos, ap (λ (z : ℕ). z / h) e)

left_over : (y x h : ℕ) → (y + x % h) % h ≡ (y + x) % h
left_over y x h =
    let e : y + x % h + x / h * h ≡ y + x = omega (arith, div-add-mod' x h) in
    sym (add-mul-mod_self_right (y + x % h) (x / h) h) ∙ ap (λ (z : ℕ). z % h) e

-- the edges of two moves add up
pub spans : (c : Clock) (n m : ℕ) → m * c.denominator * 2 ^ 64 + span c n ≡ span c (n + m)
spans c n m =
    let e : (n + m) * c.denominator * 2 ^ 64 ≡ n * c.denominator * 2 ^ 64 + m * c.denominator * 2 ^ 64 =
    ap (λ (x : ℕ). x * 2 ^ 64) (add-mul n m c.denominator) ∙ add-mul (n * c.denominator) (m * c.denominator) (2 ^ 64) in
    omega arith

edge_after : (c : Clock) (n m : ℕ) → 0 < c.numerator → start_after n c + span (moved_by n c) m / c.numerator ≡ start_after (n + m) c
unfolding moved_by
edge_after c n m pos =
    let e = carried (m * c.denominator * 2 ^ 64) (span c n) c.numerator pos in
    let f : span c (n + m) / c.numerator ≡ span c n / c.numerator + (m * c.denominator * 2 ^ 64 + span c n % c.numerator) / c.numerator = ap (λ (z : ℕ). z / c.numerator) (sym (spans c n m)) ∙ sym e in
    omega arith

start_after_lem : (c : Clock) (n m : ℕ) → 0 < c.numerator → start_after m (moved_by n c) ≡ start_after (n + m) c
unfolding moved_by
start_after_lem c n m pos = ap (λ (x : ℕ). x + span (moved_by n c) m / c.numerator) (time_of_from (start_after n c)) ∙ edge_after c n m pos

-- by n and then by m is by n + m
pub moved_twice : (c : Clock) (n m : ℕ) → 0 < c.numerator → moved_by m (moved_by n c) ≡ moved_by (n + m) c
unfolding moved_by
moved_twice c n m pos =
    let start : (moved_by m (moved_by n c)).start ≡ (moved_by (n + m) c).start = ap (λ (x : ℕ). time_from x) (start_after_lem c n m pos) in
    let ordinal : c.ordinal + n + m ≡ c.ordinal + (n + m) = omega arith in
    let fraction : span (moved_by n c) m % c.numerator ≡ span c (n + m) % c.numerator =
    left_over (m * c.denominator * 2 ^ 64) (span c n) c.numerator ∙ ap (λ (z : ℕ). z % c.numerator) (spans c n m) in
    λ i. record { start = start i; numerator = c.numerator; denominator = c.denominator; ordinal = ordinal i; fraction = fraction i }

-- an edge from the new ordinal on is where it was
pub edge_moved : (c : Clock) (n k : ℕ) → 0 < c.numerator → c.ordinal + n ≤ k → edge_of (moved_by n c) k ≡ edge_of c k
unfolding edge_of moved_by
edge_moved c n k pos le =
    let e : n + (k - (c.ordinal + n)) ≡ k - c.ordinal = omega arith in
    start_after_lem c n (k - (c.ordinal + n)) pos ∙ ap (λ (x : ℕ). start_after x c) e

-- ## Counts after a move

-- a count up to a sum is the count up to the first, and that of what follows
count_split : (test : ℕ → Bool) (n k : ℕ) → count_to test (n + k) ≡ count_to test n + count_to (λ x. test (n + x)) k
unfolding count_to
count_split test n zero = let e : n + 0 ≡ n = omega arith in omega (arith, ap (count_to test) e)
count_split test n (suc k) =
    let e : n + suc k ≡ suc (n + k) = omega arith in
    let more : count_to test (n + suc k) ≡ count_to test (n + k) + cond (test (n + suc k)) 1 0 =
    ap (count_to test) e ∙ ap (λ (x : ℕ). count_to test (n + k) + cond (test x) 1 0) (sym e) in
    omega (arith, count_split test n k)

count_all : (test : ℕ → Bool) (n : ℕ) → ((x : ℕ) → 0 < x → x ≤ n → test x ≡ true) → count_to test n ≡ n
unfolding count_to
count_all test zero h = refl
count_all test (suc n) h =
    let e : ◌≡◌ {A = ℕ} (cond (test (suc n)) 1 0) 1 = ap (λ (t : Bool). cond t 1 0) (h (suc n) (omega arith) (le_refl (suc n))) in
    omega (arith, count_all test n (λ x pos le. h x pos (omega arith)))

count_same : (f g : ℕ → Bool) (n : ℕ) → ((x : ℕ) → f x ≡ g x) → count_to f n ≡ count_to g n
unfolding count_to
count_same f g zero h = refl
count_same f g (suc n) h = ap₂ (λ (x : ℕ) (t : Bool). x + cond t 1 0) (count_same f g n h) (h (suc n))

pub span_grows : (c : Clock) (a b : ℕ) → a ≤ b → span c a ≤ span c b
span_grows c a b le = add-le-add (mul-le-mul_right (2 ^ 64) (mul-le-mul_right c.denominator le)) (le_refl c.fraction)

-- before a limit after the new start as many edges are counted as before the move
pub count_moved : (c : Clock) (n limit : ℕ) → 0 < c.numerator → c.ordinal + n ≤ 2 ^ 64 - 1 → start_after n c < limit → edges_before (moved_by n c) limit ≡ edges_before c limit
unfolding edges_before moved_by
count_moved c n limit pos fits less =
    let o : ℕ = c.ordinal in
    let rest : ℕ = 2 ^ 64 - 1 - (o + n) in
    let test : ℕ → Bool = λ x. ltb (edge_of c (o + x)) limit in
    let whole : n + rest ≡ 2 ^ 64 - 1 - o = omega arith in
    let passed : count_to test n ≡ n =
    count_all test n (λ x some le. lt-ltb (edge_of c (o + x)) limit (le_trans (suc_le (edge_mono c (omega arith))) (subst (λ (y : ℕ). y < limit) (sym (edge_start c n)) less))) in
    let after : count_to (λ x. ltb (edge_of (moved_by n c) (o + n + x)) limit) rest ≡ count_to (λ x. test (n + x)) rest =
    count_same (λ x. ltb (edge_of (moved_by n c) (o + n + x)) limit) (λ x. test (n + x)) rest (λ x. ap (λ (y : ℕ). ltb y limit) (edge_moved c n (o + n + x) pos (omega arith) ∙ ap (edge_of c) (add_assoc o n x))) in
    let split : count_to test (2 ^ 64 - 1 - o) ≡ count_to test n + count_to (λ x. test (n + x)) rest = ap (count_to test) (sym whole) ∙ count_split test n rest in
    omega (arith, split, passed, after)
  where
    suc_le : {x y : ℕ} → x ≤ y → suc x ≤ suc y
    suc_le h = omega arith

-- ## Refusals

pub moved_sound : (c : Clock) (n : ℕ) → zero_in c ≡ false → zero_in (moved_by n c) ≡ false
unfolding zero_in moved_by
moved_sound c n e =
    let pos = no_zero c e in
    simp (ne_eqb c.numerator 0 (λ z. omega (arith, pos.0)), ne_eqb c.denominator 0 (λ z. omega (arith, pos.1)), lt-ltb (span c n % c.numerator) c.numerator (mod-lt (span c n) pos.0))

less_still : (a b l : ℕ) → a ≤ b → nat_lt b l ≡ true → nat_lt a l ≡ true
less_still a b l le e = let f : b < l = ltb-true b l e in lt-ltb a l (omega arith)

both_true : (a b : Bool) → a ≡ true → b ≡ true → (a && b) ≡ true
both_true true b f g = g
both_true false b f g = f

-- what is in its width after both moves was so after the first
width_before : (c : Clock) (n m : ℕ) → 0 < c.numerator → in_width (n + m) c ≡ true → in_width n c ≡ true
width_before c n m pos e =
    let starts : start_after n c ≤ start_after (n + m) c = add-le-add (le_refl (time_of c.start)) (div_mono c.numerator (span_grows c n (n + m) (omega arith))) in
    both_true (nat_lt (start_after n c) (2 ^ 128)) (nat_lt (c.ordinal + n) (2 ^ 64))
    (less_still (start_after n c) (start_after (n + m) c) (2 ^ 128) starts (and_left _ _ e))
    (less_still (c.ordinal + n) (c.ordinal + (n + m)) (2 ^ 64) (omega arith) (and_right (nat_lt (start_after (n + m) c) (2 ^ 128)) _ e))

-- what is in its width after the second move is so after both
width_after : (c : Clock) (n m : ℕ) → 0 < c.numerator → in_width m (moved_by n c) ≡ in_width (n + m) c
unfolding moved_by
width_after c n m pos = ap₂ (λ (x y : ℕ). nat_lt x (2 ^ 128) && nat_lt y (2 ^ 64)) (start_after_lem c n m pos) (add_assoc c.ordinal n m)

-- Moving by n and then by m is moving by n + m, and is refused exactly if that is, for the same reason
pub move_twice : (c : Clock) (n m : ℕ) → and_then (move_of n c) (move_of m) ≡ move_of (n + m) c
unfolding move_of
move_twice c n m = go (zero_in c) refl
  where
    second : (a b : Bool) → zero_in c ≡ false → in_width n c ≡ a → in_width (n + m) c ≡ b
        → and_then (cond a (Ok (moved_by n c)) (Err Overflow)) (move_of m) ≡ cond b (Ok (moved_by (n + m) c)) (Err Overflow)
    second true b e f g =
        ap (λ (z : Bool). cond z (Err ZeroFrequency) (cond (in_width m (moved_by n c)) (Ok (moved_by m (moved_by n c))) (Err Overflow))) (moved_sound c n e)
        ∙ ap₂ (λ (w : Bool) (x : Clock). cond w (Ok x) (Err Overflow)) (width_after c n m (no_zero c e).0 ∙ g) (moved_twice c n m (no_zero c e).0)
    second false true e f g = absurd (true≢false (sym (width_before c n m (no_zero c e).0 g) ∙ f))
    second false false e f g = refl

    go : (a : Bool) → zero_in c ≡ a → and_then (cond a (Err ZeroFrequency) (cond (in_width n c) (Ok (moved_by n c)) (Err Overflow))) (move_of m)
        ≡ cond a (Err ZeroFrequency) (cond (in_width (n + m) c) (Ok (moved_by (n + m) c)) (Err Overflow))
    go true e = refl
    go false e = second (in_width n c) (in_width (n + m) c) e refl refl

-- ## Rows: 3 Hz moved by 1. Its new start is a third of a second rounded down, 1 / 3 of a unit is left over, and edge 3 is at 1 s; with the fraction dropped
-- it would be a unit early

abbrev third : Clock
third = record { start = record { seconds = 0; fraction = 0 }; numerator = 3; denominator = 1; ordinal = 0; fraction = 0 }

pub third_moved : move_of 1 third ≡ Ok (record { start = record { seconds = 0; fraction = 0x5555555555555555 }; numerator = 3; denominator = 1; ordinal = 1; fraction = 1 })
unfolding move_of moved_by zero_in
third_moved = refl

pub third_edge : after_of (moved_by 1 third) 3 ≡ Ok (record { seconds = 1; fraction = 0 })
unfolding after_of edge_of moment_of moved_by zero_in
third_edge = refl

pub fraction_dropped : after_of (record { start = record { seconds = 0; fraction = 0x5555555555555555 }; numerator = 3; denominator = 1; ordinal = 1; fraction = 0 }) 3 ≡ Ok (record { seconds = 0; fraction = 2 ^ 64 - 1 })
unfolding after_of edge_of moment_of zero_in
fraction_dropped = refl
