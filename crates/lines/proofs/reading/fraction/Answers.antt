-- `lines::reading::fraction` meets its contract: what is left to read from place i, after the value n of i digits, gives the answer.
-- Assumes nothing.
use Rattle.std.specs.Prelude.{None}
use Rattle.std.proofs.Common.{arith, refl, sym, ap, ◌∙◌, ◌≡◌, ◌+◌, ◌-◌, ◌*◌, ◌%◌, ◌^◌, ◌≤◌, ◌<◌, Bool, cond, ℕ, List, length, get_or, take, drop}
use Rattle.std.proofs.lemmas.List.{get_or-take, length-take-le}
use Rattle.lines.specs.Reading.{digit_of, hex_from, fraction_of}
use Rattle.lines.proofs.Scans.{hex_step, hex_end, power_on, power_fits}
use Rattle.lines.proofs.reading.fraction.Goals as goal

-- a digit's value
below : (d : ℕ) → d % 16 < 16
below d = omega arith

-- the sum fits
wide : (n d i : ℕ) → n < 16 ^ i → i < 16 → n * 16 + d % 16 < 2 ^ 64
wide n d i h few = power_fits (n * 16 + d % 16) (i + 1) (power_on n (d % 16) i h (below d)) (omega (arith, few))

-- a place of the first 16
few : (l : List ℕ) (i : ℕ) → 16 ≤ length l → i < length (take 16 l) → i < 16
few l i long h = let e : length (take 16 l) ≡ 16 = length-take-le 16 l long in omega arith

pub loop-b-init : goal.loop-b-init
unfolding fraction_of
loop-b-init c = (omega arith, refl)

pub overflow_mul-n : goal.overflow_mul-n
overflow_mul-n c =
    let l = c.loop-b in
    let h = wide l.n c.value-d.result l.b-index l.invariant.0 (few _ l.b-index c.requires c.loop-b-test.true) in
    omega (arith, h)

pub overflow_add-n : goal.overflow_add-n
overflow_add-n c =
    let l = c.loop-b in
    let h = wide l.n c.value-d.result l.b-index l.invariant.0 (few _ l.b-index c.requires c.loop-b-test.true) in
    omega (arith, h)

pub loop-b-preserved : goal.loop-b-preserved
loop-b-preserved c =
    let l = c.loop-b in
    let s = c.args.rest.now in
    let d = c.value-d in
    let i = few s l.b-index c.requires c.loop-b-test.true in
    (power_on l.n (d.result % 16) l.b-index l.invariant.0 (below d.result), l.invariant.1 ∙ hex_step s l.b-index (omega (arith, i, c.requires)) l.n i l.fine d.result (d.ensures.value ∙ ap digit_of (get_or-take 16 s l.b-index 0 i)))

pub returns-then-fine : goal.returns-then-fine
returns-then-fine c =
    let l = c.loop-b in
    let s = c.args.rest.now in
    let e : length (take 16 s) ≡ 16 = length-take-le 16 s c.requires in
    sym (l.invariant.1 ∙ ap (λ (z : Bool). cond z (hex_from (16 - l.b-index) l.n (drop l.b-index s)) None) c.if-fine.true ∙ hex_end s l.n l.b-index (omega (arith, e, c.loop-b-test.false)))

pub returns-else-fine : goal.returns-else-fine
returns-else-fine c =
    let l = c.loop-b in
    sym (l.invariant.1 ∙ ap (λ (z : Bool). cond z (hex_from (16 - l.b-index) l.n (drop l.b-index c.args.rest.now)) None) c.if-fine.false)
