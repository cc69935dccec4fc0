-- `map::checks::Spans::holders` meets its contract: what is counted so far and what the rest of the lists holds is what both lists hold.
-- Assumes nothing.
use Rattle.std.proofs.Common.{Bool, true, false, cond, ◌≡◌, refl, ℕ, ◌+◌, ◌≤◌, List, length, drop, get_or, sym, ap, subst, add-one, arith, drop_of_length-le}
use mir.Val.{bool_byte}
use Rattle.map.specs.Map.{between}
use Rattle.map.specs.Spans.{held_in}
use Rattle.map.proofs.SpanLaws.{held_on}
use Rattle.map.proofs.checks.Spans.holders.Goals as goal

byte_is : (t : Bool) → bool_byte t ≡ cond t 1 0
byte_is true = refl
byte_is false = refl

byte_small : (t : Bool) → bool_byte t ≤ 1
byte_small true = omega arith
byte_small false = omega arith

ended : (i : ℕ) (fs ls : List ℕ) (a : ℕ) → length fs ≤ i → held_in (drop i fs) (drop i ls) a ≡ 0
unfolding held_in
ended i fs ls a h = ap (λ (l : List ℕ). held_in l (drop i ls) a) (drop_of_length-le fs {i = i} h)

pub loop-i-preserved : goal.loop-i-preserved
loop-i-preserved c =
    let s = c.args.self.now in
    let i = c.loop-i.i in
    let v = c.loop-i.invariant in
    let t = c.loop-i-test.true in
    let b = between (get_or s.firsts i 0) (get_or s.lasts i 0) c.args.address in
    let small = byte_small b in
    let e = byte_is b in
    let h = held_on s.firsts s.lasts c.args.address i (omega (arith, v.firsts)) (omega (arith, v.lasts)) in
    let w = v.counted in
    record {
      firsts = v.firsts;
      lasts = v.lasts;
      few = omega (arith, v.few);
      counted = subst (λ (n : ℕ). (c.loop-i.n + bool_byte b) + held_in (drop n s.firsts) (drop n s.lasts) c.args.address ≡ held_in s.firsts s.lasts c.args.address) (sym (add-one i)) (omega arith);
    }

pub returns : goal.returns
returns c =
    let s = c.args.self.now in
    let v = c.loop-i.invariant in
    let w = v.counted in
    let z = ended c.loop-i.i s.firsts s.lasts c.args.address (omega (arith, v.firsts, c.loop-i-test.false)) in
    omega arith
