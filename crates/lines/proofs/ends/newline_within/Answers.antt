-- `lines::ends::newline_within` meets its contract: the line ends within the bytes that were looked at, or it doesn't.
-- Assumes nothing.
use Rattle.std.proofs.Common.{arith, ◌≡◌, sym, ap, ◌∙◌, Bool, ◌||◌, ℕ, ◌+◌, ◌-◌, ◌≤◌, ◌<◌, List, length, get_or, take, drop, ltb, eqb, le-ltb, length-drop}
use Rattle.std.proofs.lemmas.List.{get_or-take, get_or-drop, length-take}
use Rattle.lines.specs.Lines.{line_length}
use Rattle.lines.proofs.Scans.{ends_by}
use Rattle.lines.proofs.ends.newline_within.Goals as goal

-- a byte more of the 16 from a place on
more : (s : List ℕ) (at i : ℕ) (found : Bool) → at + 16 ≤ length s → i < length (take (at + 16 - at) (drop at s)) → found ≡ ltb (line_length (drop at s)) i
    → (found || eqb (get_or (take (at + 16 - at) (drop at s)) i 0) 10) ≡ ltb (line_length (drop at s)) (i + 1)
more s at i found long h e =
    let few : i < at + 16 - at = omega (arith, h, length-take (at + 16 - at) (drop at s)) in
    ap (λ (b : ℕ). found || eqb b 10) (get_or-take (at + 16 - at) (drop at s) i 0 few ∙ get_or-drop at s i 0)
    ∙ ap (λ (t : Bool). t || eqb (get_or s (at + i) 0) 10) e
    ∙ ends_by s at i (omega (arith, few))

pub loop-b-init : goal.loop-b-init
loop-b-init c = let a = c.args in sym (le-ltb (line_length (drop a.at a.s.now)) 0 (omega arith))

pub loop-b-preserved : goal.loop-b-preserved
loop-b-preserved c = let l = c.loop-b in more c.args.s.now c.args.at l.b-index l.found c.requires c.loop-b-test.true l.invariant

pub returns : goal.returns
returns c =
    let l = c.loop-b in
    let a = c.args in
    l.invariant ∙ ap (ltb (line_length (drop a.at a.s.now))) (sixteen a.s.now a.at l.b-index c.requires l.auto.b-index-end c.loop-b-test.false)
  where
    sixteen : (s : List ℕ) (at i : ℕ) → at + 16 ≤ length s → i ≤ length (take (at + 16 - at) (drop at s)) → length (take (at + 16 - at) (drop at s)) ≤ i → i ≡ 16
    sixteen s at i long h k = omega (arith, h, k, length-take (at + 16 - at) (drop at s), length-drop at s)
