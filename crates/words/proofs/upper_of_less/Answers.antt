-- `words::upper_of_less` meets its contract: one less is taken from the lowest word that is not 0.
-- Assumes nothing.
-- one less than the upper two words
use Rattle.std.proofs.Common.{◌≡◌, ℕ, ◌+◌, ◌-◌, ◌*◌, ◌^◌, ◌∙◌, arith}
use Rattle.words.proofs.Numbers.{less_some, less_none}
use Rattle.words.proofs.upper_of_less.Goals as goal

from_middle : (h m : ℕ) → (m ≡ 0 → ⊥) → h * 2 ^ 64 + (m - 1) ≡ h * 2 ^ 64 + m - 1
from_middle h m some = omega arith

from_high : (h m : ℕ) → m ≡ 0 → (h ≡ 0 → ⊥) → (h - 1) * 2 ^ 64 + (2 ^ 64 - 1) ≡ h * 2 ^ 64 + m - 1
from_high h m none some = omega arith

from_none : (h m : ℕ) → m ≡ 0 → h ≡ 0 → 0 ≡ h * 2 ^ 64 + m - 1
from_none h m none zero = omega arith

pub returns-then-by-n : goal.returns-then-by-n
returns-then-by-n c =
    let a = c.args in
    let n = a.n in
    less_some (n.high * 2 ^ 64 + n.middle) n.low a.by c.if-by-n.true (omega arith)

pub returns-then-n-ne0 : goal.returns-then-n-ne0
returns-then-n-ne0 c =
    let a = c.args in
    let n = a.n in
    from_middle n.high n.middle c.if-n-ne0.true ∙ less_none (n.high * 2 ^ 64 + n.middle) n.low a.by (let h = c.if-by-n.false in omega arith) (omega arith)

pub returns-then-n-ne0-2 : goal.returns-then-n-ne0-2
returns-then-n-ne0-2 c =
    let a = c.args in
    let n = a.n in
    from_high n.high n.middle c.if-n-ne0.false c.if-n-ne0-2.true ∙ less_none (n.high * 2 ^ 64 + n.middle) n.low a.by (let h = c.if-by-n.false in omega arith) (omega arith)

pub returns : goal.returns
returns c =
    let a = c.args in
    let n = a.n in
    from_none n.high n.middle c.if-n-ne0.false c.if-n-ne0-2.false ∙ less_none (n.high * 2 ^ 64 + n.middle) n.low a.by (let h = c.if-by-n.false in omega arith) (omega arith)
