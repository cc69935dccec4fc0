-- Laws: on bits of a byte that a mask leaves. Assumes nothing.
use Rattle.std.specs.Prelude.{ℕ, zero, suc, ◌+◌, ◌*◌, ◌%◌, ◌/◌, ◌≤◌, min, not, ◌≡◌, eqb}
use Rattle.std.proofs.Common.{sym, ◌∙◌, ap, ap₂, le_refl, arith}
use Rattle.std.specs.Int.Bits.{bit_and, and_step, and_zero_l}
use Rattle.bus.specs.Bits.{has}

pub half_and : (a b : ℕ) → bit_and a b / 2 ≡ bit_and (a / 2) (b / 2)
half_and a b = omega (arith, and_step a b)

pub odd_and : (a b : ℕ) → bit_and a b % 2 ≡ min (a % 2) (b % 2)
odd_and a b = omega (arith, and_step a b)

min_assoc : (a b c : ℕ) → min (min a b) c ≡ min a (min b c)
min_assoc a b c = omega arith

and_assoc_at : (k x y z : ℕ) → x ≤ k → bit_and (bit_and x y) z ≡ bit_and x (bit_and y z)
and_assoc_at zero x y z h =
    let e : x ≡ 0 = omega arith in
    rw (e, and_zero_l y, and_zero_l z, and_zero_l (bit_and y z))
and_assoc_at (suc k) x y z h =
    and_step (bit_and x y) z
    ∙ ap₂ (λ (m n : ℕ). m * 2 + n)
    (ap (λ (m : ℕ). bit_and m (z / 2)) (half_and x y)
    ∙ and_assoc_at k (x / 2) (y / 2) (z / 2) (omega arith)
    ∙ ap (λ (m : ℕ). bit_and (x / 2) m) (sym (half_and y z)))
    (ap (λ (m : ℕ). min m (z % 2)) (odd_and x y)
    ∙ min_assoc (x % 2) (y % 2) (z % 2)
    ∙ ap (λ (m : ℕ). min (x % 2) m) (sym (odd_and y z)))
    ∙ sym (and_step x (bit_and y z))

-- the bit n stays where the mask m keeps it
pub has_kept : (m n x : ℕ) → bit_and m n ≡ n → has (bit_and x m) n ≡ has x n
has_kept m n x e =
    ap (λ (v : ℕ). not (eqb v 0)) (and_assoc_at x x m n (le_refl x) ∙ ap (λ (v : ℕ). bit_and x v) e)
