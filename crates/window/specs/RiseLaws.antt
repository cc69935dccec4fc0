-- Laws: a flag rose where the status after, less the bits of the status before, isn't 0. Assumes nothing.
use Rattle.std.specs.Prelude.{◌≡◌, Bool, true, false, not, ◌&&◌, ◌||◌, cond, ℕ, zero, suc, ◌+◌, ◌-◌, ◌*◌, ◌/◌, ◌%◌, ◌^◌, ◌<◌, min, eqb}
use Rattle.std.proofs.Common.{sym, ap, ◌∙◌, ⊎_elim, eq-zero-or-pos, pow-suc, arith, eq-eqb, ne_eqb}
use mir.Val.{bool_byte}
use Rattle.std.specs.Int.Bits.{bit_and, and_step}
use Rattle.window.specs.Lines.{rises_in, rise_of}

-- twice a number is 0 where the number is
doubled : (x : ℕ) → eqb (x * 2 + 0) 0 ≡ eqb x 0
doubled x =
    ⊎_elim
    (λ z. eq-eqb (x * 2 + 0) 0 (omega arith) ∙ sym (eq-eqb x 0 z))
    (λ p. ne_eqb (x * 2 + 0) 0 (λ z. omega arith) ∙ sym (ne_eqb x 0 (λ z. omega arith)))
    (eq-zero-or-pos x)

-- one bit more, u before and v after, below those that are 0 unless t
one_more : (u v x : ℕ) (t : Bool) → u < 2 → v < 2 → eqb x 0 ≡ not t → eqb (x * 2 + min v (1 - u)) 0 ≡ not ((eqb u 0 && eqb v 1) || t)
one_more zero zero x t hu hv e = doubled x ∙ e
one_more zero (suc zero) x t hu hv e = ne_eqb (x * 2 + 1) 0 (λ z. omega arith)
one_more (suc zero) zero x t hu hv e = doubled x ∙ e
one_more (suc zero) (suc zero) x t hu hv e = doubled x ∙ e
one_more zero (suc (suc v)) x t hu hv e = absurd (omega arith)
one_more (suc zero) (suc (suc v)) x t hu hv e = absurd (omega arith)
one_more (suc (suc u)) v x t hu hv e = absurd (omega arith)

-- of n bits
by_mask : (n b a : ℕ) → b < 2 ^ n → a < 2 ^ n → eqb (bit_and a (2 ^ n - 1 - b)) 0 ≡ not (rises_in n b a)
unfolding rises_in
by_mask zero b a hb ha = let z : a ≡ 0 = omega arith in ap (λ (x : ℕ). eqb (bit_and x (0 - b)) 0) z
by_mask (suc n) b a hb ha =
    let p : 2 ^ suc n ≡ 2 ^ n * 2 = pow-suc 2 n in
    let half : (2 ^ suc n - 1 - b) / 2 ≡ 2 ^ n - 1 - b / 2 = omega arith in
    let low : (2 ^ suc n - 1 - b) % 2 ≡ 1 - b % 2 = omega arith in
    ap (λ (x : ℕ). eqb x 0) (and_step a (2 ^ suc n - 1 - b))
    ∙ rw (half, low) (one_more (b % 2) (a % 2) (bit_and (a / 2) (2 ^ n - 1 - b / 2)) (rises_in n (b / 2) (a / 2)) (omega arith) (omega arith) (by_mask n (b / 2) (a / 2) (omega arith) (omega arith)))

pub rise_by_mask : (b a : ℕ) → b < 256 → a < 256 → bool_byte (not (eqb (bit_and a (255 - b)) 0)) ≡ rise_of b a
rise_by_mask b a hb ha = by (eqb (bit_and a (255 - b)) 0) (rises_in 8 b a) (by_mask 8 b a hb ha)
  where
    by : (s t : Bool) → s ≡ not t → bool_byte (not s) ≡ cond t 1 0
    by s true e = ap (λ (x : Bool). bool_byte (not x)) e
    by s false e = ap (λ (x : Bool). bool_byte (not x)) e
