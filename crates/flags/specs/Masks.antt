-- Laws: a flag of a byte that was masked, joined with another or turned round; the mode within its mask. Assumes nothing.
use Rattle.std.specs.Prelude.{ℕ, zero, suc, ◌-◌, ◌*◌, ◌/◌, ◌%◌, ◌≤◌, ◌<◌, ◌^◌, min, max, Bool, true, false, not, ◌&&◌, ◌||◌, ◌≡◌, refl, eqb, leb}
use Rattle.std.proofs.lemmas.Bool.{false≢true, not-false, not-true}
use Rattle.std.proofs.Common.{sym, ◌∙◌, ap, ap₂, arith, eq-eqb, leb-false, leb-true, ne_eqb}
use Rattle.std.specs.Int.{bit_at}
use Rattle.std.specs.Int.Bits.{bit_and, bit_or}
use Rattle.std.proofs.lemmas.Nat.Bits.{and_high, and_pow, bit_at-lt, bit_at_and, bit_at_not, bit_at_or}
use Rattle.std.proofs.lemmas.Nat.{and_le_r, and_mask, pow_pos}
use mir.Syntax.{w8}
use Rattle.bus.specs.Bits.{has, without}
use Rattle.time.specs.Truths.{and_left, and_right}
use Rattle.flags.specs.StatusWrites.{Flag, tdre, tend, rdrf, nackf, stop, al, aas, adz, is_set, mask_of}

-- ## Flags

-- a bit is 0 or 1
truth : (d p : ℕ) → d < 2 → 0 < p → not (eqb (d * p) 0) ≡ eqb d 1
truth zero p l h = ap not (eq-eqb (0 * p) 0 (omega arith))
truth (suc zero) p l h = ap not (ne_eqb (1 * p) 0 (λ e. omega arith))
truth (suc (suc d)) p l h = absurd (omega arith)

both : (d e : ℕ) → d < 2 → e < 2 → eqb (min d e) 1 ≡ (eqb d 1 && eqb e 1)
both zero zero l h = refl
both zero (suc zero) l h = refl
both (suc zero) zero l h = refl
both (suc zero) (suc zero) l h = refl
both (suc (suc d)) e l h = absurd (omega arith)
both zero (suc (suc e)) l h = absurd (omega arith)
both (suc zero) (suc (suc e)) l h = absurd (omega arith)

either : (d e : ℕ) → d < 2 → e < 2 → eqb (max d e) 1 ≡ (eqb d 1 || eqb e 1)
either zero zero l h = refl
either zero (suc zero) l h = refl
either (suc zero) zero l h = refl
either (suc zero) (suc zero) l h = refl
either (suc (suc d)) e l h = absurd (omega arith)
either zero (suc (suc e)) l h = absurd (omega arith)
either (suc zero) (suc (suc e)) l h = absurd (omega arith)

neither : (d : ℕ) → d < 2 → eqb (1 - d) 1 ≡ not (eqb d 1)
neither zero l = refl
neither (suc zero) l = refl
neither (suc (suc d)) l = absurd (omega arith)

-- the place of a flag's bit
abbrev place : Flag → ℕ
place tdre = 7
place tend = 6
place rdrf = 5
place nackf = 4
place stop = 3
place al = 2
place aas = 1
place adz = 0

placed : (f : Flag) → mask_of f ≡ 2 ^ place f
placed tdre = refl
placed tend = refl
placed rdrf = refl
placed nackf = refl
placed stop = refl
placed al = refl
placed aas = refl
placed adz = refl

in_byte : (f : Flag) → place f < 8
in_byte tdre = omega arith
in_byte tend = omega arith
in_byte rdrf = omega arith
in_byte nackf = omega arith
in_byte stop = omega arith
in_byte al = omega arith
in_byte aas = omega arith
in_byte adz = omega arith

flag_bit : (f : Flag) (x : ℕ) → is_set f x ≡ eqb (bit_at x (place f)) 1
flag_bit f x =
    ap (λ (m : ℕ). has x m) (placed f) ∙ ap (λ (v : ℕ). not (eqb v 0)) (and_pow x (place f))
    ∙ truth (bit_at x (place f)) (2 ^ place f) (bit_at-lt x (place f)) (pow_pos (place f))

set_and : (f : Flag) (a b : ℕ) → is_set f (bit_and a b) ≡ (is_set f a && is_set f b)
set_and f a b =
    flag_bit f (bit_and a b) ∙ ap (λ (d : ℕ). eqb d 1) (bit_at_and a b (place f))
    ∙ both (bit_at a (place f)) (bit_at b (place f)) (bit_at-lt a (place f)) (bit_at-lt b (place f))
    ∙ sym (ap₂ ◌&&◌ (flag_bit f a) (flag_bit f b))

pub set_or : (f : Flag) (a b : ℕ) → is_set f (bit_or a b) ≡ (is_set f a || is_set f b)
set_or f a b =
    flag_bit f (bit_or a b) ∙ ap (λ (d : ℕ). eqb d 1) (bit_at_or a b (place f))
    ∙ either (bit_at a (place f)) (bit_at b (place f)) (bit_at-lt a (place f)) (bit_at-lt b (place f))
    ∙ sym (ap₂ ◌||◌ (flag_bit f a) (flag_bit f b))

-- of a byte
set_not : (f : Flag) (x : ℕ) → x ≤ 0xff → is_set f (0xff - x) ≡ not (is_set f x)
set_not f x h =
    flag_bit f (0xff - x) ∙ ap (λ (d : ℕ). eqb d 1) (bit_at_not w8 x (place f) (omega arith) (in_byte f))
    ∙ neither (bit_at x (place f)) (bit_at-lt x (place f)) ∙ sym (ap not (flag_bit f x))

-- ## A status write

-- by what a test says
pub decide : {A : Type 0} (b : Bool) → (b ≡ true → A) → (b ≡ false → A) → A
decide true f g = f refl
decide false f g = g refl

pub masked_set : (f : Flag) (a b : ℕ) → is_set f (bit_and a b) ≡ true → is_set f a ≡ true
masked_set f a b h = and_left (is_set f a) (is_set f b) (sym (set_and f a b) ∙ h)

-- a flag that is missing stays so
pub masked_missing : (f : Flag) (a b : ℕ) → is_set f a ≡ false → is_set f (bit_and a b) ≡ false
masked_missing f a b h = set_and f a b ∙ ap (λ (t : Bool). t && is_set f b) h

-- turned round, of any number: above a byte nothing is set
turned_set : (f : Flag) (x : ℕ) → is_set f (0xff - x) ≡ true → is_set f x ≡ false
turned_set f x h =
    decide (leb x 0xff)
    (λ e. not-true (is_set f x) (sym (set_not f x (leb-true x 0xff e)) ∙ h))
    (λ e. let l : 0xff < x = leb-false x 0xff e in
    let z : 0xff - x ≡ 0 = omega arith in
    absurd (false≢true (sym (ap (λ (v : ℕ). is_set f v) z) ∙ h)))

-- what is taken out of the status is in `seen` and written 0
pub taken_out : (f : Flag) (status seen value : ℕ) → is_set f status ≡ true → is_set f (without status (without seen value)) ≡ false
    → (is_set f seen ≡ true) × (is_set f value ≡ false)
taken_out f status seen value h g =
    let m : ℕ = without seen value in
    let small : m ≤ 0xff = omega (arith, and_le_r seen (0xff - value)) in
    let kept : is_set f (0xff - m) ≡ false = sym (ap (λ (t : Bool). t && is_set f (0xff - m)) h) ∙ sym (set_and f status (0xff - m)) ∙ g in
    let out : is_set f m ≡ true = not-false (is_set f m) (sym (set_not f m small) ∙ kept) in
    let each : (is_set f seen && is_set f (0xff - value)) ≡ true = sym (set_and f seen (0xff - value)) ∙ out in
    (and_left (is_set f seen) (is_set f (0xff - value)) each, turned_set f value (and_right (is_set f seen) (is_set f (0xff - value)) each))

-- ## The mode

high_two : (v : ℕ) → bit_and v 0xc0 ≡ v / 64 % 4 * 64
high_two v = and_high v 2 6

pub masked_mode : (v : ℕ) → bit_and (bit_and v 0xc0) 0xc0 ≡ bit_and v 0xc0
masked_mode v = omega (arith, high_two v, high_two (bit_and v 0xc0))

pub no_other_bits : (v : ℕ) → bit_and v 0xc0 ≡ v → bit_and v 0x3f ≡ 0
no_other_bits v h = omega (arith, h, high_two v, and_mask v 6)

-- and the other way, of a byte
pub only_these_bits : (v : ℕ) → v < 256 → bit_and v 0x3f ≡ 0 → bit_and v 0xc0 ≡ v
only_these_bits v small h = omega (arith, small, h, high_two v, and_mask v 6)
