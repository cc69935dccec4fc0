-- Laws: the ranges of words, place by place.
-- Assumes nothing.
use Rattle.std.specs.Prelude.{List, ◌≡◌, refl, ℕ, zero, suc, ◌+◌, ◌≤◌, ◌<◌, length, get_or, set}
use Rattle.std.proofs.Common.{⊎_elim, sym, ap, ◌∙◌, arith, length-set, get_or-set_same, get_or-set_other, ext_get_or}
use Rattle.lines.specs.NumberLaws.{below_or_not}
use Rattle.map.specs.declared.Range.{Range}
use Rattle.map_calls.specs.Made.{range_of_word, made_from}

made_long : (words : List ℕ) (i n : ℕ) → length (made_from words i n) ≡ n
unfolding made_from
made_long words i zero = refl
made_long words i (suc n) = ap suc (made_long words (suc i) n)

made_at : (words : List ℕ) (i n j : ℕ) (d : Range) → j < n → get_or (made_from words i n) j d ≡ range_of_word (get_or words (i + j) 0)
unfolding made_from
made_at words i zero j d h = absurd (omega arith)
made_at words i (suc n) zero d h = ap (λ (k : ℕ). range_of_word (get_or words k 0)) (let e : i ≡ i + 0 = omega arith in e)
made_at words i (suc n) (suc j) d h = made_at words (suc i) n j d (omega arith) ∙ ap (λ (k : ℕ). range_of_word (get_or words k 0)) (let e : suc i + j ≡ i + suc j = omega arith in e)

-- so many of the ranges are made
pub record Making (words : List ℕ) (d : Range) (rs : List Range) (i : ℕ) : Type 0 where
  pub long : length rs ≡ 64
  pub made : (j : ℕ) → j < i → get_or rs j d ≡ range_of_word (get_or words j 0)

pub making_none : (words : List ℕ) (d : Range) (rs : List Range) → length rs ≡ 64 → Making words d rs 0
making_none words d rs e = record { long = e; made = λ j h. absurd (omega arith) }

module _ {words : List ℕ} {d : Range} {rs : List Range} {i : ℕ} (g : Making words d rs i) where
  pub making_on : (r : Range) → i < 64 → r ≡ range_of_word (get_or words i 0) → Making words d (set rs i r) (i + 1)
  making_on r h e = record {
    long = length-set rs i r ∙ g.long;
    made = λ j k. ⊎_elim
        (λ (l : j < i). get_or-set_other rs i j r d (λ z. omega arith) ∙ g.made j l)
        (λ (l : i ≤ j). let s : j ≡ i = omega arith in ap (λ (n : ℕ). get_or (set rs i r) n d) s ∙ get_or-set_same rs i r d (omega (arith, g.long)) ∙ e ∙ ap (λ (n : ℕ). range_of_word (get_or words n 0)) (sym s))
        (below_or_not j i);
  }

  pub making_all : 64 ≤ i → rs ≡ made_from words 0 64
  making_all h = ext_get_or d rs (made_from words 0 64) (g.long ∙ sym (made_long words 0 64))
      (λ j k. let l = g.long in g.made j (omega arith) ∙ ap (λ (n : ℕ). range_of_word (get_or words n 0)) (let e : j ≡ 0 + j = omega arith in e) ∙ sym (made_at words 0 64 j d (omega arith)))
