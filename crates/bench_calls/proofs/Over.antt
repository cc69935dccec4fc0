-- Laws of `HandedBack`. Assumes nothing.
use Prim.Native.Nat.{◌<◌, ℕ}
use Rattle.lines.specs.ListLaws.{within}
use Rattle.bench.specs.Bench.{Run, over, summary_of}
use Rattle.bench.specs.declared.Summary.{Summary}
use Rattle.bench_calls.specs.Over.{HandedBack, Registered}
use Rattle.calls.specs.States.{Begins, register_words}
use Rattle.iic.specs.State.{default_iic}
use Rattle.iic.specs.declared.Iic.{Iic}
use lib.Dec.{lit<}
use lib.ListN.{get_or, length}
use mathlib.Core.List.{List, [], ◌∷◌}
use mathlib.Core.Path.{◌≡◌, ◌∙◌, ap, subst}
use native.Mathlib.Omega.{arith}
use Rattle.refusals.specs.Refusals.{number_ended}

module _ (s : Summary) (b : Run) (ended : s ≡ summary_of b) (four : length s.states ≡ 4) where
  -- a state's words, whatever stands for a state that there isn't
  registered : (u : ℕ) (d : Iic) (words : List ℕ) → u < 4 → Begins (register_words (get_or s.states u d).registers) words → Registered b u words
  registered u d words h g =
      subst
      (λ (i : Iic). Begins (register_words i.registers) words)
      (within s.states u d default_iic (omega arith) ∙ ap (λ (x : Summary). get_or x.states u default_iic) ended)
      g

  pub handed_back :
      (d : Iic) (before after first second third fourth : List ℕ) →
      after ≡ over b before →
      Begins (register_words (get_or s.states 0 d).registers) first →
      Begins (register_words (get_or s.states 1 d).registers) second →
      Begins (register_words (get_or s.states 2 d).registers) third →
      Begins (register_words (get_or s.states 3 d).registers) fourth →
      HandedBack b (number_ended s.ended) before after (s.written ∷ s.lines ∷ []) first second third fourth
  handed_back d before after first second third fourth text g0 g1 g2 g3 = record {
    refusal = ap (λ (x : Summary). number_ended x.ended) ended;
    text = text;
    done = ap (λ (x : Summary). x.written ∷ x.lines ∷ []) ended;
    unit0 = registered 0 d first (lit< tt) g0;
    unit1 = registered 1 d second (lit< tt) g1;
    unit2 = registered 2 d third (lit< tt) g2;
    unit3 = registered 3 d fourth (lit< tt) g3;
  }
