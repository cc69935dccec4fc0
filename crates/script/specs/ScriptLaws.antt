-- Laws: the reading definition accepts exactly the script lines that `spell_line` writes, each as its unit's call (`spelled_is_read`,
-- `read_is_spelled`).
-- Assumes nothing.
use Rattle.std.specs.Prelude.{ℕ, ◌≤◌, ◌<◌, Bool, true, false, cond, not, ◌&&◌, List, [], ◌∷◌, ◌++◌, ◌≡◌, refl, ltb, eqb, length, drop, Option, None, Some, option_and_then}
use Rattle.std.proofs.Common.{⊎_elim, sym, ap, ◌∙◌, subst, arith, length-append, drop_at, le-ltb, lt-ltb, ltb-true, eqb-true}
use Rattle.std.proofs.lemmas.Option.{none-some, option_and_then_some}
use Rattle.time.specs.declared.Time.{Time}
use Rattle.lines.specs.declared.Verb.{Verb}
use Rattle.lines.specs.declared.Call.{Call}
use Rattle.lines.specs.Numbers.{glyph}
use Rattle.lines.specs.Format.{tab, time_text, spell_verb, TimeInRange, VerbInRange}
use Rattle.lines.specs.NumberLaws.{some_is, both, chosen, digit_glyph, glyph_digit}
use Rattle.lines.specs.Reading.{digit_of, timed_of, verb_of}
use Rattle.lines.specs.ReadingLaws.{timed_told, timed_text, time_length, verb_told, verb_text, verb_length}
use Rattle.script.specs.Script.{LineInRange, called_of, is_scripted, line_of, spell_line}

-- ## What is read is spelled

-- a list spells a unit and the verb of its call, which has that time
record Spells (t : Time) (l : List ℕ) (u : ℕ) (c : Call) : Type 0 where
  text : l ≡ glyph u ∷ tab ∷ spell_verb c.verb
  time : t ≡ c.time
  unit : u < 10
  operands : VerbInRange c.verb
  verb : is_scripted c.verb ≡ true

-- the call of a unit with that time and verb, where a script may have the verb
abbrev with_verb : ℕ → Time → Verb → Option (ℕ × Call)
with_verb u t v = cond (is_scripted v) (Some (u, record { time = t; verb = v })) None

called_told : (t : Time) (l : List ℕ) (u : ℕ) (c : Call) → called_of t l ≡ Some (u, c) → Spells t l u c
unfolding called_of
called_told t [] u c e = absurd (none-some (u, c) e)
called_told t (x ∷ []) u c e = absurd (none-some (u, c) e)
called_told t (x ∷ y ∷ ys) u c e =
    ⊎_elim (λ a. absurd (none-some (u, c) a.1)) (λ a. found (both (ltb (digit_of x) 10) (eqb y 9) (affirmed (ltb (digit_of x) 10 && eqb y 9) a.0)) a.1)
    (chosen (not (ltb (digit_of x) 10 && eqb y 9)) None whole (Some (u, c))
    (sym (ap (λ (b : Bool). cond b None (cond (not (ltb (digit_of x) 10 && eqb y 9)) None whole)) (le-ltb (length (x ∷ y ∷ ys)) 2 (omega arith))) ∙ e))
  where
    whole : Option (ℕ × Call)
    whole = option_and_then (with_verb (digit_of x) t) (verb_of ys)

    affirmed : (b : Bool) → not b ≡ false → b ≡ true
    affirmed true h = refl
    affirmed false h = sym h

    spelt : ltb (digit_of x) 10 ≡ true → eqb y 9 ≡ true → (w : Verb) → verb_of ys ≡ Some w → is_scripted w ≡ true → Spells t (x ∷ y ∷ ys) (digit_of x) (record { time = t; verb = w })
    spelt d y9 w e h =
        let small : digit_of x < 10 = ltb-true (digit_of x) 10 d in
        let told = verb_told ys w e in
        record {
          text = ap (λ (z : ℕ). z ∷ y ∷ ys) (sym (glyph_digit x (omega arith)))
              ∙ ap (λ (z : ℕ). glyph (digit_of x) ∷ z ∷ ys) (eqb-true y 9 y9)
              ∙ ap (λ (z : List ℕ). glyph (digit_of x) ∷ tab ∷ z) told.0;
          time = refl;
          unit = small;
          operands = told.1;
          verb = h;
        }

    found : ((ltb (digit_of x) 10 ≡ true) × (eqb y 9 ≡ true)) → whole ≡ Some (u, c) → Spells t (x ∷ y ∷ ys) u c
    found b e =
        option_and_then_some (with_verb (digit_of x) t) (verb_of ys) (u, c) e (λ w read called.
        ⊎_elim
        (λ a. subst (λ (s : ℕ × Call). Spells t (x ∷ y ∷ ys) s.0 s.1) (some_is (digit_of x, record { time = t; verb = w }) (u, c) a.1) (spelt b.0 b.1 w read a.0))
        (λ a. absurd (none-some (u, c) a.1))
        (chosen (is_scripted w) (Some (digit_of x, record { time = t; verb = w })) None (Some (u, c)) called))

pub read_is_spelled : (l : List ℕ) (u : ℕ) (c : Call) → line_of l ≡ Some (u, c) → (l ≡ spell_line u c) × LineInRange u c
unfolding line_of
read_is_spelled l u c e =
    option_and_then_some (λ t. called_of t.0 (drop t.1 l)) (timed_of l) (u, c) e (λ p timed rest.
    let told = timed_told l p.0 p.1 timed in
    let called = called_told p.0 (drop p.1 l) u c rest in (
      told.text ∙ ap (λ (x : List ℕ). time_text p.0 ++ x) called.text ∙ ap (λ (t : Time). time_text t ++ (glyph u ∷ tab ∷ spell_verb c.verb)) called.time,
      record {
        unit = called.unit;
        call = record { time = subst TimeInRange called.time told.range; verb = called.operands };
        verb = called.verb;
      },
    ))

-- ## What is spelled is read

pub spelled_is_read : (u : ℕ) (c : Call) → LineInRange u c → line_of (spell_line u c) ≡ Some (u, c)
unfolding line_of called_of
spelled_is_read u c r =
    let x = time_text c.time in
    let v = glyph u ∷ tab ∷ spell_verb c.verb in
    let short : length (x ++ v) ≤ 64 = omega (arith, length-append x v, time_length c.time, verb_length c.verb) in
    let small : u < 10 = r.unit in
    ap (option_and_then (λ t. called_of t.0 (drop t.1 (x ++ v)))) (timed_text c.time r.call.time v short)
    ∙ ap (called_of c.time) (drop_at x v (length x) refl)
    ∙ simp (le-ltb (length v) 2 (omega arith), digit_glyph u (omega arith), lt-ltb u 10 small, verb_text c.verb r.call.verb, r.verb)
