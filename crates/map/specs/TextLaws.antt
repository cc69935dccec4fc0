-- Laws: a text read line by line, and what its map holds: the ranges that its lines spell (`text_is_spelled`, `spelled_is_text`).
-- Assumes nothing.
use Rattle.std.specs.Prelude.{Bool, true, false, cond, List, [], ◌∷◌, ◌++◌, ◌≡◌, refl, ℕ, ◌+◌, ◌-◌, ◌≤◌, ◌<◌, min, leb, length, take, drop, set, Option, None, Some, Result, Ok, Err}
use Rattle.std.proofs.Common.{append_assoc, append-nil, sym, ◌∙◌, subst, add-one, arith, length-set, take-suc-set}
use Rattle.std.proofs.Math.Path.{ap}
use Rattle.std.proofs.lemmas.List.{length-replicate}
use borrow.Author.Tests.{leb-false, lt-leb}
use Rattle.lines.specs.Lines.{lines_in, line_length}
use Rattle.lines.specs.LineLaws.{line_within, line_next, lines_end}
use Rattle.map.specs.declared.Range.{Range}
use Rattle.map.specs.declared.Map.{Map}
use Rattle.map.specs.declared.reading.Refused.{Refused}
use Rattle.map.specs.Map.{ranges_of}
use Rattle.map.specs.Meaning.{AllIn, none, and}
use Rattle.map.specs.Format.{spell_range, spell_ranges, InRange}
use Rattle.map.specs.Reading.{empty_map, no_range, added, wrong_next, with_range, with_line, range_of, read_on, read_from, read_of}
use Rattle.map.specs.ReadingLaws.{read_is_spelled, spelled_is_read}

-- ## Line by line

pub empty_few : (m : Map) → m ≡ empty_map → m.count ≤ 64
unfolding empty_map
empty_few m e = let z : m.count ≡ 0 = ap (λ (x : Map). x.count) e in omega arith

pub read_end : (m : Map) (s : List ℕ) (at : ℕ) → length s ≤ at → read_from m (lines_in true (drop at s)) ≡ Ok m
unfolding read_from
read_end m s at h = ap (read_from m) (lines_end true s at h)

module _ (m : Map) (s : List ℕ) (at end at' : ℕ) (some : at < length s) (end_is : end ≡ at + line_length (drop at s)) (at'-is : at' ≡ min (length s) (end + 1)) where
  lines_are : lines_in true (drop at s) ≡ take (end - at) (drop at s) ∷ lines_in true (drop at' s)
  lines_are =
      line_next true s at end some end_is (line_within s at end some end_is) refl
      ∙ ap (λ (x : ℕ). take (end - at) (drop at s) ∷ lines_in true (drop x s)) (sym at'-is)

  pub read_stop : (r : Refused) → Err r ≡ with_line m (take (end - at) (drop at s)) → read_from m (lines_in true (drop at s)) ≡ Err r
  unfolding read_from
  read_stop r e = ap (read_from m) lines_are ∙ simp (← e)

  pub read_on_lem : (n : Map) → Ok n ≡ with_line m (take (end - at) (drop at s)) → read_from m (lines_in true (drop at s)) ≡ read_from n (lines_in true (drop at' s))
  unfolding read_from
  read_on_lem n e = ap (read_from m) lines_are ∙ simp (← e)

-- what is known of a line that is read: the map was not full, and the line is a range's
pub record Taken (m : Map) (l : List ℕ) (next : Map) : Type 0 where
  pub range : Range
  pub few : m.count < 64
  pub is : range_of l ≡ Some range
  pub next_is : next ≡ added m range

pub err_is_not_ok : {A : Type 0} (r : Refused) (n : Map) → Err r ≡ Ok n → A
err_is_not_ok r n e = absurd (let z : ◌≡◌ {A = ℕ} 0 1 = cc in omega arith)

pub same_map : (m n : Map) → ◌≡◌ {A = Result Map Refused} (Ok m) (Ok n) → m ≡ n
same_map m n e = cc

pub line_taken : (m : Map) (l : List ℕ) (n : Map) → with_line m l ≡ Ok n → Taken m l n
unfolding with_line
line_taken m l n e = by (leb 64 m.count) refl (range_of l) refl e
  where
    by : (t : Bool) → leb 64 m.count ≡ t → (q : Option Range) → range_of l ≡ q → cond t (Err (wrong_next m)) (with_range m q) ≡ Ok n → Taken m l n
    by true f q g e = err_is_not_ok (wrong_next m) n e
    by false f None g e = err_is_not_ok (wrong_next m) n e
    by false f (Some r) g e = record { range = r; few = leb-false 64 m.count f; is = g; next_is = sym (same_map (added m r) n e) }

pub line_few : (m : Map) (l : List ℕ) (n : Map) → with_line m l ≡ Ok n → n.count ≤ 64
line_few m l n e =
    let t = line_taken m l n e in
    let c : n.count ≡ m.count + 1 = ap (λ (x : Map). x.count) t.next_is in
    let f = t.few in
    omega arith

-- ## Both ways

-- a map that was read so far
pub record Sized (m : Map) : Type 0 where
  pub long : length m.ranges ≡ 64
  pub few : m.count ≤ 64

pub empty_sized : Sized empty_map
unfolding empty_map
empty_sized = record { long = length-replicate {A = Range} 64 no_range; few = omega arith }

pub added_sized : (m : Map) (r : Range) → Sized m → m.count < 64 → Sized (added m r)
added_sized m r s h = record { long = length-set m.ranges m.count r ∙ s.long; few = omega arith }

added_ranges : (m : Map) (r : Range) → Sized m → m.count < 64 → ranges_of (added m r) ≡ ranges_of m ++ (r ∷ [])
added_ranges m r s h =
    ap (λ (n : ℕ). take n (set m.ranges m.count r)) (add-one m.count) ∙ take-suc-set m.ranges m.count r (omega (arith, s.long))

-- what reading lines gives
pub record Holds (m : Map) (ls : List (List ℕ)) (r : Map) : Type 0 where
  pub more : List Range
  pub spelled : ls ≡ spell_ranges more
  pub in_range : AllIn more
  pub holds : ranges_of r ≡ ranges_of m ++ more

told : (m : Map) (ls : List (List ℕ)) (r : Map) → Sized m → read_from m ls ≡ Ok r → Holds m ls r
unfolding read_from spell_ranges
told m [] r s e = subst (Holds m []) (same_map m r e) (record { more = []; spelled = refl; in_range = none; holds = sym (append-nil (ranges_of m)) })
told m (l ∷ ls) r s e = by (with_line m l) refl e (λ n. told n ls r)
  where
    by : (q : Result Map Refused) → with_line m l ≡ q → read_on q (λ n. read_from n ls) ≡ Ok r
        → ((n : Map) → Sized n → read_from n ls ≡ Ok r → Holds n ls r) → Holds m (l ∷ ls) r
    by (Err q) f e rest = err_is_not_ok q r e
    by (Ok n) f e rest =
        let t = line_taken m l n f in
        let q = read_is_spelled l t.range t.is in
        let h = rest n (subst Sized (sym t.next_is) (added_sized m t.range s t.few)) e in record {
          more = t.range ∷ h.more;
          spelled = ap (λ (x : List ℕ). x ∷ ls) q.0 ∙ ap (λ (x : List (List ℕ)). spell_range t.range ∷ x) h.spelled;
          in_range = and q.1 h.in_range;
          holds =
              h.holds ∙ ap (λ (x : Map). ranges_of x ++ h.more) t.next_is ∙ ap (λ (x : List Range). x ++ h.more) (added_ranges m t.range s t.few)
              ∙ append_assoc (ranges_of m) (t.range ∷ []) h.more;
        }

-- where a text is read, its lines spell ranges, at most 64, and the map holds them in their order
pub text_is_spelled : (text : List ℕ) (r : Map) → read_of text ≡ Ok r → Holds empty_map (lines_in true text) r
unfolding read_of
text_is_spelled text r e = told empty_map (lines_in true text) r empty_sized e

line_text_lem : (m : Map) (r : Range) → m.count < 64 → InRange r → with_line m (spell_range r) ≡ Ok (added m r)
unfolding with_line
line_text_lem m r h i = simp (lt-leb 64 m.count h, spelled_is_read r i)

text : (m : Map) (rs : List Range) → Sized m → m.count + length rs ≤ 64 → AllIn rs
    → (r : Map) × (read_from m (spell_ranges rs) ≡ Ok r) × (ranges_of r ≡ ranges_of m ++ rs)
unfolding read_from spell_ranges
text m [] s h none = (m, refl, sym (append-nil (ranges_of m)))
text m (r ∷ rs) s h (and i is) =
    let few : m.count < 64 = omega arith in
    let t = text (added m r) rs (added_sized m r s few) (omega arith) is in
    let e : read_from m (spell_ranges (r ∷ rs)) ≡ read_from (added m r) (spell_ranges rs) = simp (line_text_lem m r few i) in (
      t.0,
      e ∙ t.1,
      t.2 ∙ ap (λ (x : List Range). x ++ rs) (added_ranges m r s few) ∙ append_assoc (ranges_of m) (r ∷ []) rs,
    )

-- a text whose lines spell at most 64 ranges is read, and the map holds them in their order
pub spelled_is_text : (s : List ℕ) (rs : List Range) → lines_in true s ≡ spell_ranges rs → length rs ≤ 64 → AllIn rs
    → (r : Map) × (read_of s ≡ Ok r) × (ranges_of r ≡ rs)
unfolding read_of empty_map
spelled_is_text s rs e h i =
    let t = text empty_map rs empty_sized (omega arith) i in
    (t.0, ap (read_from empty_map) e ∙ t.1, t.2)
