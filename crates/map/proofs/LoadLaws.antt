-- Laws: a text is accepted exactly if its lines spell at most 64 ranges in which each address lies once (`accepted_text`, `text_accepted`); its map has
-- at most 64 lines, refused or not (`loaded_few`, `refused_few`).
-- Assumes nothing.
use Rattle.std.specs.Prelude.{Bool, true, false, cond, List, [], ◌∷◌, ◌≡◌, refl, ℕ, suc, ◌≤◌, min, leb, length, ⊤, Option, None, Some, Result, Ok, Err}
use Rattle.std.proofs.Common.{sym, ap, ◌∙◌, subst, arith, length-take}
use borrow.Author.Tests.{leb-false}
use Rattle.lines.specs.Lines.{lines_in}
use Rattle.map.specs.declared.Range.{Range}
use Rattle.map.specs.declared.Map.{Map}
use Rattle.map.specs.declared.Fault.{Fault}
use Rattle.map.specs.declared.reading.Refused.{Refused}
use Rattle.map.specs.Map.{check_of, ranges_of, wrong_from, wrong_of}
use Rattle.map.specs.Format.{spell_ranges}
use Rattle.map.specs.Meaning.{InOne, AllIn, none, and, Fits}
use Rattle.map.proofs.MapLaws.{wrong_clear}
use Rattle.map.proofs.AcceptLaws.{accepted_each, each_accepted}
use Rattle.map.specs.Reading.{empty_map, wrong_next, with_range, with_line, range_of, read_on, read_from, read_of, if_fine, load_of}
use Rattle.map.specs.TextLaws.{Sized, added_sized, empty_sized, line_taken, err_is_not_ok, same_map, text_is_spelled, spelled_is_text}

-- ## Maps that are read

read_sized : (m : Map) (ls : List (List ℕ)) (r : Map) → Sized m → read_from m ls ≡ Ok r → Sized r
unfolding read_from
read_sized m [] r s e = subst Sized (same_map m r e) s
read_sized m (l ∷ ls) r s e = by (with_line m l) refl e (λ n. read_sized n ls r)
  where
    by : (q : Result Map Refused) → with_line m l ≡ q → read_on q (λ n. read_from n ls) ≡ Ok r → ((n : Map) → Sized n → read_from n ls ≡ Ok r → Sized r) → Sized r
    by (Err q) f e rest = err_is_not_ok q r e
    by (Ok n) f e rest = let t = line_taken m l n f in rest n (subst Sized (sym t.next_is) (added_sized m t.range s t.few)) e

text_few : (s : List ℕ) (r : Map) → read_of s ≡ Ok r → r.count ≤ 64
unfolding read_of
text_few s r e = (read_sized empty_map (lines_in true s) r empty_sized e).few

-- the map of what is answered, of a text that is refused too: `Refused` has it
abbrev map_in : Result Map Refused → Map
map_in (Ok m) = m
map_in (Err r) = r.map

line_sized : (m : Map) (l : List ℕ) → Sized m → Sized (map_in (with_line m l))
unfolding with_line
line_sized m l s = by (leb 64 m.count) refl (range_of l)
  where
    by : (t : Bool) → leb 64 m.count ≡ t → (q : Option Range) → Sized (map_in (cond t (Err (wrong_next m)) (with_range m q)))
    by true e q = s
    by false e None = s
    by false e (Some r) = added_sized m r s (leb-false 64 m.count e)

any_sized : (m : Map) (ls : List (List ℕ)) → Sized m → Sized (map_in (read_from m ls))
unfolding read_from
any_sized m [] s = s
any_sized m (l ∷ ls) s = by (with_line m l) (line_sized m l s) (λ n. any_sized n ls)
  where
    by : (q : Result Map Refused) → Sized (map_in q) → ((n : Map) → Sized n → Sized (map_in (read_from n ls))) → Sized (map_in (read_on q (λ n. read_from n ls)))
    by (Err r) x rest = x
    by (Ok n) x rest = rest n x

any_few : (s : List ℕ) → (map_in (read_of s)).count ≤ 64
unfolding read_of
any_few s = (any_sized empty_map (lines_in true s) empty_sized).few

-- a map has at most 64 lines beside a refusal, too
pub loaded_few : (s : List ℕ) → (map_in (load_of s)).count ≤ 64
unfolding load_of
loaded_few s = by (read_of s) (any_few s)
  where
    fine : (m : Map) (c : Result ⊤ Fault) → m.count ≤ 64 → (map_in (if_fine m c)).count ≤ 64
    fine m (Ok _) h = h
    fine m (Err f) h = h

    by : (q : Result Map Refused) → (map_in q).count ≤ 64 → (map_in (read_on q (λ m. if_fine m (check_of m)))).count ≤ 64
    by (Err r) h = h
    by (Ok m) h = fine m (check_of m) h

pub refused_few : (s : List ℕ) (r : Refused) → load_of s ≡ Err r → r.map.count ≤ 64
refused_few s r e = subst (λ (q : Result Map Refused). (map_in q).count ≤ 64) e (loaded_few s)

all_sound : (n : ℕ) (rs : List Range) → AllIn rs → wrong_from n rs ≡ None
unfolding wrong_from
all_sound n [] none = refl
all_sound n (r ∷ rs) (and i is) = simp i.sound (all_sound (suc n) rs is)

-- ## Texts

both_fine : (q : Result Map Refused) (m : Map) → read_on q (λ r. if_fine r (check_of r)) ≡ Ok m → (q ≡ Ok m) × (check_of m ≡ Ok tt)
both_fine (Err r) m e = err_is_not_ok r m e
both_fine (Ok n) m e = by (check_of n) refl e
  where
    by : (c : Result ⊤ Fault) → check_of n ≡ c → if_fine n c ≡ Ok m → (◌≡◌ {A = Result Map Refused} (Ok n) (Ok m)) × (check_of m ≡ Ok tt)
    by (Ok _) f e = (e, ap check_of (sym (same_map n m e)) ∙ f)
    by (Err x) f e = err_is_not_ok (record { fault = x; map = n }) m e

pub accepted_text : (s : List ℕ) (m : Map) → load_of s ≡ Ok m → Fits s (ranges_of m)
unfolding load_of empty_map
accepted_text s m e =
    let b = both_fine (read_of s) m e in
    let h = text_is_spelled s m b.0 in
    let same : ranges_of m ≡ h.more = h.holds in
    let long : length (ranges_of m) ≡ min m.count (length m.ranges) = length-take m.count m.ranges in
    let few = text_few s m b.0 in
    record {
      spelled = h.spelled ∙ ap spell_ranges (sym same);
      few = omega arith;
      in_range = subst AllIn (sym same) h.in_range;
      in_one = accepted_each m b.1;
    }

pub text_accepted : (s : List ℕ) (rs : List Range) → Fits s rs → (m : Map) × (load_of s ≡ Ok m) × (ranges_of m ≡ rs)
unfolding load_of
text_accepted s rs f =
    let t = spelled_is_text s rs f.spelled f.few f.in_range in
    let m = t.0 in
    let sound : wrong_of m ≡ None = wrong_clear m (ap (wrong_from 1) t.2 ∙ all_sound 1 rs f.in_range) (text_few s m t.1) in
    let fine : check_of m ≡ Ok tt = each_accepted m sound (subst InOne (sym t.2) f.in_one) in
    (m, ap (λ (q : Result Map Refused). read_on q (λ r. if_fine r (check_of r))) t.1 ∙ ap (if_fine m) fine, t.2)
