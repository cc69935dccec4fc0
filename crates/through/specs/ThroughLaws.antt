-- Laws: a call through an accepted map that reaches a peripheral is that peripheral's call, and leaves the others as they are (`read_reached`,
-- `write_reached`, `read_others`, `write_others`); a refusal of the map stands before the call's own (`refused_first`).
-- Assumes nothing.
use Rattle.std.specs.Prelude.{Bool, true, false, cond, not, ◌&&◌, List, ◌≡◌, ℕ, ◌≤◌, ◌<◌, leb, ltb, length, ⊤, Option, None, Some, Result, Ok, Err}
use Rattle.std.specs.Result.{result_and, result_map_both}
use Rattle.std.proofs.Math.Path.{refl, ap}
use Rattle.std.proofs.Common.{sym, ◌∙◌, subst, arith, ltb-true, leb-true, le-leb}
use Rattle.std.proofs.Math.ListN.{get_or}
use Rattle.std.proofs.Math.Seq.{get_or-set_same, get_or-set_other}
use Rattle.lines.specs.ListLaws.{within}
use Rattle.lines.specs.NumberLaws.{both}
use Rattle.time.specs.declared.Time.{Time}
use Rattle.clocks.specs.declared.Clocks.{Clocks}
use Rattle.iic.specs.declared.Iic.{Iic}
use Rattle.refusals.specs.declared.Refusal.{Refusal}
use Rattle.iic.specs.State.{default_iic}
use Rattle.iic.specs.Calls.{read_of, write_of}
use Rattle.map.specs.declared.Map.{Map}
use Rattle.map.specs.declared.Fault.{Fault}
use Rattle.through.specs.declared.Refused.{Refused}
use Rattle.through.specs.declared.Refused.TheVariants as refused
use Rattle.map.specs.Map.{check_of, fault_place, fault_refusal, lookup_of, ranges_of, unit_at}
use Rattle.through.specs.Through.{Reaches, among, of_map, called, at_target, refusal_of, refusal_place, target_of, read_through, without_place, write_through}

-- ## Whom a call reaches

abbrev Target : Type 0
Target = Result (Option ℕ) Refused

found_below : (count : ℕ) (f : Result (Option ℕ) Fault) → count ≤ 4 → Reaches 4 (result_map_both (among count) of_map f)
found_below count (Err f) h = omega arith
found_below count (Ok None) h = omega arith
found_below count (Ok (Some u)) h = by (ltb u count) refl
  where
    by : (t : Bool) → ltb u count ≡ t → Reaches 4 (Ok (cond t (Some u) None))
    by true e = let k = ltb-true u count e in omega arith
    by false e = omega arith

pub target_below : (m : Map) (count a : ℕ) → Reaches 4 (target_of m count a)
unfolding target_of
target_below m count a = by (leb 1 count && leb count 4) refl
  where
    by : (t : Bool) → (leb 1 count && leb count 4) ≡ t → Reaches 4 (cond (not t) (Err refused.Peripherals) (result_map_both (among count) of_map (lookup_of m a)))
    by true e = found_below count (lookup_of m a) (leb-true count 4 (both (leb 1 count) (leb count 4) e).1)
    by false e = omega arith

pub reached_below : (m : Map) (count a u : ℕ) → target_of m count a ≡ Ok (Some u) → u < 4
reached_below m count a u e = subst (Reaches 4) e (target_below m count a)

-- a bench of that many peripherals
pub record There (count : ℕ) : Type 0 where
  pub some : 1 ≤ count
  pub few : count ≤ 4

there_finds : (m : Map) (count a : ℕ) → There count → target_of m count a ≡ result_map_both (among count) of_map (lookup_of m a)
unfolding target_of
there_finds m count a t = simp (le-leb 1 count t.some, le-leb count 4 t.few)

-- where the map is accepted, the range's unit is meant
pub accepted_target : (m : Map) (count a : ℕ) → There count → check_of m ≡ Ok tt → target_of m count a ≡ Ok (among count (unit_at (ranges_of m) a))
unfolding lookup_of
accepted_target m count a t e = there_finds m count a t ∙ ap (λ (c : Result ⊤ Fault). result_map_both (among count) of_map (result_and c (Ok (unit_at (ranges_of m) a)))) e

-- and where it isn't, its refusal stands before the call's own, with the map's number and its line or address
pub refused_first : (m : Map) (count a : ℕ) (f : Fault) → There count → check_of m ≡ Err f
    → (target_of m count a ≡ Err (of_map f)) × (refusal_of (of_map f) ≡ fault_refusal f) × (refusal_place (of_map f) ≡ fault_place f)
unfolding lookup_of
refused_first m count a f t e = (there_finds m count a t ∙ ap (λ (c : Result ⊤ Fault). result_map_both (among count) of_map (result_and c (Ok (unit_at (ranges_of m) a)))) e, refl, refl)

-- ## What is done

-- a call's own refusal has no place
pub no_place : (n : Refusal) → refusal_place (refused.Call n) ≡ 0
no_place n = refl

module _ (states : List Iic) (long : length states ≡ 4) (m : Map) (count a : ℕ) (now : Time) (k : Clocks) where
  module _ (u : ℕ) (reached : target_of m count a ≡ Ok (Some u)) where
    abbrev unit : Iic
    unit = get_or states u default_iic

    in_states : u < length states
    in_states = let h : u < 4 = subst (Reaches 4) reached (target_below m count a) in omega arith

    pub read_reached : ((read_through m count states a now k).answer ≡ called (read_of unit a now k).answer) × (get_or (read_through m count states a now k).states u default_iic ≡ (read_of unit a now k).state)
        × (without_place (read_through m count states a now k).answer ≡ (read_of unit a now k).answer)
    unfolding read_through
    read_reached =
        let e = ap (at_target states 255 (λ s. read_of s a now k)) reached in
        (ap (λ r. r.answer) e, ap (λ r. get_or r.states u default_iic) e ∙ get_or-set_same states u (read_of unit a now k).state default_iic in_states, ap (λ r. without_place r.answer) e ∙ own (read_of unit a now k).answer)
      where
        own : (r : Result ℕ Refusal) → without_place (called r) ≡ r
        own (Ok v) = refl
        own (Err n) = refl

    pub write_reached : (value : ℕ) → ((write_through m count states a value now k).answer ≡ called (write_of unit a value now k).answer) × (get_or (write_through m count states a value now k).states u default_iic ≡ (write_of unit a value now k).state)
        × (without_place (write_through m count states a value now k).answer ≡ (write_of unit a value now k).answer)
    unfolding write_through
    write_reached value =
        let e = ap (at_target states tt (λ s. write_of s a value now k)) reached in
        (ap (λ r. r.answer) e, ap (λ r. get_or r.states u default_iic) e ∙ get_or-set_same states u (write_of unit a value now k).state default_iic in_states, ap (λ r. without_place r.answer) e ∙ own (write_of unit a value now k).answer)
      where
        own : (r : Result ⊤ Refusal) → without_place (called r) ≡ r
        own (Ok v) = refl
        own (Err n) = refl

  module _ (v : ℕ) (other : target_of m count a ≡ Ok (Some v) → ⊥) where
    other_unit : (t : Target) → target_of m count a ≡ t → (u : ℕ) → t ≡ Ok (Some u) → v ≡ u → ⊥
    other_unit t e u f g = other (e ∙ f ∙ ap (λ (n : ℕ). Ok (Some n)) (sym g))

    pub read_others : get_or (read_through m count states a now k).states v default_iic ≡ get_or states v default_iic
    unfolding read_through
    read_others = by (target_of m count a) refl
      where
        by : (t : Target) → target_of m count a ≡ t → get_or (at_target states 255 (λ s. read_of s a now k) t).states v default_iic ≡ get_or states v default_iic
        by (Ok None) e = refl
        by (Ok (Some u)) e = get_or-set_other states u v (read_of (get_or states u default_iic) a now k).state default_iic (other_unit (Ok (Some u)) e u refl)
        by (Err r) e = refl

    pub write_others : (value : ℕ) → get_or (write_through m count states a value now k).states v default_iic ≡ get_or states v default_iic
    unfolding write_through
    write_others value = by (target_of m count a) refl
      where
        by : (t : Target) → target_of m count a ≡ t → get_or (at_target states tt (λ s. write_of s a value now k) t).states v default_iic ≡ get_or states v default_iic
        by (Ok None) e = refl
        by (Ok (Some u)) e = get_or-set_other states u v (write_of (get_or states u default_iic) a value now k).state default_iic (other_unit (Ok (Some u)) e u refl)
        by (Err r) e = refl

-- ## As the code does it

pub unit_read : (states : List Iic) (u a : ℕ) (now : Time) (k : Clocks) (d : Iic) → u < length states → read_of (get_or states u d) a now k ≡ read_of (get_or states u default_iic) a now k
unit_read states u a now k d h = ap (λ (s : Iic). read_of s a now k) (within states u d default_iic h)

pub unit_write : (states : List Iic) (u a value : ℕ) (now : Time) (k : Clocks) (d : Iic) → u < length states → write_of (get_or states u d) a value now k ≡ write_of (get_or states u default_iic) a value now k
unit_write states u a value now k d h = ap (λ (s : Iic). write_of s a value now k) (within states u d default_iic h)
