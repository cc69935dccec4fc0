-- Definitions: reads and writes through a map (document 02, (n)): "A read or write through the map does to its unit what a call to it with that address
-- would and to the others nothing; on `-`, or a unit that the bench lacks, a read gives ff and a write does nothing."
use Rattle.std.specs.Prelude.{cond, not, ◌&&◌, ⊤, List, ℕ, ◌<◌, leb, ltb, get_or, set, Option, None, Some, Result, Ok, Err}
use Rattle.std.specs.Result.{result_map_both}
use Rattle.time.specs.declared.Time.{Time}
use Rattle.clocks.specs.declared.Clocks.{Clocks}
use Rattle.iic.specs.declared.Iic.{Iic}
use Rattle.iic.specs.declared.Answered.{Answered}
use Rattle.refusals.specs.declared.Refusal.{Refusal}
use Rattle.refusals.specs.declared.Refusal.TheVariants.{Peripherals}
use Rattle.iic.specs.State.{default_iic}
use Rattle.iic.specs.Calls.{read_of, write_of}
use Rattle.map.specs.declared.Map.{Map}
use Rattle.map.specs.declared.Fault.{Fault}
use Rattle.through.specs.declared.Refused.{Refused}
use Rattle.through.specs.declared.Refused.TheVariants as refused
use Rattle.through.specs.declared.Through.{Through}
use Rattle.map.specs.Map.{fault_place, fault_refusal, lookup_of}

-- ## A refusal

abbrev pub of_map : Fault → Refused
of_map f = refused.Map f

abbrev pub refusal_of : Refused → Refusal
refusal_of refused.Peripherals = Peripherals
refusal_of (refused.Map f) = fault_refusal f
refusal_of (refused.Call n) = n

-- "each with the lowest such address"; a line with 4; 0 with any other
abbrev pub refusal_place : Refused → ℕ
refusal_place refused.Peripherals = 0
refusal_place (refused.Map f) = fault_place f
refusal_place (refused.Call n) = 0

-- what is answered, with the refusal alone
abbrev pub without_place : {A : Type 0} → Result A Refused → Result A Refusal
without_place (Ok v) = Ok v
without_place (Err r) = Err (refusal_of r)

-- ## Whom a call reaches

-- "a unit that the bench lacks"
abbrev pub among : ℕ → Option ℕ → Option ℕ
among count None = None
among count (Some u) = cond (ltb u count) (Some u) None

-- 15, as for a bench; then what the map draws, "both before 1"
unfoldable pub target_of : Map → ℕ → ℕ → Result (Option ℕ) Refused
target_of m count a = cond (not (leb 1 count && leb count 4)) (Err refused.Peripherals) (result_map_both (among count) of_map (lookup_of m a))

-- a peripheral that is reached is one of so many
abbrev pub Reaches : ℕ → Result (Option ℕ) Refused → Type 0
Reaches n (Ok None) = 0 < 1
Reaches n (Ok (Some u)) = u < n
Reaches n (Err r) = 0 < 1

-- ## A call

abbrev pub called : {A : Type 0} → Result A Refusal → Result A Refused
called (Ok v) = Ok v
called (Err n) = Err (refused.Call n)

abbrev pub one_at : {A : Type 0} → List Iic → ℕ → Answered A → Through A
one_at states u o = record { answer = called o.answer; states = set states u o.state }

-- "does to its unit what a call to it with that address would and to the others nothing"
abbrev pub at_target : {A : Type 0} → List Iic → A → (Iic → Answered A) → Result (Option ℕ) Refused → Through A
at_target states nobody call (Ok None) = record { answer = Ok nobody; states = states }
at_target states nobody call (Ok (Some u)) = one_at states u (call (get_or states u default_iic))
at_target states nobody call (Err r) = record { answer = Err r; states = states }

-- "a read gives ff"
unfoldable pub read_through : Map → ℕ → List Iic → ℕ → Time → Clocks → Through ℕ
read_through m count states a now k = at_target states 255 (λ s. read_of s a now k) (target_of m count a)

-- "and a write does nothing"
unfoldable pub write_through : Map → ℕ → List Iic → ℕ → ℕ → Time → Clocks → Through ⊤
write_through m count states a value now k = at_target states tt (λ s. write_of s a value now k) (target_of m count a)
