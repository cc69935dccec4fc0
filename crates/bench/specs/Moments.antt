-- Definitions: the states of a bench's units, the moment that they name next and the levels of the wires (document 02, (g)).
use Rattle.std.specs.Prelude.{ℕ, List, [], ◌∷◌, Bool, false, cond, ltb, get_or, None, Option, Ok, Result}
use Rattle.bus.specs.Bus.{wired}
use Rattle.bus.specs.declared.Levels.{Levels}
use Rattle.clocks.specs.declared.Clocks.{Clocks}
use Rattle.waits.specs.Ends.{sooner}
use Rattle.iic.specs.declared.Iic.{Iic}
use Rattle.iic.specs.State.{default_iic}
use Rattle.iic.specs.Calls.{pins_of}
use Rattle.units.specs.Units.{driven, names_of, released}
use Rattle.bench.specs.declared.Bench.{Bench}
use Rattle.bench.specs.declared.Place.{Place}
use Rattle.bench.specs.declared.Doing.TheVariants.{Looks}
use Rattle.time.specs.declared.Time.{Time}
use Rattle.refusals.specs.declared.Refusal.{Refusal}

-- ## Units

-- "each beginning at its default"
unfoldable pub fresh_bench : Bench
fresh_bench = record {
  states = default_iic ∷ default_iic ∷ default_iic ∷ default_iic ∷ [];
  place = record { doing = Looks None; last = None; visits = 0; refused = false ∷ false ∷ false ∷ false ∷ [] };
}

-- "a unit, a digit counted from 0"
abbrev pub state_in : List Iic → ℕ → Iic
state_in states u = get_or states u default_iic

abbrev pub state_at : Bench → ℕ → Iic
state_at b u = state_in b.states u

-- whether the unit's visit in the present moment was refused
abbrev pub mark_of : Place → ℕ → Bool
mark_of p u = get_or p.refused u false

-- ## Moments

-- of the unit of that number, where the bench has it
unfoldable pub named_by : Clocks → ℕ → Option Time → Bench → ℕ → Result (Option Time) Refusal
named_by k count present b u = cond (ltb u count) (names_of k present (mark_of b.place u) (state_at b u)) (Ok None)

-- the earliest that a unit or a script line names
unfoldable pub moment_of : Clocks → ℕ → Option Time → Result (Option Time) Refusal → Bench → Result (Option Time) Refusal
moment_of k count present line b =
    sooner (named_by k count present b 0)
    (sooner (named_by k count present b 1) (sooner (named_by k count present b 2) (sooner (named_by k count present b 3) line)))

-- ## Wires

unfoldable pub driven_by : ℕ → Bench → ℕ → Levels
driven_by count b u = cond (ltb u count) (driven (pins_of (state_at b u))) released

-- "each line as low if any drives it low .. and high otherwise"
unfoldable pub wires_of : ℕ → Bench → Levels
wires_of count b = wired (wired (driven_by count b 0) (driven_by count b 1)) (wired (driven_by count b 2) (driven_by count b 3))
