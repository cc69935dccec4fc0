-- The loops over the units of a bench: what they have after some of them.
-- Assumes nothing.
use Rattle.std.specs.Prelude.{Option, Result}
use Prim.Native.Nat.{ℕ, zero, suc, ◌+◌, ◌-◌, ◌≤◌, ◌<◌}
use mathlib.Core.Bool.{Bool, true, false, ◌&&◌}
use mathlib.Core.Path.{◌≡◌, refl, ap, ◌∙◌}
use native.Mathlib.Omega.{arith}
use Rattle.bus.specs.Bus.{levels, wired}
use Rattle.bus.specs.declared.Levels.{Levels}
use Rattle.units.specs.Units.{released}
use Rattle.waits.specs.Ends.{sooner}
use Rattle.refusals.specs.declared.Refusal.{Refusal}
use Rattle.time.specs.declared.Time.{Time}

-- the soonest that the last units name, or the line
abbrev soonest_of_last : (ℕ → Result (Option Time) Refusal) → Result (Option Time) Refusal → ℕ → Result (Option Time) Refusal
soonest_of_last f line zero = line
soonest_of_last f line (suc n) = sooner (f (3 - n)) (soonest_of_last f line n)

-- of those from a number on
abbrev pub soonest_from : (ℕ → Result (Option Time) Refusal) → Result (Option Time) Refusal → ℕ → Result (Option Time) Refusal
soonest_from f line u = soonest_of_last f line (4 - u)

pub soonest_turn : (f : ℕ → Result (Option Time) Refusal) (line : Result (Option Time) Refusal) (u : ℕ) → 0 < u → u ≤ 4 → sooner (f (u - 1)) (soonest_from f line u) ≡ soonest_from f line (u - 1)
soonest_turn f line zero g l = absurd (omega arith)
soonest_turn f line (suc zero) g l = refl
soonest_turn f line (suc (suc zero)) g l = refl
soonest_turn f line (suc (suc (suc zero))) g l = refl
soonest_turn f line (suc (suc (suc (suc zero)))) g l = refl
soonest_turn f line (suc (suc (suc (suc (suc u))))) g l = absurd (omega arith)

-- the levels that the units below a number leave
abbrev pub wired_below : (ℕ → Levels) → ℕ → Levels
wired_below f zero = released
wired_below f (suc u) = wired (wired_below f u) (f u)

pub wired_turn : (f : ℕ → Levels) (u : ℕ) → wired (wired_below f u) (f u) ≡ wired_below f (u + 1)
wired_turn f u = ap (wired_below f) (next u)
  where
    next : (n : ℕ) → suc n ≡ n + 1
    next n = omega arith

four : (a b c d : Bool) → (((a && b) && c) && d) ≡ ((a && b) && (c && d))
four true true c d = refl
four true false c d = refl
four false b c d = refl

pub wired_all : (f : ℕ → Levels) → wired_below f 4 ≡ wired (wired (f 0) (f 1)) (wired (f 2) (f 3))
wired_all f =
    ap (λ (x : Bool). levels x ((((f 0).sda && (f 1).sda) && (f 2).sda) && (f 3).sda)) (four (f 0).scl (f 1).scl (f 2).scl (f 3).scl)
    ∙ ap (levels (((f 0).scl && (f 1).scl) && ((f 2).scl && (f 3).scl))) (four (f 0).sda (f 1).sda (f 2).sda (f 3).sda)
