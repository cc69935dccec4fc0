-- Definitions: what holds of some units of a bench wherever it stands, the invariant of the proof. No paper has it.
use Rattle.std.specs.Prelude.{ℕ, ◌≤◌, ◌<◌, Bool, true, false, List, ◌≡◌, length, None, Some}
use Rattle.clocks.specs.declared.Clocks.{Clocks}
use Rattle.time.specs.declared.Time.{Time}
use Rattle.rates.specs.Rates.{default_rates}
use Rattle.hosts.specs.Calls.{advance}
use Rattle.iic.specs.State.{default_iic}
use Rattle.iic.specs.declared.Iic.{Iic}
use Rattle.wires.specs.Rules.{Keeps, Sound, starting}
use Rattle.wires.specs.Units.{Answered, named, visited}
use Rattle.wires.specs.Views.{View, default_view, told}
use Rattle.bench.specs.declared.Bench.{Bench}
use Rattle.bench.specs.declared.Doing.{Doing}
use Rattle.bench.specs.declared.Doing.TheVariants.{Looks, Visits, Plays, Reports, Ended}
use Rattle.bench.specs.Moments.{mark_of, state_in}
use Rattle.refusals.specs.Refusals.{number_ended}

-- ## Before the first reports: at the default until a line of the first moment is played

abbrev pub Begun : Time → Clocks → Iic → Type 0
Begun now k s = Keeps (starting now k.system) default_rates default_view s

abbrev pub FirstAt : Clocks → Doing → Iic → Type 0
FirstAt k (Looks None) s = s ≡ default_iic
FirstAt k (Looks (Some m)) s = ⊥
FirstAt k (Visits t i) s = s ≡ default_iic
FirstAt k (Plays t) s = Begun t k s
FirstAt k (Reports t w i) s = ⊥
FirstAt k (Ended n) s = number_ended n ≡ 0 → s ≡ default_iic

-- ## From them on: each has the view v, once it was visited in the moment, and once it was told the levels what they make of it

abbrev pub LaterAt : Clocks → View → Doing → ℕ → Iic → Type 0
LaterAt k v (Looks None) u s = ⊥
LaterAt k v (Looks (Some m)) u s = Sound m k default_rates v s
LaterAt k v (Visits t i) u s =
    (i ≤ u → (named k t s ≡ true → Answered k (advance t) s) → Sound t k default_rates v (visited k t s)) × (u < i → Sound t k default_rates v s)
LaterAt k v (Plays t) u s = Sound t k default_rates v s
LaterAt k v (Reports t w i) u s = (i ≤ u → Sound t k default_rates v s) × (u < i → Sound t k default_rates (told w t k v) s)
LaterAt k v (Ended n) u s = number_ended n ≡ 0 → s.lines.filtered ≡ v.filtered

-- ## Of the units U, before (false) or from (true) the first reports on

abbrev pub Stage : Clocks → (ℕ → Type 0) → Bool → Doing → List Iic → Type 0
Stage k U false d ss = (u : ℕ) → U u → FirstAt k d (state_in ss u)
Stage k U true d ss = (v : View) × ((u : ℕ) → U u → LaterAt k v d u (state_in ss u))

-- with four states, and no visit of theirs refused
abbrev pub Holds : Clocks → (ℕ → Type 0) → Bool → Bench → Type 0
Holds k U q b = (length b.states ≡ 4) × ((u : ℕ) → U u → mark_of b.place u ≡ false) × Stage k U q b.place.doing b.states
