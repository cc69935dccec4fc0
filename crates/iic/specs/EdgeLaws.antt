-- Laws: filtered levels that bring nothing change nothing. Assumes nothing.
use Rattle.bus.specs.Bus.{same_levels}
use Rattle.bus.specs.declared.Levels.{Levels}
use Rattle.domain.specs.declared.Domain.{Domain}
use Rattle.iic.specs.Answers.{Stepped, fine}
use Rattle.iic.specs.Conditions.{bus_edge_of, condition_high}
use Rattle.iic.specs.Edges.{condition_step_of, edged, falling_of, filtered_edges_of, scl_edge_of, stretch_ends_of}
use Rattle.iic.specs.Shift.{rising_of}
use Rattle.iic.specs.State.{synchronous}
use Rattle.iic.specs.declared.Iic.{Iic}
use Rattle.time.specs.Truths.{and_left, or_left, or_right, unnot}
use Rattle.time.specs.declared.Time.{Time}
use Rattle.std.specs.Prelude.{Bool, ◌&&◌, ◌||◌, cond, false, not, true, ◌≡◌, refl}
use Rattle.std.specs.Bool.{beq}
use Rattle.std.proofs.lemmas.Bool.{false≢true}

-- levels that stay are neither a start nor a stop, and no edge of the clock

no_condition : (c d c' d' : Bool) → (beq c c' && beq d d') ≡ true → ((c && c' && not d && d') ≡ false) × ((c && c' && d && not d') ≡ false)
no_condition true true true true h = (refl, refl)
no_condition true true true false h = absurd (false≢true h)
no_condition true true false d' h = absurd (false≢true h)
no_condition true false true true h = absurd (false≢true h)
no_condition true false true false h = (refl, refl)
no_condition true false false d' h = absurd (false≢true h)
no_condition false d c' d' h = (refl, refl)

no_edge : (was scl : Bool) (up down rest : Stepped) → beq was scl ≡ true → cond (not was && scl) up (cond (was && not scl) down rest) ≡ rest
no_edge true true up down rest h = refl
no_edge true false up down rest h = absurd (false≢true h)
no_edge false true up down rest h = absurd (false≢true h)
no_edge false false up down rest h = refl

same : (b : Bool) (s : Iic) → cond b s s ≡ s
same true s = refl
same false s = refl

bus_same : (old : Levels) (s : Iic) → same_levels old s.lines.filtered ≡ true → bus_edge_of old s ≡ s
unfolding bus_edge_of
bus_same old s h =
    let n = no_condition old.scl old.sda s.lines.filtered.scl s.lines.filtered.sda h in
    rw (n.0, n.1) (same (synchronous s) s)

either : (b : Bool) (o : Stepped) → cond b o o ≡ o
either true o = refl
either false o = refl

pub unedged : (old : Levels) (now : Time) (system : Domain) (s : Iic) → edged old s ≡ false → filtered_edges_of old now system s ≡ fine s
unfolding filtered_edges_of stretch_ends_of condition_step_of scl_edge_of
unedged old now system s h =
    let moved : Bool = not (same_levels old s.lines.filtered) in
    let ends : Bool = s.flags.synchronized_hold && s.lines.filtered.scl in
    let l : same_levels old s.lines.filtered ≡ true = unnot (same_levels old s.lines.filtered) (or_left moved ends (or_left (moved || ends) (condition_high s) h)) in
    let t : ends ≡ false = or_right moved ends (or_left (moved || ends) (condition_high s) h) in
    let c : condition_high s ≡ false = or_right (moved || ends) (condition_high s) h in
    let e : beq old.scl s.lines.filtered.scl ≡ true = and_left _ _ l in
    rw (bus_same old s l, t, c)
    (rw (no_edge old.scl s.lines.filtered.scl (fine (rising_of s.lines.filtered.sda s)) (falling_of now system s) (fine s) e)
    (either s.flags.reset (fine s)))
