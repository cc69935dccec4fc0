-- Laws: the proof of `EqualFiltered`: after each pass two units have one view. It goes by the view before, the moment and the levels alone: `fired` is what the visit
-- makes of it, whether the unit is visited or not, and `told` what the report does; the unit's own lines leave it alone. Assumes nothing.
use Rattle.std.specs.Prelude.{List, ◌≡◌}
use Rattle.std.proofs.Common.{sym, ◌∙◌}
use Rattle.bus.specs.declared.Levels.{Levels}
use Rattle.clocks.specs.declared.Clocks.{Clocks}
use Rattle.iic.specs.State.{default_iic}
use Rattle.iic.specs.declared.Iic.{Iic}
use Rattle.time.specs.declared.Time.{Time}
use Rattle.rates.specs.Rates.{default_rates}
use Rattle.wires.proofs.FirstPass.{first_sound}
use Rattle.wires.proofs.Passes.{pass_sound}
use Rattle.wires.specs.RuleLaws.{default_spaced}
use Rattle.wires.specs.Rules.{Alike}
use Rattle.wires.specs.Statement.{EqualFiltered, InWord, Together, first, next}
use Rattle.wires.specs.Units.{First, Line, Next, passed, turn}
use Rattle.wires.specs.Views.{default_view, fired, told}

-- after the first pass
pub first_alike : (k : Clocks) (m : Time) (wires : Levels) (x y : List Line) → First k (turn m x wires) → First k (turn m y wires)
    → Alike m k (passed k (turn m x wires) default_iic) (passed k (turn m y wires) default_iic)
first_alike k m wires x y f g = record {
  view = told wires m k default_view;
  one = first_sound k (turn m x wires) f;
  other = first_sound k (turn m y wires) g;
}

-- after a later one
pub next_alike : (k : Clocks) → InWord k → (now : Time) (a b : Iic) → Alike now k a b
    → (m : Time) (wires : Levels) (x y : List Line) → Next k now a (turn m x wires) → Next k now b (turn m y wires)
    → Alike m k (passed k (turn m x wires) a) (passed k (turn m y wires) b)
next_alike k word now a b h m wires x y f g = record {
  view = told wires m k (fired m k h.view);
  one = pass_sound k word default_rates default_spaced now h.view (turn m x wires) a h.one f;
  other = pass_sound k word default_rates default_spaced now h.view (turn m y wires) b h.other g;
}

alike : (k : Clocks) → InWord k → (now : Time) (a b : Iic) → Together k now a b → Alike now k a b
alike k word now a b (first m wires x y f g) = first_alike k m wires x y f g
alike k word now a b (next was c d h m wires x y f g) = next_alike k word was c d (alike k word was c d h) m wires x y f g

pub alike_filtered : (k : Clocks) (now : Time) (a b : Iic) → Alike now k a b → a.lines.filtered ≡ b.lines.filtered
alike_filtered k now a b h = h.one.keeps.filtered ∙ sym h.other.keeps.filtered

pub equal_filtered_lem : EqualFiltered
equal_filtered_lem k word now a b h = alike_filtered k now a b (alike k word now a b h)
