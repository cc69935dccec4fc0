-- Definitions: document 02, (g), on two peripherals that share a pair of wires. The proof is `equal_filtered_lem` in proofs/EqualFiltered.antt.
use Rattle.std.specs.Prelude.{◌^◌, ◌<◌, List, ◌≡◌}
use Rattle.bus.specs.declared.Levels.{Levels}
use Rattle.clocks.specs.declared.Clocks.{Clocks}
use Rattle.iic.specs.State.{default_iic}
use Rattle.iic.specs.declared.Iic.{Iic}
use Rattle.time.specs.declared.Time.{Time}
use Rattle.wires.specs.Units.{First, Line, Next, passed, turn}

-- What two units may be after a pass over a moment. They pass over the same moments and are told the same levels; their lines x and y are their own.
pub data Together (k : Clocks) : Time → Iic → Iic → Type 0 where
  first : (m : Time) (wires : Levels) (x y : List Line) → First k (turn m x wires) → First k (turn m y wires)
      → Together k m (passed k (turn m x wires) default_iic) (passed k (turn m y wires) default_iic)
  next : (now : Time) (a b : Iic) → Together k now a b
      → (m : Time) (wires : Levels) (x y : List Line) → Next k now a (turn m x wires) → Next k now b (turn m y wires)
      → Together k m (passed k (turn m x wires) a) (passed k (turn m y wires) b)

-- the system clock's numerator is a word, as every field of the record is
abbrev pub InWord : Clocks → Type 0
InWord k = k.system.clock.numerator < 2 ^ 64

-- Document 02, (g): "Two peripherals enabled and gated on in the first moment and ever since, .., with no call of either refused, deadlines included, show equal
-- filtered levels after every moment, whatever else their scripts write." Over any clock set. That IICRST is never set isn't needed.
abbrev pub EqualFiltered : Type 0
EqualFiltered = (k : Clocks) → InWord k → (now : Time) (a b : Iic) → Together k now a b → a.lines.filtered ≡ b.lines.filtered
