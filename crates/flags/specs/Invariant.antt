-- Definitions: the invariant of runs under which status writes do what StatusWrites.antt says.
use Rattle.std.specs.Prelude.{ℕ, true, false, ◌≡◌}
use Rattle.registers.specs.Bits.{TDRE}
use Rattle.iic.specs.declared.Iic.{Iic}
use Rattle.rates.specs.declared.Rates.{Rates}
use Rattle.flags.specs.StatusWrites.{Flag, FrameToGo, Past, Ranges, is_set, mask_of, shown}
use Rattle.iic.specs.Answers.{Stepped}

-- a fact on ICSR, `seen` and the rate set
abbrev pub Fact : Type 1
Fact = ℕ → ℕ → Rates → Type 0

-- a byte and a rate set
pub record Bound : Type 0 where
  pub byte : ℕ
  pub rates : Rates

abbrev pub bound : Rates → ℕ → Bound
bound rates byte = record { byte = byte; rates = rates }

-- every flag in `seen` is a flag of the byte, whatever ICSR is, and the rate set is that one
abbrev pub Within : Bound → Fact
Within b status seen rates = ((f : Flag) → is_set f seen ≡ true → is_set f b.byte ≡ true) × (rates ≡ b.rates)

-- ICSR has the flags of the byte, and beside them at most TDRE
abbrev pub UpToTdre : ℕ → Fact
UpToTdre byte status seen rates =
    (f : Flag) → (is_set f byte ≡ true → is_set f status ≡ true) × (is_set f status ≡ true → is_set f byte ≡ false → mask_of f ≡ TDRE)

-- of a state: the fact, the ranges of count and mode, and the frame's bits to go
abbrev pub Kept : Fact → Iic → Type 0
Kept P s = P s.registers.status s.registers.seen s.rates × Ranges s × FrameToGo s.frame

-- a step ends with it, refused or not
pub record Ends (P : Fact) (x : Stepped) : Type 0 where
  pub kept : Kept P x.state

-- a step keeps it
abbrev pub Keeps : Fact → (Iic → Stepped) → Type 0
Keeps P step = (s : Iic) → Kept P s → Ends P (step s)

-- The invariant. A status write clears flags that are in `seen` and written 0, so what it clears was shown if `seen` holds only flags that the
-- latest answered read of ICSR showed; the rest is what the refusals 9 and 10 ask of a state.
abbrev pub Holds : Rates → Past → Type 0
Holds rates p = Kept (Within (bound rates (shown p.latest))) p.state
