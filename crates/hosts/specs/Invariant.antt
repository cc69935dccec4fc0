-- Definitions: the invariant of a host under which idle calls change nothing, and what a step leaves unless it is refused.
use Rattle.std.specs.Prelude.{true, false, ◌≡◌, Err, Ok, Result, ⊤}
use Rattle.iic.specs.Settled.{settled}
use Rattle.iic.specs.declared.Iic.{Iic}
use Rattle.hosts.specs.Calls.{Host}
use Rattle.refusals.specs.declared.Refusal.{Refusal}
use Rattle.iic.specs.Answers.{Stepped}

-- A visit at which no wait is due only kicks. So it changes nothing where the state is settled, and that the state is, as long as no call was
-- refused, except between a write that lifts the reset, which doesn't kick, and the next visit.
abbrev pub Good : Host → Type 0
Good h = h.lifted ≡ false → settled h.state ≡ true

abbrev pub leaves_at : (Iic → Type 0) → Result ⊤ Refusal → Iic → Type 0
leaves_at P (Ok v) s = P s
leaves_at P (Err n) s = Unit {0}

-- unless it is refused, the step leaves a state of which P holds
abbrev pub Leaves : (Iic → Type 0) → Stepped → Type 0
Leaves P o = leaves_at P o.answer o.state
