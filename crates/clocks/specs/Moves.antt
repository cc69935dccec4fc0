-- Definitions: a clock set whose system clock's start is moved up (document 02, (k)). Each domain has a clock of its own, so that no other one moves;
-- the prescalers see the whole count of the system domain, its ordinal included.
use Rattle.std.specs.Prelude.{ℕ, cond, Result, Ok, Err}
use Rattle.time.specs.declared.Clock.{Clock}
use Rattle.refusals.specs.declared.Refusal.{Refusal}
use Rattle.refusals.specs.declared.Refusal.TheVariants.{ZeroFrequency}
use Rattle.time.specs.Clock.{move_of}
use Rattle.clocks.specs.declared.Clocks.{Clocks}
use Rattle.clocks.specs.declared.NewClocks.{NewClocks}
use Rattle.clocks.specs.Clocks.{has_zero}

-- the set with another clock in its system domain, which runs or not as before
abbrev pub with_system : Clock → Clocks → Clocks
with_system c k = record {
  system = record { clock = c; running = k.system.running; held_at = k.system.held_at };
  cpu = k.cpu;
  watch = k.watch;
  on_chip = k.on_chip;
  oscillator = k.oscillator;
  subclock = k.subclock;
  prescaler_s = k.prescaler_s;
  prescaler_w = k.prescaler_w;
}

-- the moved clock in the set, or the refusal and the set as it was
abbrev pub moved_in : Clocks → Result Clock Refusal → NewClocks
moved_in k (Ok c) = record { ended = Ok tt; clocks = with_system c k }
moved_in k (Err r) = record { ended = Err r; clocks = k }

-- The system domain's clock moved by n: refusal 1, a zero in any clock of the set, comes first, then 7. "A move whose edge or ordinal leaves its width
-- draws 7 and moves nothing."
unfoldable pub move_system : ℕ → Clocks → NewClocks
move_system n k = cond (has_zero k) (record { ended = Err ZeroFrequency; clocks = k }) (moved_in k (move_of n k.system.clock))
