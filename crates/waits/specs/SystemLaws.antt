-- Laws: waits of half clocks as the Rust has them, over the clock set (`HalfWait`; numbers in brackets are lines of iic.rs), and waits on the tap
-- system/1 are those over the system domain alone, where no clock of the set holds a zero.
use Rattle.std.specs.Prelude.{ℕ, Bool, true, false, not, ◌&&◌, cond, ◌≡◌, Err, None, Ok, Option, Result, Some}
use Rattle.std.proofs.Math.Path.{refl}
use Rattle.time.specs.declared.Time.{Time}
use Rattle.clocks.specs.declared.Clocks.{Clocks}
use Rattle.clocks.specs.Clocks.{has_zero, available_of, source_of, fed_by}
use Rattle.refusals.specs.Refusals.{and_then}
use Rattle.domain.specs.Domain.{domain_half_edge}
use Rattle.clocks.specs.Half.{half_ticks, half_edge}
use Rattle.clocks.specs.SystemLaws.{half_edge_lem, half_ticks_lem, system_deadline_lem}
use Rattle.clocks.specs.Tap.{system_tap}
use Rattle.clocks.specs.Wait.{dated}
use Rattle.waits.specs.declared.HalfWait.{HalfWait}
use Rattle.waits.specs.Ends.{is_on_system, system_end, wait_end}
use Rattle.waits.specs.Half.{further, left_of, made_half, half_after, half_deadline, half_pause}
use Rattle.clocks.specs.declared.wait.ClockWait.{ClockWait}
use Rattle.refusals.specs.declared.Refusal.{Refusal}

runs : (paused running : Bool) (d : Result (Option Time) Refusal) →
    cond paused (Ok None) (cond (running && true) d (Ok None)) ≡ cond (not paused && running) d (Ok None)
runs true true d = refl
runs true false d = refl
runs false true d = refl
runs false false d = refl

module _ (k : Clocks) (free : has_zero k ≡ false) where
  -- `after` (24)
  pub after_by_set : (now : Time) (n : ℕ) → made_half false (further (half_ticks k now) n) ≡ half_after now n k.system
  unfolding half_after
  after_by_set now n = rw (half_ticks_lem k free now)

  -- `deadline` (33)
  pub deadline_by_set : (w : HalfWait) →
      cond w.paused (Ok None)
      (and_then (available_of k (system_tap 1)) (λ b. cond b (dated (half_edge k w.count)) (Ok None)))
      ≡ half_deadline w k.system
  unfolding half_deadline available_of fed_by source_of
  deadline_by_set w =
      rw (free, half_edge_lem k free w.count) (runs w.paused k.system.running (dated (domain_half_edge k.system w.count)))

  -- `pause` (39)
  pub pause_by_set : (w : HalfWait) (now : Time) →
      cond w.paused (Ok w) (made_half true (left_of w.count (half_ticks k now))) ≡ half_pause w now k.system
  unfolding half_pause
  pause_by_set w now = rw (half_ticks_lem k free now)

  -- the end of a wait on the tap system/1
  pub system_end_lem : (w : Option ClockWait) → is_on_system w ≡ true → wait_end w k ≡ system_end w k.system
  unfolding wait_end system_end
  system_end_lem None h = refl
  system_end_lem (Some w) h = system_deadline_lem k free w h
