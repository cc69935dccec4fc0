-- Laws of a step that is part of another. Assumes nothing.
use Prim.Native.Nat.{ℕ}
use Rattle.iic.specs.Conditions.{begin_address_of, bus_start_of}
use Rattle.iic.specs.Setters.{set_busy, set_completed, set_receive_stopped, set_selected}
use Rattle.iic.specs.Shift.{begin_frame_of, hits, matched_of, select_of, when_lost_of}
use Rattle.iic.specs.State.{master}
use Rattle.iic.specs.declared.Iic.{Iic}
use mathlib.Core.Bool.{Bool, ◌&&◌, cond, false, true}
use mathlib.Core.Path.{◌≡◌, ap, sym}

pub matched_as : (b : ℕ) (s : Iic) (h : Bool) → hits b s ≡ h → cond h (select_of b (set_selected h s)) (set_selected h s) ≡ matched_of b s
unfolding matched_of
matched_as b s true e = sym (rw e)
matched_as b s false e = sym (rw e)

-- what follows a start that was lost or not, with its flags set
abbrev started : Iic → Iic
started s = set_busy true (set_selected false (set_completed false (set_receive_stopped false s)))

pub start_as : (s w : Iic) → w ≡ when_lost_of (master s && s.lines.drive.sda) s →
    cond w.flags.reset (started w) (begin_frame_of true (started w)) ≡ bus_start_of s
unfolding bus_start_of begin_address_of
start_as s w e = ap (λ (x : Iic). cond x.flags.reset (started x) (begin_frame_of true (started x))) e
