-- Laws: the steps of a run, and what it leaves of a buffer.
-- Assumes nothing.
use Rattle.std.specs.Prelude.{◌≡◌, refl, List, [], ◌∷◌, ℕ, ◌+◌, ◌-◌, ◌≤◌, ◌<◌, length, drop, Ok, Err}
use Rattle.std.proofs.Common.{ap, ◌∙◌, arith, length-append, length-drop, lt-ltb, le-ltb}
use Rattle.refusals.specs.declared.Refusal.TheVariants.{NoRoom}
use Rattle.clocks.specs.declared.Clocks.{Clocks}
use Rattle.answers.specs.declared.Output.{Output}
use Rattle.player.specs.declared.Player.{Player}
use Rattle.player.specs.Trace.{Run, stopped, then, line_text, next_player, run, over}

pub run_no_lines : (t : Output) (k : Clocks) (p : Player) (free : ℕ) → run t k p [] free ≡ stopped p (Ok tt)
unfolding run
run_no_lines t k p free = refl

pub run_no_room : (t : Output) (k : Clocks) (p : Player) (l : List ℕ) (ls : List (List ℕ)) (free : ℕ) → free < 80 → run t k p (l ∷ ls) free ≡ stopped p (Err NoRoom)
unfolding run
run_no_room t k p l ls free h = rw (lt-ltb free 80 h)

pub run_one_more : (t : Output) (k : Clocks) (p : Player) (l : List ℕ) (ls : List (List ℕ)) (free : ℕ) → 80 ≤ free
    → run t k p (l ∷ ls) free ≡ then (length l) (line_text t k p l) (run t k (next_player t k p l) ls (free - length (line_text t k p l)))
unfolding run
run_one_more t k p l ls free h = rw (le-ltb free 80 h)

-- a run that went into a buffer fits it
pub over_within : (r : Run) (before after : List ℕ) → after ≡ over r before → length after ≡ length before → length r.bytes ≤ length before
over_within r before after e same =
    let a : length after ≡ length r.bytes + length (drop (length r.bytes) before) = ap length e ∙ length-append r.bytes (drop (length r.bytes) before) in
    let d : length (drop (length r.bytes) before) ≡ length before - length r.bytes = length-drop (length r.bytes) before in
    omega arith
