-- Definitions: a ripple divider (document 01, module 2; prescaler.rs), over its number of stages n. Stage s divides by 2 ^ s.
use Rattle.std.specs.Prelude.{ℕ, ◌+◌, ◌-◌, ◌*◌, ◌/◌, ◌%◌, ◌^◌, Bool, true, ◌||◌, cond, List, eqb, ltb, get_or, replicate, Result, Ok, Err}
use Rattle.refusals.specs.declared.Refusal.{Refusal}
use Rattle.refusals.specs.declared.Refusal.TheVariants.{NoStage, Overflow, Reversed}
use Rattle.prescaler.specs.declared.Divider.{Divider}
use Rattle.prescaler.specs.declared.Prescaler.{Prescaler}
use Rattle.counts.specs.Counts.{fits}

-- `Prescaler::new`: running, at phase 0, with nothing given yet by its n stages, which are 13 or 8
abbrev pub fresh : Divider
fresh = record { anchor = 0; phase = 0; running = true }

abbrev pub fresh_of : (n : ℕ) → Prescaler n
fresh_of n = record { divider = fresh; emitted = replicate n 0 }

abbrev pub fresh_s : Prescaler 13
fresh_s = fresh_of 13

abbrev pub fresh_w : Prescaler 8
fresh_w = fresh_of 8

-- the stage isn't one of 1 to n: refusal 3, before 8 and 7
abbrev pub outside : ℕ → ℕ → Bool
outside n s = eqb s 0 || ltb n s

-- the parent's edges since the anchor, none while the divider is stopped
unfoldable pub elapsed : Divider → ℕ → ℕ
elapsed p parent = cond p.running (parent - p.anchor) 0

-- how often a counter that stands at the phase passes a multiple of 2 ^ s in that many edges
unfoldable pub crossed : ℕ → ℕ → ℕ → ℕ
crossed phase edges s = (phase % 2 ^ s + edges) / 2 ^ s

-- `crossings`
unfoldable pub stage_crossings : ℕ → ℕ → ℕ → ℕ → Result ℕ Refusal
stage_crossings n phase edges s = cond (outside n s) (Err NoStage) (Ok (crossed phase edges s))

-- `ticks`: the edges of stage s, those given at the anchor and those since. A sum past 64 bits is refusal 7.
unfoldable pub stage_ticks : ℕ → Divider → List ℕ → ℕ → ℕ → Result ℕ Refusal
stage_ticks n p emitted parent s =
    cond (outside n s) (Err NoStage) (fits (get_or emitted (s - 1) 0 + crossed p.phase (elapsed p parent) s))

-- `high`: the output of stage s is high in the first half of its cycle
unfoldable pub stage_high : ℕ → Divider → ℕ → ℕ → Result Bool Refusal
stage_high n p parent s =
    cond (outside n s) (Err NoStage) (Ok (ltb ((p.phase + elapsed p parent) % 2 ^ s) (2 ^ (s - 1))))

-- the parent's edge that is the stage's edge of that number, where e were given at the anchor: 8 (`Reversed`) for an earlier one
unfoldable pub parent_edge : Divider → ℕ → ℕ → ℕ → Result ℕ Refusal
parent_edge p e tick s =
    cond (ltb tick e) (Err Reversed)
    (cond (ltb p.anchor (p.phase % 2 ^ s)) (Err Overflow)
    (fits (p.anchor - p.phase % 2 ^ s + (tick - e) * 2 ^ s)))

-- `parent_edge`
unfoldable pub stage_edge : ℕ → Divider → List ℕ → ℕ → ℕ → Result ℕ Refusal
stage_edge n p emitted tick s = cond (outside n s) (Err NoStage) (parent_edge p (get_or emitted (s - 1) 0) tick s)
