-- Definitions: the lines of a trace and those in which a flag rose (document 02, requests (d) and (l)).
use Rattle.std.specs.Prelude.{ℕ, zero, suc, ◌+◌, ◌-◌, ◌/◌, ◌%◌, Bool, false, ◌&&◌, ◌||◌, cond, List, [], ◌∷◌, eqb, length, drop}

-- a line, by the status before and after it
pub record Line : Type 0 where
  pub before : ℕ
  pub after : ℕ

-- one of the lowest n bits is 0 before and 1 after
unfoldable pub rises_in : ℕ → ℕ → ℕ → Bool
rises_in zero before after = false
rises_in (suc n) before after = (eqb (before % 2) 0 && eqb (after % 2) 1) || rises_in n (before / 2) (after / 2)

-- "a flag rose, meaning a status bit 0 before the line and 1 after": such a line counts once, whatever the number of its bits
abbrev pub rise_of : ℕ → ℕ → ℕ
rise_of before after = cond (rises_in 8 before after) 1 0

-- in how many lines a flag rose
unfoldable pub rises : List Line → ℕ
rises [] = 0
rises (l ∷ ls) = rise_of l.before l.after + rises ls

-- "among the latest 64, or all lines while fewer were played": those at the end of the list
abbrev pub latest : ℕ → List Line → List Line
latest n lines = drop (length lines - n) lines
