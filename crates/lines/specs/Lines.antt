-- Definitions: the lines of a trace (document 01, "The trace player": a newline closes a line, a last one may lack it),
-- and which time may follow which.
use Rattle.std.specs.Prelude.{Bool, true, cond, not, List, [], ◌∷◌, ◌++◌, ℕ, suc, eqb, Option, None, Some}
use Rattle.time.specs.declared.Time.{Time}
use Rattle.time.specs.Time.{earlier}

-- a line that was begun and isn't closed: it counts where the trace has ended and the line has a byte
abbrev pub unclosed : Bool → List ℕ → List (List ℕ)
unclosed ended [] = []
unclosed ended (x ∷ xs) = cond ended ((x ∷ xs) ∷ []) []

-- the lines of further bytes, after those of a line that was begun
unfoldable pub lines_from : Bool → List ℕ → List ℕ → List (List ℕ)
lines_from ended begun [] = unclosed ended begun
lines_from ended begun (x ∷ xs) = cond (eqb x 10) (begun ∷ lines_from ended [] xs) (lines_from ended (begun ++ (x ∷ [])) xs)

-- the lines of a part of a trace: all of them where the trace ends with it, else those that are closed
unfoldable pub lines_in : Bool → List ℕ → List (List ℕ)
lines_in ended bytes = lines_from ended [] bytes

-- the line that is begun after further bytes, and not closed
unfoldable pub left_of : List ℕ → List ℕ → List ℕ
left_of begun [] = begun
left_of begun (x ∷ xs) = cond (eqb x 10) (left_of [] xs) (left_of (begun ++ (x ∷ [])) xs)

-- how many bytes stand before the first newline
unfoldable pub line_length : List ℕ → ℕ
line_length [] = 0
line_length (x ∷ xs) = cond (eqb x 10) 0 (suc (line_length xs))

-- no time is earlier than that of the last line not refused 4 or 5 (document 02, (c)); the first may be any
abbrev pub may_follow : Option Time → Time → Bool
may_follow None t = true
may_follow (Some u) t = not (earlier t u)
