-- Laws: rows of lines and reports, computed from the definitions. Assumes nothing.
use Rattle.std.specs.Prelude.{◌≡◌, refl, List, [], ◌∷◌, ◌++◌, map, ℕ, take, replicate}
use Rattle.std.proofs.Common.{ap₂}
use Rattle.window.specs.Lines.{Line, rises_in, rise_of, rises, latest}
use Rattle.window.specs.Window.{report_of, window_of}
use Rattle.window.proofs.ReportLaws.{counts_latest_lem}

abbrev line : ℕ → ℕ → Line
line b a = record { before = b; after = a }

-- one bit rises; one rises and another falls; all rise. None does where a bit falls, stays or isn't there
rises_shown : map (λ (l : Line). rise_of l.before l.after) (line 0x00 0x80 ∷ line 0x80 0x04 ∷ line 0x00 0xff ∷ line 0x80 0x00 ∷ line 0xff 0xff ∷ line 0x00 0x00 ∷ [])
    ≡ 1 ∷ 1 ∷ 1 ∷ 0 ∷ 0 ∷ 0 ∷ []
unfolding rises_in
rises_shown = refl

-- lines in each of which a flag rises, or none
abbrev busy : ℕ → List Line
busy n = replicate n (line 0x00 0x81)

abbrev idle : ℕ → List Line
idle n = replicate n (line 0x81 0x81)

-- what is reported after the first n of some lines
abbrev reported : List Line → List ℕ → List ℕ
reported lines ns = map (λ (n : ℕ). report_of (window_of (take n lines))) ns

-- by the count: the ones of a word of 64 bits aren't computed from their definition
counted : (lines : List Line) (ns : List ℕ) → reported lines ns ≡ map (λ (n : ℕ). rises (latest 64 (take n lines))) ns
counted lines [] = refl
counted lines (n ∷ ns) = ap₂ (λ (m : ℕ) (ms : List ℕ). m ∷ ms) (counts_latest_lem (take n lines)) (counted lines ns)

-- every line counts until line 64, and 64 of them from there on
all_rise : reported (busy 96) (0 ∷ 1 ∷ 16 ∷ 17 ∷ 48 ∷ 49 ∷ 63 ∷ 64 ∷ 65 ∷ 66 ∷ 80 ∷ 96 ∷ []) ≡ 0 ∷ 1 ∷ 16 ∷ 17 ∷ 48 ∷ 49 ∷ 63 ∷ 64 ∷ 64 ∷ 64 ∷ 64 ∷ 64 ∷ []
unfolding rises_in rises
all_rise = counted (busy 96) (0 ∷ 1 ∷ 16 ∷ 17 ∷ 48 ∷ 49 ∷ 63 ∷ 64 ∷ 65 ∷ 66 ∷ 80 ∷ 96 ∷ [])

-- sixteen lines, then none: from line 65 on they leave one by one
then_none : reported (busy 16 ++ idle 64) (16 ∷ 64 ∷ 65 ∷ 66 ∷ 79 ∷ 80 ∷ []) ≡ 16 ∷ 16 ∷ 15 ∷ 14 ∷ 1 ∷ 0 ∷ []
unfolding rises_in rises
then_none = counted (busy 16 ++ idle 64) (16 ∷ 64 ∷ 65 ∷ 66 ∷ 79 ∷ 80 ∷ [])
