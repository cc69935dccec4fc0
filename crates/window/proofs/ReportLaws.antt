-- Laws: what a window reports after any list of lines is the count that Reports.antt states. Assumes nothing.
use Rattle.std.specs.Prelude.{◌≡◌, Bool, true, false, cond, ℕ, zero, suc, ◌+◌, ◌-◌, ◌*◌, ◌/◌, ◌%◌, ◌^◌, ◌≤◌, ◌<◌, length, drop, List, [], ◌∷◌, ◌++◌}
use Rattle.std.proofs.Common.{sym, ap, ◌∙◌, add_comm, mul_assoc, mod-lt, mod-eq_of_lt, pow-suc, arith, length-append, pow_pos, append_assoc, append-nil}
use mathlib.Core.List.{foldl}
use Rattle.std.proofs.Math.Nat.{sub-zero, zero-mod}
use Rattle.std.proofs.Math.Arith.{digits_mod}
use Rattle.std.specs.Int.Count.{ones, ones_step}
use Rattle.std.proofs.Math.Pow.{split, mod-mod-pow}
use Rattle.std.proofs.lemmas.List.{drop-append-le}
use Rattle.std.proofs.Math.Seq.{drop-length, drop-nil}
use Rattle.window.specs.declared.Window.{Window}
use Rattle.window.specs.Lines.{Line, rises_in, rise_of, rises, latest}
use Rattle.window.specs.Window.{empty_window, take_of}
use Rattle.window.specs.Reports.{CountsLatest}

-- ## Counts

rises_append : (a b : List Line) → rises (a ++ b) ≡ rises a + rises b
unfolding rises
rises_append [] b = omega arith
rises_append (l ∷ a) b = let e : rises (a ++ b) ≡ rises a + rises b = rises_append a b in omega arith

pub rise_le : (before after : ℕ) → rise_of before after ≤ 1
rise_le before after = by (rises_in 8 before after)
  where
    by : (t : Bool) → cond t 1 0 ≤ 1
    by true = omega arith
    by false = omega arith

-- the latest lines of one line more
latest_more : (j : ℕ) (taken : List Line) (l : Line) → rises (latest (suc j) (taken ++ (l ∷ []))) ≡ rises (latest j taken) + rise_of l.before l.after
unfolding rises
latest_more j taken l =
    let longer : length (taken ++ (l ∷ [])) ≡ length taken + 1 = length-append taken (l ∷ []) in
    let e : length (taken ++ (l ∷ [])) - suc j ≡ length taken - j = omega arith in
    let d : latest (suc j) (taken ++ (l ∷ [])) ≡ latest j taken ++ (l ∷ []) = ap (λ (k : ℕ). drop k (taken ++ (l ∷ []))) e ∙ drop-append-le (length taken - j) taken (l ∷ []) (omega arith) in
    let s : rises (latest j taken ++ (l ∷ [])) ≡ rises (latest j taken) + (rise_of l.before l.after + 0) = rises_append (latest j taken) (l ∷ []) in
    ap rises d ∙ s ∙ omega arith

-- ## Bits

low_digits : (q p e r : ℕ) → e < p → r ≤ 1 → ((q * p + e) * 2 + r) % (p * 2) ≡ e * 2 + r
low_digits q p e r less once =
    let a : q * p * 2 ≡ q * (p * 2) = mul_assoc q p 2 in
    let g : (q * p + e) * 2 + r ≡ q * (p * 2) + (e * 2 + r) = omega arith in
    ap (λ (n : ℕ). n % (p * 2)) g ∙ digits_mod q (omega arith)

-- the lowest j bits of a word, and one more below them
low_bits : (x r j : ℕ) → r ≤ 1 → j ≤ 63 → (x % 2 ^ 63 * 2 + r) % 2 ^ suc j ≡ x % 2 ^ j * 2 + r
low_bits x r j once le =
    let y = x % 2 ^ 63 in
    let k : 63 ≡ (63 - j) + j = omega arith in
    let low : y % 2 ^ j ≡ x % 2 ^ j = ap (λ (n : ℕ). x % 2 ^ n % 2 ^ j) k ∙ mod-mod-pow x (63 - j) j in
    ap (λ (n : ℕ). (y * 2 + r) % n) (pow-suc 2 j)
    ∙ ap (λ (n : ℕ). (n * 2 + r) % (2 ^ j * 2)) (sym (split y j))
    ∙ low_digits (y / 2 ^ j) (2 ^ j) (y % 2 ^ j) r (mod-lt y (pow_pos j)) once
    ∙ ap (λ (n : ℕ). n * 2 + r) low

ones_more : (n r : ℕ) → r ≤ 1 → ones (n * 2 + r) ≡ ones n + r
ones_more n r once =
    let low : (n * 2 + r) % 2 ≡ r = omega arith in
    let high : (n * 2 + r) / 2 ≡ n = omega arith in
    let s : ones (n * 2 + r) ≡ (n * 2 + r) % 2 + ones ((n * 2 + r) / 2) = ones_step (n * 2 + r) in
    s ∙ rw (low, high) (add_comm r (ones n))

-- ## The window after a list of lines

-- the lowest k bits are those of the latest k lines
record Holds (taken : List Line) (w : Window) : Type 0 where
  word : w.bits < 2 ^ 64
  counts : (k : ℕ) → k ≤ 64 → ones (w.bits % 2 ^ k) ≡ rises (latest k taken)

none_latest : (taken : List Line) → rises (latest 0 taken) ≡ 0
unfolding rises
none_latest taken = ap rises (ap (λ (k : ℕ). drop k taken) (sub-zero (length taken)) ∙ drop-length taken)

ones_none : (n : ℕ) → ones (n % 2 ^ 0) ≡ 0
unfolding ones
ones_none n = let z : n % 1 ≡ 0 = omega arith in ap ones z

holds_more : (taken : List Line) (w : Window) (l : Line) → Holds taken w → Holds (taken ++ (l ∷ [])) (take_of w l.before l.after)
unfolding take_of
holds_more taken w l h = record { word = omega (arith, rise_le l.before l.after); counts = counts }
  where
    r : ℕ
    r = rise_of l.before l.after

    counts : (k : ℕ) → k ≤ 64 → ones ((w.bits % 2 ^ 63 * 2 + r) % 2 ^ k) ≡ rises (latest k (taken ++ (l ∷ [])))
    counts zero le = ones_none (w.bits % 2 ^ 63 * 2 + r) ∙ sym (none_latest (taken ++ (l ∷ [])))
    counts (suc j) le =
        ap ones (low_bits w.bits r j (rise_le l.before l.after) (omega arith))
        ∙ ones_more (w.bits % 2 ^ j) r (rise_le l.before l.after)
        ∙ ap (λ (n : ℕ). n + r) (h.counts j (omega arith))
        ∙ sym (latest_more j taken l)

-- after the lines taken, and further ones
holds_after : (taken lines : List Line) (w : Window) → Holds taken w → Holds (taken ++ lines) (foldl (λ (w : Window) (l : Line). take_of w l.before l.after) w lines)
holds_after taken [] w h = rw append-nil h
holds_after taken (l ∷ lines) w h =
    rw (← append_assoc taken (l ∷ []) lines) (holds_after (taken ++ (l ∷ [])) lines (take_of w l.before l.after) (holds_more taken w l h))

holds_empty : Holds [] empty_window
unfolding ones rises
holds_empty = record { word = omega arith; counts = λ k le. ap ones (zero-mod (2 ^ k)) ∙ sym (ap rises (drop-nil {A = Line} (0 - k))) }

-- ## What it reports

pub counts_latest_lem : CountsLatest
counts_latest_lem lines =
    let h = holds_after [] lines empty_window holds_empty in
    ap ones (sym (mod-eq_of_lt h.word)) ∙ h.counts 64 (omega arith)
