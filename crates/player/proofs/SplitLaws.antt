-- Laws: a trace may be played in parts. Played are the closed lines of a part, and what is left of it goes before the next part, cut to 65 bytes where
-- it is longer: the answer lines are those of the whole trace.
-- Assumes nothing.
use Rattle.std.specs.Prelude.{◌≡◌, refl, Bool, true, false, cond, List, [], ◌∷◌, ◌++◌, None, ℕ, zero, suc, ◌+◌, ◌-◌, ◌≤◌, ◌<◌, eqb, length, take, drop, Ok}
use Rattle.std.proofs.Common.{sym, ap, ◌∙◌, append_assoc, append-nil, ⊎_elim, add_assoc, arith, length-append, length-take-le, lt-ltb}
use Rattle.std.proofs.Math.Nat.{sub-zero}
use Rattle.std.proofs.Math.Seq.{drop-append-add}
use Rattle.refusals.proofs.Laws.{err_not_ok}
use Rattle.clocks.specs.declared.Clocks.{Clocks}
use Rattle.answers.specs.declared.Output.{Output}
use Rattle.player.specs.declared.Player.{Player}
use Rattle.answers.specs.declared.Host.{Host}
use Rattle.answers.specs.declared.Answer.{Answer}
use Rattle.lines.specs.Lines.{unclosed, lines_from, lines_in, left_of}
use Rattle.lines.specs.Reading.{timed_of, call_of}
use Rattle.answers.specs.Calls.{parsed_of, answer_of}
use Rattle.answers.specs.Answers.{text_by}
use Rattle.player.specs.Trace.{answered, Run, stopped, then, line_text, next_player, run}
use Rattle.player.specs.Parts.{spent_on, run_then, onward, Alike, same, long, Same}
use Rattle.lines.specs.NumberLaws.{below_or_not}
use Rattle.player.specs.TraceLaws.{run_no_lines, run_no_room, run_one_more}

-- ## Lines

unclosed_none : (l : List ℕ) → unclosed false l ≡ []
unclosed_none [] = refl
unclosed_none (x ∷ xs) = refl

-- the lines of two parts
split_lines : (ended : Bool) (begun a b : List ℕ) → lines_from ended begun (a ++ b) ≡ lines_from false begun a ++ lines_from ended (left_of begun a) b
unfolding lines_from left_of
split_lines ended begun [] b = ap (λ (l : List (List ℕ)). l ++ lines_from ended begun b) (sym (unclosed_none begun))
split_lines ended begun (x ∷ xs) b = by (eqb x 10) (split_lines ended [] xs b) (split_lines ended (begun ++ (x ∷ [])) xs b)
  where
    by : (t : Bool) → lines_from ended [] (xs ++ b) ≡ lines_from false [] xs ++ lines_from ended (left_of [] xs) b
        → lines_from ended (begun ++ (x ∷ [])) (xs ++ b) ≡ lines_from false (begun ++ (x ∷ [])) xs ++ lines_from ended (left_of (begun ++ (x ∷ [])) xs) b
        → cond t (begun ∷ lines_from ended [] (xs ++ b)) (lines_from ended (begun ++ (x ∷ [])) (xs ++ b))
        ≡ cond t (begun ∷ lines_from false [] xs) (lines_from false (begun ++ (x ∷ [])) xs) ++ lines_from ended (cond t (left_of [] xs) (left_of (begun ++ (x ∷ [])) xs)) b
    by true closed more = ap (λ (l : List (List ℕ)). begun ∷ l) closed
    by false closed more = more

-- a line that is begun can be read again from its first byte
again : (ended : Bool) (a : List ℕ) (begun b : List ℕ) → ((c : List ℕ) → lines_from ended [] (begun ++ c) ≡ lines_from ended begun c)
    → lines_from ended [] (left_of begun a ++ b) ≡ lines_from ended (left_of begun a) b
unfolding left_of lines_from
again ended [] begun b reread = reread b
again ended (x ∷ xs) begun b reread = by (eqb x 10) refl (again ended xs [] b (λ c. refl)) (again ended xs (begun ++ (x ∷ [])) b)
  where
    by : (t : Bool) → eqb x 10 ≡ t → lines_from ended [] (left_of [] xs ++ b) ≡ lines_from ended (left_of [] xs) b
        → (((c : List ℕ) → lines_from ended [] ((begun ++ (x ∷ [])) ++ c) ≡ lines_from ended (begun ++ (x ∷ [])) c) → lines_from ended [] (left_of (begun ++ (x ∷ [])) xs ++ b) ≡ lines_from ended (left_of (begun ++ (x ∷ [])) xs) b)
        → lines_from ended [] (cond t (left_of [] xs) (left_of (begun ++ (x ∷ [])) xs) ++ b) ≡ lines_from ended (cond t (left_of [] xs) (left_of (begun ++ (x ∷ [])) xs)) b
    by true e closed more = closed
    by false e closed more = more (λ c. ap (lines_from ended []) (append_assoc begun (x ∷ []) c) ∙ reread (x ∷ c) ∙ ap (λ (t : Bool). cond t (begun ∷ lines_from ended [] c) (lines_from ended (begun ++ (x ∷ [])) c)) e)

-- what is left of a part goes before the next one
pub parts_are_lines : (ended : Bool) (a b : List ℕ) → lines_in ended (a ++ b) ≡ lines_in false a ++ lines_in ended (left_of [] a ++ b)
unfolding lines_in
parts_are_lines ended a b = split_lines ended [] a b ∙ ap (λ (l : List (List ℕ)). lines_from false [] a ++ l) (sym (again ended a [] b (λ c. refl)))

-- what is left of a part is what follows its closed lines
left_is_rest : (begun a : List ℕ) → drop (spent_on (lines_from false begun a)) (begun ++ a) ≡ left_of begun a
unfolding lines_from left_of spent_on
left_is_rest begun [] = ap (λ (l : List (List ℕ)). drop (spent_on l) (begun ++ [])) (unclosed_none begun) ∙ append-nil begun
left_is_rest begun (x ∷ xs) = by (eqb x 10) (left_is_rest [] xs) (left_is_rest (begun ++ (x ∷ [])) xs)
  where
    past : (a b : ℕ) → suc a + b ≡ a + suc b
    past a b = omega arith

    by : (t : Bool) → drop (spent_on (lines_from false [] xs)) xs ≡ left_of [] xs
        → drop (spent_on (lines_from false (begun ++ (x ∷ [])) xs)) ((begun ++ (x ∷ [])) ++ xs) ≡ left_of (begun ++ (x ∷ [])) xs
        → drop (spent_on (cond t (begun ∷ lines_from false [] xs) (lines_from false (begun ++ (x ∷ [])) xs))) (begun ++ x ∷ xs) ≡ cond t (left_of [] xs) (left_of (begun ++ (x ∷ [])) xs)
    by true closed more = ap (λ (n : ℕ). drop n (begun ++ x ∷ xs)) (past (length begun) (spent_on (lines_from false [] xs))) ∙ drop-append-add begun (x ∷ xs) (suc (spent_on (lines_from false [] xs))) ∙ closed
    by false closed more = ap (drop (spent_on (lines_from false (begun ++ (x ∷ [])) xs))) (sym (append_assoc begun (x ∷ []) xs)) ∙ more

pub left_follows : (a : List ℕ) → drop (spent_on (lines_in false a)) a ≡ left_of [] a
unfolding lines_in
left_follows a = left_is_rest [] a

-- ## Runs

then_run : (n : ℕ) (text : List ℕ) (r q : Run) → then n text (run_then r q) ≡ run_then (then n text r) q
then_run n text r q =
    ap (λ (l : List ℕ). record { bytes = l; used = suc n + (r.used + q.used); player = q.player; ended = q.ended }) (sym (append_assoc text r.bytes q.bytes))
    ∙ ap (λ (u : ℕ). record { bytes = (text ++ r.bytes) ++ q.bytes; used = u; player = q.player; ended = q.ended }) (sym (add_assoc (suc n) r.used q.used))

none_before : (p : Player) (r : Run) → r ≡ run_then (stopped p (Ok tt)) r
none_before p r = ap (λ (u : ℕ). record { bytes = r.bytes; used = u; player = r.player; ended = r.ended }) (zero_is r.used)
  where
    zero_is : (n : ℕ) → n ≡ 0 + n
    zero_is n = omega arith

-- lines played in two parts, the first of which had room for all of its own
pub parts_are_run : (t : Output) (k : Clocks) (p : Player) (xs ys : List (List ℕ)) (free : ℕ) → (run t k p xs free).ended ≡ Ok tt
    → run t k p (xs ++ ys) free ≡ onward t k free ys (run t k p xs free)
parts_are_run t k p [] ys free e =
    ap (run t k p ys) (sym (sub-zero free)) ∙ none_before p (run t k p ys (free - 0)) ∙ ap (onward t k free ys) (sym (run_no_lines t k p free))
parts_are_run t k p (l ∷ xs) ys free e =
    ⊎_elim
    (λ h. absurd (err_not_ok (sym (ap (λ (r : Run). r.ended) (run_no_room t k p l xs free h)) ∙ e)))
    (λ h.
    let text = line_text t k p l in
    let r = run t k (next_player t k p l) xs (free - length text) in
    run_one_more t k p l (xs ++ ys) free h
    ∙ ap (then (length l) text) (parts_are_run t k (next_player t k p l) xs ys (free - length text) (sym (ap (λ (x : Run). x.ended) (run_one_more t k p l xs free h)) ∙ e))
    ∙ then_run (length l) text r (run t k r.player ys (free - length text - length r.bytes))
    ∙ ap (λ (n : ℕ). run_then (then (length l) text r) (run t k r.player ys n)) (fewer free (length text) (length r.bytes) (length (text ++ r.bytes)) (length-append text r.bytes))
    ∙ ap (onward t k free ys) (sym (run_one_more t k p l xs free h)))
    (below_or_not free 80)
  where
    fewer : (f a b c : ℕ) → c ≡ a + b → f - a - b ≡ f - c
    fewer f a b c h = omega arith

-- a run that had room for all used them all
pub used_is_spent : (t : Output) (k : Clocks) (p : Player) (ls : List (List ℕ)) (free : ℕ) → (run t k p ls free).ended ≡ Ok tt → (run t k p ls free).used ≡ spent_on ls
unfolding spent_on
used_is_spent t k p [] free e = ap (λ (r : Run). r.used) (run_no_lines t k p free)
used_is_spent t k p (l ∷ ls) free e =
    ⊎_elim
    (λ h. absurd (err_not_ok (sym (ap (λ (r : Run). r.ended) (run_no_room t k p l ls free h)) ∙ e)))
    (λ h.
    ap (λ (r : Run). r.used) (run_one_more t k p l ls free h)
    ∙ ap (λ (n : ℕ). suc (length l) + n) (used_is_spent t k (next_player t k p l) ls (free - length (line_text t k p l)) (sym (ap (λ (r : Run). r.ended) (run_one_more t k p l ls free h)) ∙ e)))
    (below_or_not free 80)

-- ## Long lines

-- a line of more than 64 bytes is malformed, whatever they are
long_is_malformed : (l : List ℕ) → 64 < length l → call_of l ≡ None
unfolding call_of timed_of
long_is_malformed l h = rw (lt-ltb 64 (length l) h)

long_are_alike : (k : Clocks) (h : Host) (l m : List ℕ) → 64 < length l → 64 < length m → answer_of k h l ≡ answer_of k h m
unfolding answer_of
long_are_alike k h l m a b = ap (parsed_of k h) (long_is_malformed l a ∙ sym (long_is_malformed m b))

take_alike : (n : ℕ) {xs ys : List (List ℕ)} → Alike xs ys → Alike (take n xs) (take n ys)
take_alike n same = same
take_alike zero (long a b) = same
take_alike (suc n) (long a b) = long a b

unclosed_alike : (ended : Bool) (l m : List ℕ) → 64 < length l → 64 < length m → Alike (unclosed ended l) (unclosed ended m)
unclosed_alike ended [] m h k = absurd (omega arith)
unclosed_alike ended (x ∷ l) [] h k = absurd (omega arith)
unclosed_alike true (x ∷ l) (y ∷ m) h k = long h k
unclosed_alike false (x ∷ l) (y ∷ m) h k = same

longer : (l : List ℕ) (z : ℕ) → 64 < length l → 64 < length (l ++ (z ∷ []))
longer l z h = let e : length (l ++ (z ∷ [])) ≡ length l + 1 = length-append l (z ∷ []) in omega arith

cut_lines : (ended : Bool) (l m b : List ℕ) → 64 < length l → 64 < length m → Alike (lines_from ended l b) (lines_from ended m b)
unfolding lines_from
cut_lines ended l m [] h k = unclosed_alike ended l m h k
cut_lines ended l m (z ∷ b) h k = by (eqb z 10) (cut_lines ended (l ++ (z ∷ [])) (m ++ (z ∷ [])) b (longer l z h) (longer m z k))
  where
    by : (t : Bool) → Alike (lines_from ended (l ++ (z ∷ [])) b) (lines_from ended (m ++ (z ∷ [])) b)
        → Alike (cond t (l ∷ lines_from ended [] b) (lines_from ended (l ++ (z ∷ [])) b)) (cond t (m ∷ lines_from ended [] b) (lines_from ended (m ++ (z ∷ [])) b))
    by true more = long h k
    by false more = more

-- a line and the lines after it, by the line's answer
abbrev on_from : Output → Clocks → Player → List (List ℕ) → ℕ → ℕ → Answer → Run
on_from t k p ls free n a =
    let text = text_by t (p.lines + 1) (answered t p a).seen a in
    then n text (run t k (answered t p a) ls (free - length text))

alike_run : (t : Output) (k : Clocks) (p : Player) {xs ys : List (List ℕ)} (free : ℕ) → Alike xs ys → Same (run t k p xs free) (run t k p ys free)
unfolding line_text
alike_run t k p free same = record { bytes = refl; player = refl; ended = refl }
alike_run t k p free (long {l} {m} {ls} a b) = ⊎_elim no_room room (below_or_not free 80)
  where
    alike : {A : Type 0} (f : Run → A) → free < 80 → f (run t k p (l ∷ ls) free) ≡ f (run t k p (m ∷ ls) free)
    alike f h = ap f (run_no_room t k p l ls free h) ∙ sym (ap f (run_no_room t k p m ls free h))

    no_room : free < 80 → Same (run t k p (l ∷ ls) free) (run t k p (m ∷ ls) free)
    no_room h = record { bytes = alike (λ r. r.bytes) h; player = alike (λ r. r.player) h; ended = alike (λ r. r.ended) h }

    room : 80 ≤ free → Same (run t k p (l ∷ ls) free) (run t k p (m ∷ ls) free)
    room h =
        let e = long_are_alike k p.host l m a b in
        record {
          bytes = ap (λ (r : Run). r.bytes) (run_one_more t k p l ls free h) ∙ ap (λ (x : Answer). (on_from t k p ls free 0 x).bytes) e ∙ sym (ap (λ (r : Run). r.bytes) (run_one_more t k p m ls free h));
          player = ap (λ (r : Run). r.player) (run_one_more t k p l ls free h) ∙ ap (λ (x : Answer). (on_from t k p ls free 0 x).player) e ∙ sym (ap (λ (r : Run). r.player) (run_one_more t k p m ls free h));
          ended = ap (λ (r : Run). r.ended) (run_one_more t k p l ls free h) ∙ ap (λ (x : Answer). (on_from t k p ls free 0 x).ended) e ∙ sym (ap (λ (r : Run). r.ended) (run_one_more t k p m ls free h));
        }

-- a line that was begun may be cut to its first 65 bytes
pub cut_is_alike : (t : Output) (k : Clocks) (p : Player) (ended : Bool) (begun b : List ℕ) (n free : ℕ) → 65 ≤ length begun
    → Same (run t k p (take n (lines_from ended begun b)) free) (run t k p (take n (lines_from ended (take 65 begun) b)) free)
cut_is_alike t k p ended begun b n free h =
    alike_run t k p free (take_alike n (cut_lines ended begun (take 65 begun) b (omega arith) (let e : length (take 65 begun) ≡ 65 = length-take-le 65 begun h in omega arith)))
