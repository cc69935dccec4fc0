-- How a run goes on, and the invariant of the loop that plays.
-- Assumes nothing.
use mathlib.Core.Path.{◌≡◌, refl, sym, ap, ◌∙◌, subst}
use mathlib.Core.List.{List, [], ◌∷◌, ◌++◌, append-nil, append_assoc}
use Prim.Native.Nat.{ℕ, zero, suc, ◌+◌, ◌-◌, ◌≤◌, ◌<◌, min}
use native.Mathlib.Nat.{add-zero, sub-zero, add_assoc}
use native.Mathlib.Omega.{arith}
use lib.ListN.{length, take, drop, length-append, length-drop, take-append-drop}
use lib.Seq.{length-take-le, drop-drop, take_at, drop_at}
use Rattle.std.specs.Prelude.{Result, Ok, Err, ⊤}
use Rattle.refusals.specs.declared.Refusal.{Refusal}
use Rattle.refusals.specs.declared.Refusal.TheVariants.{NoRoom}
use Rattle.clocks.specs.declared.Clocks.{Clocks}
use Rattle.answers.specs.declared.Output.{Output}
use Rattle.answers.specs.declared.Seen.{Seen}
use Rattle.player.specs.declared.Player.{Player}
use Rattle.answers.specs.declared.Answer.{Answer}
use Rattle.lines.specs.LineLaws.{take_next}
use Rattle.answers.specs.Calls.{answer_of}
use Rattle.answers.specs.Puts.{Put}
use Rattle.answers.specs.Answers.{text_by}
use Rattle.player.specs.TraceLaws.{run_no_room, run_one_more}
use Rattle.player.specs.Trace.{answered, lines_left, Run, stopped, line_text, next_player, run, over, progress_of}

-- bytes and a number used before a run
abbrev pub prefix : List ℕ → ℕ → Run → Run
prefix xs n r = record { bytes = xs ++ r.bytes; used = n + r.used; player = r.player; ended = r.ended }

prefix_twice : (a b : List ℕ) (n m : ℕ) (r : Run) → prefix a n (prefix b m r) ≡ prefix (a ++ b) (n + m) r
prefix_twice a b n m r =
    ap (λ (l : List ℕ). record { bytes = l; used = n + (m + r.used); player = r.player; ended = r.ended }) (sym (append_assoc a b r.bytes))
    ∙ ap (λ (u : ℕ). record { bytes = (a ++ b) ++ r.bytes; used = u; player = r.player; ended = r.ended }) (sym (add_assoc n m r.used))

-- ## Steps of a run

pub run_none : (t : Output) (k : Clocks) (p : Player) (ls : List (List ℕ)) (free : ℕ) → ls ≡ [] → run t k p (lines_left p ls) free ≡ stopped p (Ok tt)
unfolding run
run_none t k p ls free e = ap (λ (l : List (List ℕ)). run t k p (lines_left p l) free) e ∙ none (1000000 - p.lines)
  where
    none : (n : ℕ) → run t k p (take n []) free ≡ stopped p (Ok tt)
    none zero = refl
    none (suc n) = refl

pub run_over : (t : Output) (k : Clocks) (p : Player) (ls : List (List ℕ)) (free : ℕ) → 1000000 ≤ p.lines → run t k p (lines_left p ls) free ≡ stopped p (Ok tt)
unfolding run
run_over t k p ls free h = ap (λ (n : ℕ). run t k p (take n ls) free) (none p.lines h)
  where
    none : (n : ℕ) → 1000000 ≤ n → 1000000 - n ≡ 0
    none n h = omega arith

pub run_full : (t : Output) (k : Clocks) (p : Player) (l : List ℕ) (ls rest : List (List ℕ)) (free : ℕ) → ls ≡ l ∷ rest → p.lines < 1000000 → free < 80 → run t k p (lines_left p ls) free ≡ stopped p (Err NoRoom)
run_full t k p l ls rest free e below h =
    ap (λ (x : List (List ℕ)). run t k p (lines_left p x) free) e ∙ ap (λ (x : List (List ℕ)). run t k p x free) (take_next p.lines l rest below) ∙ run_no_room t k p l (take (1000000 - (p.lines + 1)) rest) free h

pub run_more : (t : Output) (k : Clocks) (p : Player) (l : List ℕ) (ls rest : List (List ℕ)) (free : ℕ) → ls ≡ l ∷ rest → p.lines < 1000000 → 80 ≤ free
    → run t k p (lines_left p ls) free ≡ prefix (line_text t k p l) (suc (length l)) (run t k (next_player t k p l) (lines_left (next_player t k p l) rest) (free - length (line_text t k p l)))
run_more t k p l ls rest free e below h =
    ap (λ (x : List (List ℕ)). run t k p (lines_left p x) free) e ∙ ap (λ (x : List (List ℕ)). run t k p x free) (take_next p.lines l rest below) ∙ run_one_more t k p l (take (1000000 - (p.lines + 1)) rest) free h

-- ## The loop's invariant: what is written is what the run has given so far, and the run goes on from here

-- of the bytes of the text so many are used: those of the lines played, the newline that the last may lack left out
pub record Going (t : Output) (k : Clocks) (long : ℕ) (all : List (List ℕ)) (before : List ℕ) (p₀ : Player) (out : List ℕ) (p : Player) (ls : List (List ℕ)) (used written : ℕ) : Type 0 where
  pub used_le : used ≤ long
  pub written_le : written ≤ length before
  pub same_long : length out ≡ length before
  pub rest : drop written out ≡ drop written before
  pub spent : ℕ
  pub used_is : used ≡ min long spent
  pub goes : run t k p₀ (lines_left p₀ all) (length before) ≡ prefix (take written out) spent (run t k p (lines_left p ls) (length before - written))

-- the same of an equal buffer
pub going_as : {t : Output} {k : Clocks} {long : ℕ} {all : List (List ℕ)} {before : List ℕ} {p₀ : Player} {out out' : List ℕ} {p : Player} {ls : List (List ℕ)} {used written : ℕ} → out ≡ out'
    → Going t k long all before p₀ out p ls used written → Going t k long all before p₀ out' p ls used written
going_as {t} {k} {long} {all} {before} {p₀} {out} {out'} {p} {ls} {used} {written} e g = subst (λ (l : List ℕ). Going t k long all before p₀ l p ls used written) e g

pub going : (t : Output) (k : Clocks) (long : ℕ) (all : List (List ℕ)) (before : List ℕ) (p : Player) → Going t k long all before p before p all 0 0
going t k long all before p = record {
  used_le = omega arith;
  written_le = omega arith;
  same_long = refl;
  rest = refl;
  spent = 0;
  used_is = omega arith;
  goes = ap (λ (n : ℕ). run t k p (lines_left p all) n) (sym (sub-zero (length before))) ∙ zero_used (run t k p (lines_left p all) (length before - 0));
}
  where
    zero_used : (r : Run) → r ≡ prefix [] 0 r
    zero_used r = ap (λ (u : ℕ). record { bytes = r.bytes; used = u; player = r.player; ended = r.ended }) (none r.used)
      where
        none : (n : ℕ) → n ≡ 0 + n
        none n = omega arith

module _ {t : Output} {k : Clocks} {long : ℕ} {all : List (List ℕ)} {before : List ℕ} {p₀ : Player} {out : List ℕ} {p : Player} {ls : List (List ℕ)} {used written : ℕ} (g : Going t k long all before p₀ out p ls used written) where
  abbrev whole : Run
  whole = run t k p₀ (lines_left p₀ all) (length before)

  taken_long : length (take written out) ≡ written
  taken_long = length-take-le written out (let l = g.same_long in let w = g.written_le in omega arith)

  -- the end, with the refusal that the run ends with
  module _ (n : Result ⊤ Refusal) (e : run t k p (lines_left p ls) (length before - written) ≡ stopped p n) where
    ends : whole ≡ record { bytes = take written out; used = g.spent; player = p; ended = n }
    ends =
        g.goes
        ∙ ap (prefix (take written out) g.spent) e
        ∙ ap (λ (l : List ℕ). record { bytes = l; used = g.spent + 0; player = p; ended = n }) (append-nil (take written out))
        ∙ ap (λ (u : ℕ). record { bytes = take written out; used = u; player = p; ended = n }) (add-zero g.spent)

    pub done_is : record { used = used; written = written; ended = n; player = p } ≡ progress_of long whole
    done_is = sym (
        ap (progress_of long) ends
        ∙ ap (λ (u : ℕ). record { used = u; written = length (take written out); ended = n; player = p }) (sym g.used_is)
        ∙ ap (λ (u : ℕ). record { used = used; written = u; ended = n; player = p }) taken_long)

    pub done_over : out ≡ over whole before
    done_over = sym (
        ap (λ (r : Run). over r before) ends
        ∙ ap (λ (u : ℕ). take written out ++ drop u before) taken_long
        ∙ ap (λ (l : List ℕ). take written out ++ l) (sym g.rest)
        ∙ take-append-drop written out)

  pub finish : (n : Result ⊤ Refusal) → run t k p (lines_left p ls) (length before - written) ≡ stopped p n
      → (record { used = used; written = written; ended = n; player = p } ≡ progress_of long whole) × (out ≡ over whole before)
  finish n e = (done_is n e, done_over n e)

  -- one turn
  module _ (line : List ℕ) (more : List (List ℕ)) (below : p.lines < 1000000) (lines_are : ls ≡ line ∷ more) where
    pub no_room : length before - written < 80 → run t k p (lines_left p ls) (length before - written) ≡ stopped p (Err NoRoom)
    no_room h = run_full t k p line ls more (length before - written) lines_are below h

    abbrev pub text : List ℕ
    text = line_text t k p line

    module _ (room : 80 ≤ length before - written) (out' : List ℕ) (r : ℕ) (r_is : r ≡ length text) (long' : length out' ≡ length out)
        (put : out' ≡ take written out ++ (text ++ drop r (drop written out))) where
      regroup : out' ≡ (take written out ++ text) ++ drop r (drop written out)
      regroup = put ∙ sym (append_assoc (take written out) text (drop r (drop written out)))

      head_long : length (take written out ++ text) ≡ written + r
      head_long = let e : length (take written out ++ text) ≡ length (take written out) + length text = length-append (take written out) text in let w = taken_long in omega arith

      taken : take (written + r) out' ≡ take written out ++ text
      taken = ap (take (written + r)) regroup ∙ take_at (take written out ++ text) (drop r (drop written out)) (written + r) head_long

      remains : drop (written + r) out' ≡ drop (written + r) before
      remains =
          ap (drop (written + r)) regroup
          ∙ drop_at (take written out ++ text) (drop r (drop written out)) (written + r) head_long
          ∙ ap (drop r) g.rest
          ∙ drop-drop r written before

      -- the bytes written are within the buffer
      within : written + r ≤ length before
      within =
          let a : length out' ≡ length (take written out ++ text) + length (drop r (drop written out)) = ap length regroup ∙ length-append (take written out ++ text) (drop r (drop written out)) in
          omega (arith, head_long, g.same_long)

      abbrev next : Run
      next = run t k (next_player t k p line) (lines_left (next_player t k p line) more) (length before - written - length text)

      pub turn : Going t k long all before p₀ out' (next_player t k p line) more (min long (used + length line + 1)) (written + r)
      turn = record {
        used_le = omega arith;
        written_le = within;
        same_long = long' ∙ g.same_long;
        rest = remains;
        spent = g.spent + suc (length line);
        used_is = let a = g.used_is in omega arith;
        goes =
            g.goes
            ∙ ap (prefix (take written out) g.spent) (run_more t k p line ls more (length before - written) lines_are below room)
            ∙ prefix_twice (take written out) text g.spent (suc (length line)) next
            ∙ ap (λ (l : List ℕ). prefix l (g.spent + suc (length line)) next) (sym taken)
            ∙ ap (λ (n : ℕ). prefix (take (written + r) out') (g.spent + suc (length line)) (run t k (next_player t k p line) (lines_left (next_player t k p line) more) n)) free_is;
      }
        where
          free_is : length before - written - length text ≡ length before - (written + r)
          free_is = omega arith

    -- the same from an answer, its line put into the part that starts at the first free byte
    module _ (room : 80 ≤ length before - written) (a : Answer) (a-is : a ≡ answer_of k p.host line) (inner : List ℕ) (r used' : ℕ)
        (w : Seen) (w-is : w ≡ (answered t p a).seen)
        (put : Put (drop written out) inner 0 r (text_by t (p.lines + 1) w a)) (inner-long : length inner ≡ length (drop written out)) (used'-is : used' ≡ min long (used + length line + 1)) where
      text_is : text_by t (p.lines + 1) w a ≡ text
      unfolding line_text
      text_is = ap (λ (x : Seen). text_by t (p.lines + 1) x a) w-is ∙ ap (λ (x : Answer). text_by t (p.lines + 1) (answered t p x).seen x) a-is

      next_is : record { lines = p.lines + 1; seen = w; host = a.host } ≡ next_player t k p line
      next_is = ap (λ (x : Seen). record { lines = p.lines + 1; seen = x; host = a.host }) w-is ∙ ap (answered t p) a-is

      r_is : r ≡ length text
      r_is = let n = put.next in let e : length (text_by t (p.lines + 1) w a) ≡ length text = ap length text_is in omega arith

      put_is : take written out ++ inner ≡ take written out ++ (text ++ drop r (drop written out))
      put_is = ap (λ (l : List ℕ). take written out ++ l) (put.is ∙ ap (λ (l : List ℕ). l ++ drop r (drop written out)) text_is)

      long_is : length (take written out ++ inner) ≡ length out
      long_is =
          let e : length (take written out ++ inner) ≡ length (take written out) + length inner = length-append (take written out) inner in
          let d : length (drop written out) ≡ length out - written = length-drop written out in
          omega (arith, taken_long, g.same_long, g.written_le)

      pub again : Going t k long all before p₀ (take written out ++ inner) (record { lines = p.lines + 1; seen = w; host = a.host }) more used' (written + r)
      again =
          subst (λ (x : Player). Going t k long all before p₀ (take written out ++ inner) x more used' (written + r)) (sym next_is)
          (subst (λ (n : ℕ). Going t k long all before p₀ (take written out ++ inner) (next_player t k p line) more n (written + r)) (sym used'-is)
          (turn room (take written out ++ inner) r r_is long_is put_is))
