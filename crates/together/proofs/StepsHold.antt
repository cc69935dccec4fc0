-- Laws: each step of a bench keeps what holds of its units, `step_holds`, where none of their calls in it is refused and they are on from the first reports on.
-- Assumes nothing.
use Rattle.std.specs.Prelude.{ℕ, zero, suc, ◌+◌, ◌-◌, ◌≤◌, ◌<◌, Bool, not, ◌||◌, List, [], ◌∷◌, ◌≡◌, eqb, leb, ltb, get_or, length, set, None, Option, Some, Ok, Err, Result, ⊤}
use Rattle.std.proofs.Math.Bool.{true, false, true≢false}
use Rattle.std.proofs.lemmas.Bool.{false≢true}
use Rattle.std.proofs.Math.Path.{refl, ap, subst}
use Rattle.std.proofs.Common.{sym, ◌∙◌, arith, length-set, get_or-set_other, get_or-set_same}
use borrow.Author.Tests.{eqb-false, eqb-true, leb-false, leb-true}
use Rattle.bus.specs.declared.Levels.{Levels}
use Rattle.clocks.specs.declared.Clocks.{Clocks}
use Rattle.time.specs.Time.{same_time, time_of}
use Rattle.time.specs.Truths.{by_cases, either, if_false, if_true}
use Rattle.time.specs.declared.Time.{Time}
use Rattle.rates.specs.Rates.{default_rates}
use Rattle.hosts.specs.Calls.{Call, advance, deadline, input_pins}
use Rattle.iic.specs.State.{default_iic}
use Rattle.iic.specs.declared.Iic.{Iic}
use Rattle.answers.specs.Calls as player
use Rattle.lines.specs.declared.Call.{Call as ScriptCall}
use Rattle.answers.specs.declared.Shown.TheVariants.{Nobody}
use Rattle.lines.specs.declared.Verb.{Verb}
use Rattle.lines.specs.declared.Verb.TheVariants as verb
use Rattle.wires.proofs.FirstPass.{default_keeps, line_keeps, on_sound, unnamed}
use Rattle.wires.proofs.Passes.{line_sound, report_sound, visited_sound}
use Rattle.wires.specs.RuleLaws.{default_spaced}
use Rattle.wires.specs.Rules.{Sound}
use Rattle.wires.specs.Statement.{InWord}
use Rattle.wires.specs.Units.{Answered, On, after, gate, named, read, turn, write}
use Rattle.wires.specs.Views.{View, default_view, fired, told}
use Rattle.bench.specs.declared.Bench.{Bench}
use Rattle.bench.specs.declared.Doing.{Doing}
use Rattle.bench.specs.declared.Doing.TheVariants.{Looks, Visits, Plays, Reports, Ended}
use Rattle.bench.specs.declared.Step.{Step}
use Rattle.answers.specs.declared.Line.{Line}
use Rattle.bench.specs.declared.Turn.{Turn}
use Rattle.bench.specs.Bench.{Run}
use Rattle.script.specs.Script.{is_scripted, next_of}
use Rattle.bench.specs.Steps.{Judged, goes, goes_to, look_of, play_now_of, play_of, reports_of, seek_by, seek_of, step_by, step_of, to_reports, turned, turned_away, unless_bad, unmarked, visits_of}
use Rattle.bench.specs.Turns.{passed_by, play_line_of, played_by, report_of, reported_by, unplayed_by, shown_by, visit_due_of, visit_of, visited_by}
use Rattle.units.specs.Units.{is_named, is_present}
use Rattle.bench.specs.Moments.{mark_of, moment_of, state_at, state_in}
use Rattle.together.proofs.CallLaws.{asks_now, made_line, made_report, made_visit}
use Rattle.together.specs.Calls.{asks, call_from, doing_in, goes_on, line_in, made, one, unit_in}
use Rattle.together.specs.Runs.{is_reporting}
use Rattle.together.specs.SameTime.{sound_same, starting_same}
use Rattle.together.specs.Stages.{Begun, Holds, LaterAt, Stage}
use Rattle.together.specs.UnitLaws.{Playable, named_is, no_mark, not_past_lem, playable, state_is}
use Rattle.script.specs.declared.Unplayed.TheVariants.{Unread, Early}
use Rattle.refusals.specs.declared.Refusal.{Refusal}
use Rattle.refusals.specs.Refusals.{number_ended}
use Rattle.refusals.specs.declared.Refusal.TheVariants as refusal

-- ## Lists

-- a mark that is taken away leaves none
stays_false : (l : List Bool) (i u : ℕ) → get_or l u false ≡ false → get_or (set l i false) u false ≡ false
stays_false [] i u h = h
stays_false (x ∷ l) zero zero h = refl
stays_false (x ∷ l) zero (suc u) h = h
stays_false (x ∷ l) (suc i) zero h = h
stays_false (x ∷ l) (suc i) (suc u) h = stays_false l i u h

pub none_marked : (u : ℕ) → get_or (false ∷ false ∷ false ∷ false ∷ []) u false ≡ false
none_marked zero = refl
none_marked (suc zero) = refl
none_marked (suc (suc zero)) = refl
none_marked (suc (suc (suc zero))) = refl
none_marked (suc (suc (suc (suc u)))) = refl

-- ## Numbers

not_below : (u : ℕ) → u < 0 → ⊥
not_below u h = omega arith

not_past_own : (i : ℕ) → i + 1 ≤ i → ⊥
not_past_own i h = omega arith

same_time_lem : (x t : Time) → same_time x t ≡ true → time_of x ≡ time_of t
unfolding same_time
same_time_lem x t e = eqb-true (time_of x) (time_of t) e

six : ◌≡◌ {A = ℕ} 6 0 → ⊥
six e = omega arith

sixteen : ◌≡◌ {A = ℕ} 16 0 → ⊥
sixteen e = omega arith

-- ## Lines of a unit, at a time of the moment's number

module _ (k : Clocks) (t x : Time) (same : time_of x ≡ time_of t) (s : Iic) where
  line_begun : (v : Verb) → is_scripted v ≡ true → Begun t k s → Answered k (call_from x v) s → Begun t k (after k (call_from x v) s)
  unfolding is_scripted
  line_begun (verb.Read a) e h fine =
      starting_same x t same k default_rates default_view (after k (call_from x (verb.Read a)) s)
      (line_keeps x k (read a) s (starting_same t x (sym same) k default_rates default_view s h) fine)
  line_begun (verb.Write a value) e h fine =
      starting_same x t same k default_rates default_view (after k (call_from x (verb.Write a value)) s)
      (line_keeps x k (write a value) s (starting_same t x (sym same) k default_rates default_view s h) fine)
  line_begun (verb.Pins scl sda) e h fine = absurd (false≢true e)
  line_begun (verb.Gate on) e h fine =
      starting_same x t same k default_rates default_view (after k (call_from x (verb.Gate on)) s)
      (line_keeps x k (gate on) s (starting_same t x (sym same) k default_rates default_view s h) fine)
  line_begun verb.Visit e h fine = absurd (false≢true e)
  line_begun verb.Deadline e h fine = absurd (false≢true e)

  line_later : (r : View) (v : Verb) → is_scripted v ≡ true → Sound t k default_rates r s → Answered k (call_from x v) s → On (after k (call_from x v) s)
      → Sound t k default_rates r (after k (call_from x v) s)
  unfolding is_scripted
  line_later r (verb.Read a) e h fine on =
      sound_same x t same k default_rates r (after k (call_from x (verb.Read a)) s)
      (line_sound x k default_rates default_spaced.accepted r s (sound_same t x (sym same) k default_rates r s h) (read a) fine on)
  line_later r (verb.Write a value) e h fine on =
      sound_same x t same k default_rates r (after k (call_from x (verb.Write a value)) s)
      (line_sound x k default_rates default_spaced.accepted r s (sound_same t x (sym same) k default_rates r s h) (write a value) fine on)
  line_later r (verb.Pins scl sda) e h fine on = absurd (false≢true e)
  line_later r (verb.Gate g) e h fine on =
      sound_same x t same k default_rates r (after k (call_from x (verb.Gate g)) s)
      (line_sound x k default_rates default_spaced.accepted r s (sound_same t x (sym same) k default_rates r s h) (gate g) fine on)
  line_later r verb.Visit e h fine on = absurd (false≢true e)
  line_later r verb.Deadline e h fine on = absurd (false≢true e)

-- ## A step

module _ (k : Clocks) (word : InWord k) (count room : ℕ) (small : count ≤ 4) (U : ℕ → Type 0) (below : (u : ℕ) → U u → u < count) (some : ℕ) (is_some : U some)
    (r : Run) (fine : (u : ℕ) → U u → (x : Call) → made k count room r ≡ one u x → Answered k x (unit_in r u))
    (dated : (u : ℕ) → U u → asks count r ≡ true → Answered k deadline (unit_in r u))
    (four : length r.bench.states ≡ 4) (clear : (u : ℕ) → U u → mark_of r.bench.place u ≡ false) where
  abbrev b : Bench
  b = r.bench

  abbrev free : ℕ
  free = room - length r.bytes

  abbrev number : ℕ
  number = r.answered + 1

  abbrev AllOn : Bench → Type 0
  AllOn c = (u : ℕ) → U u → On (state_at c u)

  abbrev Kept : Bool → Step → Type 0
  Kept q s =
      ((q || is_reporting s.bench.place.doing) ≡ true → AllOn s.bench) → Holds k U (q || is_reporting s.bench.place.doing) s.bench

  -- ### What every step has

  within : (i : ℕ) → i < count → i < length b.states
  within i h = omega (arith, four, small)

  -- the state of one unit is set
  each : (i : ℕ) → i < count → (s : Iic) (F : ℕ → Iic → Type 0) → (U i → F i s) → ((u : ℕ) → U u → (u ≡ i → ⊥) → F u (state_at b u))
      → (u : ℕ) → U u → F u (state_in (set b.states i s) u)
  each i h s F own other u x = go (eqb u i) refl
    where
      go : (t : Bool) → eqb u i ≡ t → F u (state_in (set b.states i s) u)
      go true e =
          let same : u ≡ i = eqb-true u i e in
          subst (λ (j : ℕ). F j (state_in (set b.states i s) j)) (sym same)
          (subst (F i) (sym (get_or-set_same b.states i s default_iic (within i h))) (own (subst U same x)))
      go false e = subst (F u) (sym (get_or-set_other b.states i u s default_iic (eqb-false u i e))) (other u x (eqb-false u i e))

  marked : (i : ℕ) (m : Bool) → (U i → m ≡ false) → (u : ℕ) → U u → get_or (set b.place.refused i m) u false ≡ false
  marked i m own u x = go (eqb u i) refl
    where
      go : (t : Bool) → eqb u i ≡ t → get_or (set b.place.refused i m) u false ≡ false
      go true e =
          subst (λ (y : Bool). get_or (set b.place.refused i y) u false ≡ false) (sym (own (subst U (eqb-true u i e) x)))
          (stays_false b.place.refused i u (clear u x))
      go false e = get_or-set_other b.place.refused i u m false (eqb-false u i e) ∙ clear u x

  four_set : (i : ℕ) (s : Iic) → length (set b.states i s) ≡ 4
  four_set i s = length-set b.states i s ∙ four

  -- an end with a refusal
  stops : (q : Bool) (n : Result ⊤ Refusal) → (number_ended n ≡ 0 → ⊥) → (ss : List Iic) → Stage k U q (Ended n) ss
  stops false n ne ss = λ u x e. absurd (ne e)
  stops true n ne ss = (default_view, λ u x e. absurd (ne e))

  ends : (q : Bool) (n : Result ⊤ Refusal) → (number_ended n ≡ 0 → ⊥) → Kept q (goes (Ended n) b)
  ends false n ne on = (four, clear, stops false n ne b.states)
  ends true n ne on = (four, clear, stops true n ne b.states)

  ends_turn : (q : Bool) (n : Result ⊤ Refusal) → (number_ended n ≡ 0 → ⊥) → (i : ℕ) → Kept q (turned i (passed_by (Ended n) b.place (state_at b i)) b)
  ends_turn false n ne i on = (four_set i (state_at b i), clear, stops false n ne (set b.states i (state_at b i)))
  ends_turn true n ne i on = (four_set i (state_at b i), clear, stops true n ne (set b.states i (state_at b i)))

  -- script lines: one that isn't played leaves the bench
  lines : (P : Step → Type 0) (none : Step) (play : ℕ → ScriptCall → Step)
      → P (goes (Ended (Err refusal.NoRoom)) b) → ((x : Option Line) → P (record { bench = b; told = x; answered = true }))
      → (goes_on (line_in count r) ≡ true → P none) → ((u : ℕ) (c : ScriptCall) → line_in count r ≡ Some (Ok (u, c)) → P (play u c))
      → (j : Judged) → line_in count r ≡ j → P (unless_bad number free b none play j)
  unfolding turned_away
  lines P none play end same h g None e = h (ap goes_on e)
  lines P none play end same h g (Some (Err Unread)) e = either P (ltb free 80) end (same (Some (unplayed_by number refusal.Malformed Nobody)))
  lines P none play end same h g (Some (Err (Early u))) e = either P (ltb free 80) end (same (Some (unplayed_by number refusal.NotLater (shown_by u (state_at b u)))))
  lines P none play end same h g (Some (Ok (u, c))) e = g u c e

  -- ### Before the first reports

  stays_first : (d : Doing) → doing_in r ≡ d → Stage k U (is_reporting d) d b.states → (x : Option Line) → Kept false (record { bench = b; told = x; answered = true })
  stays_first d e h x on = (four, clear, subst (λ (y : Doing). Stage k U (is_reporting y) y b.states) (sym e) h)

  look_first : (p : Option Time) → doing_in r ≡ Looks p → Stage k U false (Looks p) b.states → Kept false (look_of k count free number (next_of r.lines) p b)
  unfolding look_of seek_of goes_to unmarked
  look_first (Some m) e h = absurd (h some is_some)
  look_first None e h =
      lines (Kept false) (seek_of k count None (Ok None) b) (λ u c. seek_of k count None (Ok (Some c.time)) b)
      (ends false (Err refusal.NoRoom) six) (stays_first (Looks None) e h) (λ f. seek (Ok None)) (λ u c f. seek (Ok (Some c.time))) (line_in count r) refl
    where
      seek : (line : Result (Option Time) Refusal) → Kept false (seek_of k count None line b)
      seek line = go (moment_of k count None line b)
        where
          go : (m : Result (Option Time) Refusal) → Kept false (seek_by None b m)
          go (Ok None) on = (four, clear, λ u x z. h u x)
          go (Ok (Some t)) on = (four, λ u x. none_marked u, λ u x. h u x)
          go (Err n) on = (four, clear, λ u x z. h u x)

  visits_first : (t : Time) (i : ℕ) → doing_in r ≡ Visits t i → Stage k U false (Visits t i) b.states → Kept false (visits_of k count free t i b)
  unfolding visits_of visit_of visit_due_of
  visits_first t i e h =
      by_cases (Kept false) (leb count i) (λ f on. (four, clear, λ u x. subst (Begun t k) (sym (h u x)) (default_keeps t k)))
      (λ f. let lt : i < count = leb-false count i f in
      by_cases (λ (x : Turn). Kept false (turned i x b)) (is_named k t (mark_of b.place i) (state_at b i))
      (λ n. either (λ (x : Turn). Kept false (turned i x b)) (ltb free 80) (ends_turn false (Err refusal.NoRoom) six i)
      (either (λ (x : Turn). Kept false (turned i x b)) (leb 65536 b.place.visits) (ends_turn false (Err refusal.Visits) sixteen i) (visit lt n)))
      (λ n on. (four_set i (state_at b i), clear, each i lt (state_at b i) (λ u s. s ≡ default_iic) (h i) (λ u x ne. h u x))))
    where
      no_visit : U i → is_named k t (mark_of b.place i) (state_at b i) ≡ true → ⊥
      no_visit x n =
          true≢false (sym n ∙ ap (λ (m : Bool). is_named k t m (state_at b i)) (clear i x) ∙ ap (is_named k t false) (h i x) ∙ named_is k t default_iic ∙ unnamed t k)

      visit : i < count → is_named k t (mark_of b.place i) (state_at b i) ≡ true → Kept false (turned i (visited_by t i (player.outcome_of k t (state_at b i) verb.Visit) b.place) b)
      visit lt n on = (
        four_set i (player.outcome_of k t (state_at b i) verb.Visit).state,
        marked i (not (eqb (number_ended (player.outcome_of k t (state_at b i) verb.Visit).answer) 0)) (λ x. absurd (no_visit x n)),
        each i lt (player.outcome_of k t (state_at b i) verb.Visit).state (λ u s. s ≡ default_iic) (λ x. absurd (no_visit x n)) (λ u x ne. h u x),
      )

  plays_first : (t : Time) → doing_in r ≡ Plays t → Stage k U false (Plays t) b.states → Kept false (play_of k count free number (next_of r.lines) t b)
  unfolding play_of play_now_of play_line_of
  plays_first t e h =
      lines (Kept false) (to_reports count t b) (λ u c. play_now_of k count free number t u c b)
      (ends false (Err refusal.NoRoom) six) (stays_first (Plays t) e h) (λ f. to_reports_lem)
      (λ i c f. by_cases (Kept false) (same_time c.time t)
      (λ same. by_cases (λ (x : Turn). Kept false (turned i x b)) (ltb free 80) (λ full. ends_turn false (Err refusal.NoRoom) six i)
      (λ space. play i c f same (made_line k count room r t i c e f same space))) (λ g. to_reports_lem))
      (line_in count r) refl
    where
      to_reports_lem : Kept false (to_reports count t b)
      to_reports_lem on = (four, clear, (default_view, λ u x. (λ le. on_sound t k (state_at b u) (h u x) (on refl u x), λ lt. absurd (not_below u lt))))

      play : (i : ℕ) (c : ScriptCall) → line_in count r ≡ Some (Ok (i, c)) → same_time c.time t ≡ true → made k count room r ≡ one i (call_from c.time c.verb)
          → Kept false (turned i (played_by c.time number i (player.outcome_of k c.time (state_at b i) c.verb) b.place) b)
      play i c f same is_made on =
          let s : Iic = (player.outcome_of k c.time (state_at b i) c.verb).state in
          let p : Playable count i c = playable count i c r.lines b.place f in (
            four_set i s,
            clear,
            subst (λ (d : Doing). Stage k U (is_reporting d) d (set b.states i s)) (sym e)
                (each i p.there s (λ u y. Begun t k y)
                (λ x. subst (Begun t k) (sym (state_is k c.time (state_at b i) c.verb))
                (line_begun k t c.time (same_time_lem c.time t same) (state_at b i) c.verb p.scripted (h i x) (fine i x (call_from c.time c.verb) is_made)))
                (λ u x ne. h u x)),
          )

  step_first : Stage k U false (doing_in r) b.states → Kept false (step_of k count free number (next_of r.lines) b)
  unfolding step_of
  step_first h = go (doing_in r) refl h
    where
      go : (d : Doing) → doing_in r ≡ d → Stage k U false d b.states → Kept false (step_by k count free number (next_of r.lines) b d)
      go (Looks p) e h = look_first p e h
      go (Visits t i) e h = visits_first t i e h
      go (Plays t) e h = plays_first t e h
      go (Reports t w i) e h = absurd (h some is_some)
      go (Ended n) e h = λ on. (four, clear, h)

  -- ### From the first reports on

  stays_later : (d : Doing) → doing_in r ≡ d → Stage k U true d b.states → (x : Option Line) → Kept true (record { bench = b; told = x; answered = true })
  stays_later d e h x on = (four, clear, subst (λ (y : Doing). Stage k U true y b.states) (sym e) h)

  look_later : (p : Option Time) → doing_in r ≡ Looks p → Stage k U true (Looks p) b.states → Kept true (look_of k count free number (next_of r.lines) p b)
  unfolding look_of seek_of goes_to unmarked
  look_later None e h = absurd (h.1 some is_some)
  look_later (Some m) e h =
      lines (Kept true) (seek_of k count (Some m) (Ok None) b) (λ u c. seek_of k count (Some m) (Ok (Some c.time)) b)
      (ends true (Err refusal.NoRoom) six) (stays_later (Looks (Some m)) e h) (λ f. seek f (Ok None) (moment_of k count (Some m) (Ok None) b) refl)
      (λ u c f. seek (ap goes_on f) (Ok (Some c.time)) (moment_of k count (Some m) (Ok (Some c.time)) b) refl) (line_in count r) refl
    where
      -- a moment that isn't past a deadline of theirs
      comes : goes_on (line_in count r) ≡ true → (line : Result (Option Time) Refusal) (t : Time) → moment_of k count (Some m) line b ≡ Ok (Some t) → Stage k U true (Visits t 0) b.states
      comes f line t g = (
        fired t k h.0,
        λ u x. (
          λ le ok.
              visited_sound k default_rates m h.0 (state_at b u) (h.1 u x) (dated u x (asks_now k count room r (Some m) e f)) t
              (not_past_lem k count m line b t g u (below u x) (omega (arith, below u x, small)) (clear u x)) default_spaced word ok,
          λ lt. absurd (not_below u lt),
        ),
      )

      seek : goes_on (line_in count r) ≡ true → (line : Result (Option Time) Refusal) (x : Result (Option Time) Refusal) → moment_of k count (Some m) line b ≡ x → Kept true (seek_by (Some m) b x)
      seek f line (Ok None) g = λ on. (four, clear, (h.0, λ u x z. (h.1 u x).keeps.filtered))
      seek f line (Ok (Some t)) g =
          either (Kept true) (is_present (Some m) t) (λ on. (four, clear, comes f line t g)) (λ on. (four, λ u x. none_marked u, comes f line t g))
      seek f line (Err n) g = λ on. (four, clear, (h.0, λ u x z. (h.1 u x).keeps.filtered))

  visits_later : (t : Time) (i : ℕ) → doing_in r ≡ Visits t i → Stage k U true (Visits t i) b.states → Kept true (visits_of k count free t i b)
  unfolding visits_of visit_of visit_due_of
  visits_later t i e h =
      by_cases (Kept true) (leb count i) (λ f on. (four, clear, (v, λ u x. (h.1 u x).1 (all u x (leb-true count i f)))))
      (λ f. let lt : i < count = leb-false count i f in
      by_cases (λ (x : Turn). Kept true (turned i x b)) (is_named k t (mark_of b.place i) (state_at b i))
      (λ n. by_cases (λ (x : Turn). Kept true (turned i x b)) (ltb free 80) (λ full. ends_turn true (Err refusal.NoRoom) six i)
      (λ space. by_cases (λ (x : Turn). Kept true (turned i x b)) (leb 65536 b.place.visits) (λ many. ends_turn true (Err refusal.Visits) sixteen i)
      (λ few. visit lt n (made_visit k count room r t i e f n space few))))
      (λ n on. (four_set i (state_at b i), clear, (v, each i lt (state_at b i) (LaterAt k v (Visits t (i + 1))) (passed n) others))))
    where
      v : View
      v = h.0

      all : (u : ℕ) → U u → count ≤ i → u < i
      all u x le = omega (arith, below u x)

      -- named in the words of `wires`
      is : U i → is_named k t (mark_of b.place i) (state_at b i) ≡ named k t (state_at b i)
      is x = ap (λ (m : Bool). is_named k t m (state_at b i)) (clear i x) ∙ named_is k t (state_at b i)

      own : (s : Iic) → Sound t k default_rates v s → LaterAt k v (Visits t (i + 1)) i s
      own s g = (λ le. absurd (not_past_own i le), λ lt. g)

      others : (u : ℕ) → U u → (u ≡ i → ⊥) → LaterAt k v (Visits t (i + 1)) u (state_at b u)
      others u x ne = (λ le. (h.1 u x).0 (omega arith), λ lt. (h.1 u x).1 (omega (arith, ne)))

      passed : is_named k t (mark_of b.place i) (state_at b i) ≡ false → U i → LaterAt k v (Visits t (i + 1)) i (state_at b i)
      passed n x =
          let no : named k t (state_at b i) ≡ false = sym (is x) ∙ n in
          own (state_at b i)
          (subst (Sound t k default_rates v) (if_false (named k t (state_at b i)) (after k (advance t) (state_at b i)) (state_at b i) no)
          ((h.1 i x).0 (omega arith) (λ yes. absurd (true≢false (sym yes ∙ no)))))

      visit : i < count → is_named k t (mark_of b.place i) (state_at b i) ≡ true → made k count room r ≡ one i (advance t)
          → Kept true (turned i (visited_by t i (player.outcome_of k t (state_at b i) verb.Visit) b.place) b)
      visit lt n is_made on = (
        four_set i (player.outcome_of k t (state_at b i) verb.Visit).state,
        marked i (not (eqb (number_ended (player.outcome_of k t (state_at b i) verb.Visit).answer) 0))
            (λ x. no_mark k t (state_at b i) verb.Visit (fine i x (advance t) is_made)),
        (
          v,
          each i lt (player.outcome_of k t (state_at b i) verb.Visit).state (LaterAt k v (Visits t (i + 1)))
              (λ x. own (player.outcome_of k t (state_at b i) verb.Visit).state
              (subst (Sound t k default_rates v)
              (if_true (named k t (state_at b i)) (after k (advance t) (state_at b i)) (state_at b i) (sym (is x) ∙ n) ∙ sym (state_is k t (state_at b i) verb.Visit))
              ((h.1 i x).0 (omega arith) (λ yes. fine i x (advance t) is_made)))) others,
        ),
      )

  plays_later : (t : Time) → doing_in r ≡ Plays t → Stage k U true (Plays t) b.states → Kept true (play_of k count free number (next_of r.lines) t b)
  unfolding play_of play_now_of play_line_of
  plays_later t e h =
      lines (Kept true) (to_reports count t b) (λ u c. play_now_of k count free number t u c b)
      (ends true (Err refusal.NoRoom) six) (stays_later (Plays t) e h) (λ f. to_reports_lem)
      (λ i c f. by_cases (Kept true) (same_time c.time t)
      (λ same. by_cases (λ (x : Turn). Kept true (turned i x b)) (ltb free 80) (λ full. ends_turn true (Err refusal.NoRoom) six i)
      (λ space. play i c f same (made_line k count room r t i c e f same space))) (λ g. to_reports_lem))
      (line_in count r) refl
    where
      to_reports_lem : Kept true (to_reports count t b)
      to_reports_lem on = (four, clear, (h.0, λ u x. (λ le. h.1 u x, λ lt. absurd (not_below u lt))))

      play : (i : ℕ) (c : ScriptCall) → line_in count r ≡ Some (Ok (i, c)) → same_time c.time t ≡ true → made k count room r ≡ one i (call_from c.time c.verb)
          → Kept true (turned i (played_by c.time number i (player.outcome_of k c.time (state_at b i) c.verb) b.place) b)
      play i c f same is_made on =
          let s : Iic = (player.outcome_of k c.time (state_at b i) c.verb).state in
          let p : Playable count i c = playable count i c r.lines b.place f in
          let is : s ≡ after k (call_from c.time c.verb) (state_at b i) = state_is k c.time (state_at b i) c.verb in (
            four_set i s,
            clear,
            subst (λ (d : Doing). Stage k U true d (set b.states i s)) (sym e)
                ((
                  h.0,
                  each i p.there s (λ u y. Sound t k default_rates h.0 y)
                      (λ x. subst (Sound t k default_rates h.0) (sym is)
                      (line_later k t c.time (same_time_lem c.time t same) (state_at b i) h.0 c.verb p.scripted (h.1 i x)
                      (fine i x (call_from c.time c.verb) is_made)
                      (subst On (get_or-set_same b.states i s default_iic (within i p.there) ∙ is) (on refl i x))))
                      (λ u x ne. h.1 u x),
                )),
          )

  reports_later : (t : Time) (w : Levels) (i : ℕ) → doing_in r ≡ Reports t w i → Stage k U true (Reports t w i) b.states → Kept true (reports_of k count free t w i b)
  unfolding reports_of report_of
  reports_later t w i e h =
      by_cases (Kept true) (leb count i) (λ f on. (four, clear, (told w t k h.0, λ u x. (h.1 u x).1 (all u x (leb-true count i f)))))
      (λ f. by_cases (λ (x : Turn). Kept true (turned i x b)) (ltb free 80) (λ full. ends_turn true (Err refusal.NoRoom) six i)
      (λ space. report (leb-false count i f) (made_report k count room r t w i e f space)))
    where
      all : (u : ℕ) → U u → count ≤ i → u < i
      all u x le = omega (arith, below u x)

      report : i < count → made k count room r ≡ one i (input_pins w.scl w.sda t)
          → Kept true (turned i (reported_by t w i (player.outcome_of k t (state_at b i) (verb.Pins w.scl w.sda)) b.place) b)
      report lt is_made on =
          let s : Iic = (player.outcome_of k t (state_at b i) (verb.Pins w.scl w.sda)).state in (
            four_set i s,
            clear,
            (
              h.0,
              each i lt s (LaterAt k h.0 (Reports t w (i + 1)))
                  (λ x. (
                    λ le. absurd (not_past_own i le),
                    λ less.
                        subst (Sound t k default_rates (told w t k h.0)) (sym (state_is k t (state_at b i) (verb.Pins w.scl w.sda)))
                        (report_sound k default_rates default_spaced h.0 (turn t [] w) (state_at b i) ((h.1 i x).0 (omega arith)) (fine i x (input_pins w.scl w.sda t) is_made)),
                  ))
                  (λ u x ne. (λ le. (h.1 u x).0 (omega arith), λ less. (h.1 u x).1 (omega (arith, ne)))),
            ),
          )

  step_later : Stage k U true (doing_in r) b.states → Kept true (step_of k count free number (next_of r.lines) b)
  unfolding step_of
  step_later h = go (doing_in r) refl h
    where
      go : (d : Doing) → doing_in r ≡ d → Stage k U true d b.states → Kept true (step_by k count free number (next_of r.lines) b d)
      go (Looks p) e h = look_later p e h
      go (Visits t i) e h = visits_later t i e h
      go (Plays t) e h = plays_later t e h
      go (Reports t w i) e h = reports_later t w i e h
      go (Ended n) e h = λ on. (four, clear, h)

  pub step_holds : (q : Bool) → Stage k U q (doing_in r) b.states → Kept q (step_of k count free number (next_of r.lines) b)
  step_holds false h = step_first h
  step_holds true h = step_later h
