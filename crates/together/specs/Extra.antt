-- Definitions: document 02, (g), on extra visits of a bench's units: "Extra idle visits, neither counted nor written, change no answer line or state until another call
-- is refused." The proof is `extra_visits_lem` in proofs/ExtraProof.antt.
use Rattle.std.specs.Prelude.{ℕ, suc, ◌≤◌, Bool, true, false, cond, ◌||◌, List, [], ◌∷◌, ◌≡◌, eqb, set}
use Rattle.clocks.specs.declared.Clocks.{Clocks}
use Rattle.time.specs.declared.Time.{Time}
use Rattle.hosts.specs.Calls.{Host, advance, after, idle, outcome_of}
use Rattle.iic.specs.Told.{is_refusal}
use Rattle.bench.specs.Bench.{Run, next, start}
use Rattle.together.specs.Calls.{Made, made, none, one, run_at, unit_in}

-- ## A run that is watched

-- of a unit: whether a write has lifted the reset with no visit since (document 01, idle calls), and whether a call that the bench made of it was refused
pub record Past : Type 0 where
  pub lifted : Bool
  pub refused : Bool

pub record Watched : Type 0 where
  pub run : Run
  pub past : ℕ → Past

abbrev pub watched : List ℕ → Watched
watched script = record { run = start script; past = λ u. record { lifted = false; refused = false } }

-- a unit as document 01 judges its idle calls
abbrev pub host_in : Watched → ℕ → Host
host_in w u = record { state = unit_in w.run u; lifted = (w.past u).lifted }

-- ## Steps of the bench, with extra visits between them

-- a step of the bench, or an extra visit of a unit at a time
pub data Move : Type 0 where
  step : Move
  visit : ℕ → Time → Move

-- after the call that the bench makes
abbrev pub past_by : Clocks → Made → Watched → ℕ → Past
past_by k none w u = w.past u
past_by k (one i x) w u =
    cond (eqb u i)
    (record { lifted = (after k x (host_in w u)).lifted; refused = (w.past u).refused || is_refusal (outcome_of k x (unit_in w.run u)).answer }) (w.past u)

-- after an extra visit
abbrev pub past_visit : Clocks → ℕ → Time → Watched → ℕ → Past
past_visit k i t w u = cond (eqb u i) (record { lifted = (after k (advance t) (host_in w u)).lifted; refused = (w.past u).refused }) (w.past u)

-- the unit's state is what the visit leaves, answered or refused; it is "neither counted nor written"
abbrev pub visited_run : Clocks → ℕ → Time → Run → Run
visited_run k u t r = record {
  bench = record { states = set r.bench.states u (outcome_of k (advance t) (unit_in r u)).state; place = r.bench.place };
  lines = r.lines;
  answered = r.answered;
  bytes = r.bytes;
}

abbrev pub moved : Clocks → ℕ → ℕ → Move → Watched → Watched
moved k count room step w = record { run = next k count room w.run; past = past_by k (made k count room w.run) w }
moved k count room (visit i t) w = record { run = visited_run k i t w.run; past = past_visit k i t w }

abbrev pub moved_all : Clocks → ℕ → ℕ → List Move → Watched → Watched
moved_all k count room [] w = w
moved_all k count room (m ∷ l) w = moved_all k count room l (moved k count room m w)

-- the steps of the bench among them
abbrev pub counts_step : Move → ℕ → ℕ
counts_step step n = suc n
counts_step (visit u t) n = n

abbrev pub steps : List Move → ℕ
steps [] = 0
steps (m ∷ l) = counts_step m (steps l)

-- ## The statement

-- an extra visit is idle on the state that the unit has then, and no call of that unit was refused before it
abbrev pub Idle : Clocks → Move → Watched → Type 0
Idle k step w = Unit {0}
Idle k (visit u t) w = ((w.past u).refused ≡ false) × (idle k (advance t) (host_in w u) ≡ true)

abbrev pub AllIdle : Clocks → ℕ → ℕ → List Move → Watched → Type 0
AllIdle k count room [] w = Unit {0}
AllIdle k count room (m ∷ l) w = Idle k m w × AllIdle k count room l (moved k count room m w)

-- Over any clock set, script and buffer, with any extra visits before, between and after the steps of the bench: the run is the one without them, so that the bytes,
-- the lines answered, the end and all states are the same.
abbrev pub ExtraVisits : Type 0
ExtraVisits =
    (k : Clocks) (count room : ℕ) → count ≤ 4 → (script : List ℕ) (l : List Move) → AllIdle k count room l (watched script)
    → (moved_all k count room l (watched script)).run ≡ run_at k count room script (steps l)
