-- Definitions: document 02, (g), on two peripherals of a bench, over the steps of the bench's own definition. The proof is `equal_on_bench_lem` in proofs/RunsProof.antt.
use Rattle.std.specs.Prelude.{ℕ, ◌≤◌, ◌<◌, Bool, true, false, List, ◌≡◌, eqb}
use Rattle.clocks.specs.declared.Clocks.{Clocks}
use Rattle.hosts.specs.Calls.{Call, deadline}
use Rattle.wires.specs.Statement.{InWord}
use Rattle.wires.specs.Units.{Answered, On}
use Rattle.bench.specs.declared.Doing.{Doing}
use Rattle.bench.specs.declared.Doing.TheVariants.{Looks, Visits, Plays, Reports, Ended}
use Rattle.together.specs.Calls.{asks, doing_in, made, one, run_at, unit_in}
use Rattle.refusals.specs.Refusals.{number_ended}

-- the bench reports the levels
abbrev pub is_reporting : Doing → Bool
is_reporting (Looks present) = false
is_reporting (Visits t u) = false
is_reporting (Plays t) = false
is_reporting (Reports t w u) = true
is_reporting (Ended n) = false

-- what is asked of each of the two units, in so many steps
pub record Shares (k : Clocks) (count room : ℕ) (script : List ℕ) (n u : ℕ) : Type 0 where
  -- "with no call of either refused": no visit, script line or report
  pub answered : (i : ℕ) → i < n → (x : Call) → made k count room (run_at k count room script i) ≡ one u x → Answered k x (unit_in (run_at k count room script i) u)
  -- "deadlines included"
  pub dated : (i : ℕ) → i < n → asks count (run_at k count room script i) ≡ true → Answered k deadline (unit_in (run_at k count room script i) u)
  -- "enabled and gated on in the first moment and ever since": wherever the bench reports levels, and after every step from there on
  pub on : (i j : ℕ) → i ≤ j → j ≤ n → is_reporting (doing_in (run_at k count room script i)) ≡ true → On (unit_in (run_at k count room script j) u)

-- "after every moment": the bench looks for the next one, or has ended with 0
abbrev pub is_between : Doing → Bool
is_between (Looks present) = true
is_between (Visits t u) = false
is_between (Plays t) = false
is_between (Reports t w u) = false
is_between (Ended n) = eqb (number_ended n) 0

-- Document 02, (g): "Two peripherals enabled and gated on in the first moment and ever since, .., with no call of either refused, deadlines included, show equal
-- filtered levels after every moment, whatever else their scripts write." Over any clock set, script, buffer and number of steps, whatever the other units do. Each
-- unit begins at its default, so with the default rate set. That IICRST is never set isn't needed.
abbrev pub EqualOnBench : Type 0
EqualOnBench =
    (k : Clocks) → InWord k → (count room : ℕ) → count ≤ 4 → (script : List ℕ) (n a b : ℕ) → a < count → b < count
    → Shares k count room script n a → Shares k count room script n b
    → is_between (doing_in (run_at k count room script n)) ≡ true
    → (unit_in (run_at k count room script n) a).lines.filtered ≡ (unit_in (run_at k count room script n) b).lines.filtered
