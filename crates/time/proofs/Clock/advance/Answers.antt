-- `time::Clock::advance` meets its contract: one law of the move for each way out.
-- Assumes nothing.
use Rattle.std.specs.Prelude.{Err}
use Rattle.std.proofs.Common.{◌≡◌, ℕ, ◌+◌, ◌*◌, ◌/◌, ◌%◌, ◌^◌, ◌≤◌, false, sym, ap, ◌∙◌, arith, rules}
use Rattle.time.specs.Clock.{span, start_after, zero_in}
use Rattle.time.specs.Time.{moment_of, time_of}
use Rattle.time.proofs.Laws.{moment_refused, no_zero}
use Rattle.time.proofs.Moves.{move_zero, move_long, move_past, move_made}
use Rattle.time.proofs.Sums.{low_only}
use Rattle.time.proofs.Clock.advance.Goals as goal
use Rattle.time.proofs.Clock.advance.Goals.{After-edge_of, After-left_over-fraction}

long : (h l x : ℕ) → h * 2 ^ 64 + l ≡ x → (h ≡ 0 → ⊥) → 2 ^ 64 ≤ x
long h l x e some = omega arith

-- no zero in the clock, the new ordinal and what is left over
sound : (l : After-left_over-fraction) → zero_in l.args.self ≡ false
sound l = sym l.has_zero.ensures ∙ l.if-has_zero.false

low : (l : After-left_over-fraction) →
    let a = l.args in
    l.sum-ordinal.result.low ≡ a.self.ordinal + a.edges
low l =
    let a = l.args in
    low_only l.sum-ordinal.result.high l.sum-ordinal.result.low (a.self.ordinal + a.edges) l.sum-ordinal.ensures l.if-ordinal-ne0.false

left : (l : After-left_over-fraction) →
    let a = l.args in
    l.left_over-fraction.result ≡ span a.self a.edges % a.self.numerator
left l =
    let a = l.args in
    l.left_over-fraction.ensures ∙ ap (λ (n : ℕ). (n * 2 ^ 64 + a.self.fraction) % a.self.numerator) l.periods_of-periods.ensures

-- the new start
told : (e : After-edge_of) →
    let a = e.args in
    e.edge_of.result ≡ moment_of (start_after a.edges a.self)
told e =
    let a = e.args in
    e.edge_of.ensures ∙ ap (λ (n : ℕ). moment_of (time_of a.self.start + (n * 2 ^ 64 + a.self.fraction) / a.self.numerator)) e.periods_of-periods.ensures

pub returns-then-has_zero : goal.returns-then-has_zero
returns-then-has_zero c =
    let a = c.args in
    move_zero a.edges a.self (sym c.has_zero.ensures ∙ c.if-has_zero.true)

pub returns-then-ordinal-ne0 : goal.returns-then-ordinal-ne0
returns-then-ordinal-ne0 c =
    let a = c.args in
    move_long a.edges a.self (sym c.has_zero.ensures ∙ c.if-has_zero.false)
    (long c.sum-ordinal.result.high c.sum-ordinal.result.low (a.self.ordinal + a.edges) c.sum-ordinal.ensures c.if-ordinal-ne0.true)

pub left_over-fraction-requires : goal.left_over-fraction-requires
left_over-fraction-requires c =
    (no_zero c.args.self (sym c.has_zero.ensures ∙ c.if-has_zero.false)).0

pub edge_of-requires : goal.edge_of-requires
edge_of-requires c = (no_zero _ (sound c.before)).0

pub returns-in_err-start : goal.returns-in_err-start
returns-in_err-start c =
    let a = c.args in
    let r = c.in_err-start.field-0.0 in
    let e : moment_of (start_after a.edges a.self) ≡ Err r = sym (told c.before.before.before) ∙ c.in_err-start.was in
    let given : c.from_residual.result ≡ Err r = search rules in
    given ∙ ap Err (moment_refused (start_after a.edges a.self) r e).0 ∙ move_past a.edges r a.self (sound c.before.before.before.before.before) e

pub returns : goal.returns
returns c =
    let a = c.args in
    move_made a.edges c.sum-ordinal.result.low c.left_over-fraction.result a.self c.in_ok-start.start (sound c.before.before.before.before) (low c.before.before.before.before) (search rules) (sym (told c.before.before) ∙ c.in_ok-start.was) (left c.before.before.before.before)
