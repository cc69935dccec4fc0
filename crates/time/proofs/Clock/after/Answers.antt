-- `time::Clock::after` meets its contract: `has_zero` and the ordinal tell which case it is, and `edge_of` works the time out.
-- Assumes nothing.
use Rattle.std.proofs.Common.{ℕ, ◌+◌, ◌*◌, ◌/◌, ◌^◌, sym, ap, ◌∙◌}
use Rattle.std.proofs.lemmas.Bool.{lt-ltb}
use Rattle.time.specs.Time.{time_of, moment_of}
use Rattle.time.specs.Clock.{edge_of, after_of}
use Rattle.time.proofs.Laws.{no_zero, after_is}
use Rattle.time.proofs.Clock.after.Goals as goal

pub returns-then-has_zero : goal.returns-then-has_zero
unfolding after_of
returns-then-has_zero c = simp (← c.has_zero.ensures, c.if-has_zero.true)

pub returns-then-edges-self : goal.returns-then-edges-self
unfolding after_of
returns-then-edges-self c = simp (← c.has_zero.ensures, c.if-has_zero.false, lt-ltb c.args.edges c.args.self.ordinal c.if-edges-self.true)

pub edge_of-requires : goal.edge_of-requires
edge_of-requires c =
    (no_zero c.args.self (sym c.has_zero.ensures ∙ c.if-has_zero.false)).0

pub returns : goal.returns
unfolding edge_of
returns c =
    let a = c.args in
    c.edge_of.ensures
    ∙ ap (λ (n : ℕ). moment_of (time_of a.self.start + (n * 2 ^ 64 + a.self.fraction) / a.self.numerator)) c.periods_of-periods.ensures
    ∙ sym (after_is a.self a.edges (sym c.has_zero.ensures ∙ c.if-has_zero.false) c.if-edges-self.false)
