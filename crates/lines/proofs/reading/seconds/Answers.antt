-- `lines::reading::seconds` meets its contract: what is left to read from place i, after the value n, gives the answer.
-- Assumes nothing.
use Rattle.std.proofs.Common.{arith, refl, sym, ap, ◌∙◌, ◌≡◌, ◌+◌, ◌*◌, ◌^◌, ◌≤◌, ℕ, drop}
use Rattle.lines.specs.Reading.{digit_of, scan, seconds_of}
use Rattle.lines.proofs.Scans.{no_digit, some_digit, scan_closed, scan_needless, scan_large, scan_on, scan_none}
use Rattle.lines.proofs.reading.seconds.Goals as goal

pub loop-i-init : goal.loop-i-init
unfolding seconds_of
loop-i-init c = refl

pub returns-in_default-clause-value : goal.returns-in_default-clause-value
returns-in_default-clause-value c =
    let l = c.loop-i in
    let s = c.args.line.now in
    c.closed.ensures.value ∙ sym (l.invariant ∙ scan_closed s l.i c.loop-i-test.true l.n (no_digit 10 _ (omega arith) (sym c.digit.ensures.value ∙ c.in_default.is)))

pub returns-then-needless-clause-value : goal.returns-then-needless-clause-value
returns-then-needless-clause-value c =
    let l = c.loop-i in
    let s = c.args.line.now in
    let d = some_digit 10 _ _ (sym c.digit.ensures.value ∙ c.in-Some.is) in
    sym (l.invariant ∙ scan_needless s l.i c.loop-i-test.true l.n d.1 c.if-needless.true)

pub returns-in_err-checked_mul-clause-value : goal.returns-in_err-checked_mul-clause-value
returns-in_err-checked_mul-clause-value c =
    let l = c.loop-i in
    let s = c.args.line.now in
    let d = some_digit 10 _ _ (sym c.digit.ensures.value ∙ c.in-Some.is) in
    let h : 2 ^ 64 ≤ l.n * 10 + digit_of _ = omega (arith, c.in_err-checked_mul.ensures) in
    c.from_residual.ensures ∙ sym (l.invariant ∙ scan_large s l.i c.loop-i-test.true l.n d.1 c.if-needless.false h)

pub returns-in_err-n-clause-value : goal.returns-in_err-n-clause-value
returns-in_err-n-clause-value c =
    let l = c.loop-i in
    let s = c.args.line.now in
    let d = some_digit 10 _ _ (sym c.digit.ensures.value ∙ c.in-Some.is) in
    let h : 2 ^ 64 ≤ l.n * 10 + digit_of _ = omega (arith, d.0, c.in_ok-checked_mul.ensures, c.in_err-n.ensures) in
    c.from_residual-in_err-n.ensures ∙ sym (l.invariant ∙ scan_large s l.i c.loop-i-test.true l.n d.1 c.if-needless.false h)

pub loop-i-preserved : goal.loop-i-preserved
loop-i-preserved c =
    let l = c.loop-i in
    let s = c.args.line.now in
    let d = some_digit 10 _ _ (sym c.digit.ensures.value ∙ c.in-Some.is) in
    let e : c.in_ok-n.n ≡ l.n * 10 + digit_of _ = omega (arith, d.0, c.in_ok-checked_mul.ensures, c.in_ok-n.ensures) in
    l.invariant ∙ scan_on s l.i c.loop-i-test.true l.n d.1 c.if-needless.false (omega (arith, d.0, c.in_ok-checked_mul.ensures, c.in_ok-n.ensures)) ∙ ap (λ (n : ℕ). scan n (l.i + 1) (drop (l.i + 1) s)) (sym e)

pub returns-clause-value : goal.returns-clause-value
returns-clause-value c =
    let l = c.loop-i in
    let s = c.args.line.now in
    sym (l.invariant ∙ scan_none s l.n l.i c.loop-i-test.false)
