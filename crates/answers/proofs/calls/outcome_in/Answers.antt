-- `answers::calls::outcome_in` meets its contract: each call is answered with what it tells (`tells`).
-- Assumes nothing.
use Rattle.std.proofs.Common.{rules, ◌≡◌}
use Rattle.answers.specs.Calls.{outcome_of}
use Rattle.answers.proofs.Tells.{tells_as}
use Rattle.answers.proofs.calls.outcome_in.Goals as goal

pub returns-in-Read-clause-told : goal.returns-in-Read-clause-told
unfolding outcome_of
returns-in-Read-clause-told c =
    let a = c.args in
    let e : c.told.result ≡ outcome_of a.clocks a.time a.state a.verb = search rules in
    tells_as a.clocks a.time a.state a.verb c.told.result e

pub returns-in-Write-clause-told : goal.returns-in-Write-clause-told
unfolding outcome_of
returns-in-Write-clause-told c =
    let a = c.args in
    let e : c.told-in-Write.result ≡ outcome_of a.clocks a.time a.state a.verb = search rules in
    tells_as a.clocks a.time a.state a.verb c.told-in-Write.result e

pub returns-in-Pins-clause-told : goal.returns-in-Pins-clause-told
unfolding outcome_of
returns-in-Pins-clause-told c =
    let a = c.args in
    let e : c.told-in-Pins.result ≡ outcome_of a.clocks a.time a.state a.verb = search rules in
    tells_as a.clocks a.time a.state a.verb c.told-in-Pins.result e

pub returns-in-Gate-clause-told : goal.returns-in-Gate-clause-told
unfolding outcome_of
returns-in-Gate-clause-told c =
    let a = c.args in
    let e : c.told-in-Gate.result ≡ outcome_of a.clocks a.time a.state a.verb = search rules in
    tells_as a.clocks a.time a.state a.verb c.told-in-Gate.result e

pub returns-in-Visit-clause-told : goal.returns-in-Visit-clause-told
unfolding outcome_of
returns-in-Visit-clause-told c =
    let a = c.args in
    let e : c.told-in-Visit.result ≡ outcome_of a.clocks a.time a.state a.verb = search rules in
    tells_as a.clocks a.time a.state a.verb c.told-in-Visit.result e
