use Rattle.std.proofs.Common.{refl, ◌∙◌, []}
use lib.Dec.{lit<}
use Rattle.clock_calls.proofs.put.put.Goals as goal

pub returns-in-Err : goal.returns-in-Err
returns-in-Err g c =
    let e = c.write-in-Err.ensures in
    rw c.in-Err.is (e.0 ∙ c.number.ensures, record { written = record { words = []; few = lit< tt; is = rw e.0 e.2 }; none = λ p. refl }, rw (← c.number.ensures) e.2)
