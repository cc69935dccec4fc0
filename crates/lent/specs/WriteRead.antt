-- Definitions: a write and then a read of one peripheral. The read gets the state that the write left, refused or not (document 01, demand 3).
use Rattle.std.specs.Prelude.{ℕ}
use Rattle.time.specs.declared.Time.{Time}
use Rattle.clocks.specs.declared.Clocks.{Clocks}
use Rattle.iic.specs.declared.Iic.{Iic}
use Rattle.iic.specs.declared.Answered.{Answered}
use Rattle.iic.specs.Answers.{Stepped}
use Rattle.iic.specs.Calls.{read_of, write_of}
use Rattle.lent.specs.declared.Both.{Both}

-- how the write ended, what the read answered, and the state that the read left
abbrev pub both : Stepped → Answered ℕ → Both
both w r = record { ended = w.answer; answer = r.answer; state = r.state }

abbrev pub then_read : Stepped → ℕ → Time → Clocks → Both
then_read w source later k = both w (read_of w.state source later k)

unfoldable pub write_read_of : Iic → ℕ → ℕ → Time → ℕ → Time → Clocks → Both
write_read_of s address value time source later k = then_read (write_of s address value time k) source later k
