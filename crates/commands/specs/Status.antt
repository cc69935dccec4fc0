-- Definitions: the exit status of a command (README: "Its exit status is 0, 1 where something is refused or fails, or 2 for wrong arguments .. It is 141
-- where nobody reads on"). A program tells `./jettyprune` by a line on standard error that something is refused.
use Rattle.std.specs.Prelude.{ℕ, ⊤, Result, Ok, Err}
use Rattle.std.specs.IoError.{error_kind}
use Rattle.std.specs.declared.io.Error.{Error}
use Rattle.std.specs.declared.io.ErrorKind.{ErrorKind}
use Rattle.std.specs.declared.io.ErrorKind.TheVariants.{BrokenPipe}

-- "141 where nobody reads on"
abbrev pub status_of_kind : ErrorKind → ℕ
status_of_kind BrokenPipe = 141
status_of_kind _ = 0

unfoldable pub status_of : Result ⊤ Error → ℕ
status_of (Ok _) = 0
status_of (Err e) = status_of_kind (error_kind e)
