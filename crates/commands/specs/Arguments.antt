-- Definition: whether an argument is there, by what asking for it gave.
use Rattle.std.specs.Prelude.{Bool, true, false, ℕ, Result, Ok, Err}
use Rattle.std.specs.declared.env.FillError.{FillError}
use Rattle.std.specs.declared.env.FillError.TheVariants.{NotPresent, TooLong}

abbrev pub given_of : Result ℕ FillError → Bool
given_of (Ok n) = true
given_of (Err NotPresent) = false
given_of (Err TooLong) = true
