-- The verdict of the check as one number: 0 for code that passes, else the refusal's.
use Rattle.std.specs.Prelude.{ℕ}
use Rattle.code.specs.Check.{Verdict, passes, refused}

abbrev pub verdict_number : Verdict → ℕ
verdict_number passes = 0
verdict_number (refused number operation) = number
