-- The code that a checked value holds, and what a call of the check answers and leaves.
use Rattle.std.specs.Prelude.{◌≡◌, is_ok, Decides, Result, MatchResult}
use Rattle.code.specs.declared.checked.Checked.{Checked}
use Rattle.code.specs.declared.refusals.Refusal.{Refusal}
use Rattle.code.specs.Answers.{verdict_of}
use Rattle.code.specs.Check.{check}
use Rattle.code.specs.Codes.{Code}
use Rattle.code.specs.WellFormed.{WellFormed}

abbrev pub code_in : Checked → Code
code_in c = record { sizes = c.sizes; operations = c.operations.now; operands = c.operands.now }

-- The answer is the verdict, and `Ok` just for well-formed code; the place then holds the code, and else stays as it was.
pub record Checks (c : Code) (old : Checked) (r : Result (Unit {0}) Refusal) (new : Checked) : Type 0 where
  pub answer : verdict_of r ≡ check c
  pub passes : Decides (is_ok r) (WellFormed c)
  pub after : MatchResult r (λ _. code_in new ≡ c) (λ _. new ≡ old)
