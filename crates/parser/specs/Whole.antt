-- What is promised of a whole program.
use Rattle.std.specs.Prelude.{◌≡◌, ℕ, ◌<◌, length, Ok, Err, Result}
use Rattle.grammar.specs.Tree.{Program}
use Rattle.grammar.specs.Parser.{tree, refused, parsed}
use Rattle.parser.specs.declared.refusal.Refusal.{Refusal}
use Rattle.parser.specs.declared.table.Parser.{Parser}
use Rattle.parser.specs.Records.{ahead, view, ProgramAt}

-- The words ahead of r are a program, whose tree stands at node i in s.
pub record ProgramRead (levels : ℕ) (r s : Parser) (i : ℕ) : Type 0 where
  pub program : Program
  pub below : i < s.made
  pub held : ProgramAt (view s) program i
  pub outcome : parsed levels (length r.text.now) (ahead r) ≡ tree program

abbrev pub ReadsProgram : ℕ → Parser → Parser → Result ℕ Refusal → Type 0
ReadsProgram levels r s (Ok i) = ProgramRead levels r s i
ReadsProgram levels r s (Err e) = parsed levels (length r.text.now) (ahead r) ≡ refused e.reason e.place
