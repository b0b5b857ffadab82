use Rattle.std.proofs.Output.{has_written_of_eq}
use Rattle.reports.proofs.Writing.{as_plain, two_blanks}
use Rattle.reports.proofs.tree.IndentDisplay.fmt.Goals as goal

pub returns-clause-writes : goal.returns-clause-writes
returns-clause-writes g c = λ plain ok. has_written_of_eq _ _ _ _ _ (two_blanks c.args.self.now.0) (as_plain _ _ _ _ plain (c.write_repeated.ensures.styled plain.flush ok))
