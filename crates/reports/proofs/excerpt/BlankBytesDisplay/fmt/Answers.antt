use Rattle.std.proofs.Common.{rules}
use Rattle.reports.specs.Excerpts.{blanks_for}
use Rattle.reports.proofs.excerpt.BlankBytesDisplay.fmt.Goals as goal

pub returns-clause-writes : goal.returns-clause-writes
returns-clause-writes g c = c.write_each.ensures blanks_for (λ b d e. search rules)
