use Rattle.std.proofs.Common.{rules}
use Rattle.reports.specs.Excerpts.{shown_byte}
use Rattle.reports.proofs.excerpt.ShownBytesDisplay.fmt.Goals as goal

pub returns-clause-writes : goal.returns-clause-writes
returns-clause-writes g c = c.write_each.ensures shown_byte (λ b d e. search rules)
