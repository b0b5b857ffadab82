use Rattle.reports.proofs.Carets.{caret_law_of}
use Rattle.reports.proofs.excerpt.Place.excerpt.Goals as goal

pub returns-clause-law : goal.returns-clause-law
returns-clause-law c = caret_law_of c.args.self.text.now c.args.self.byte
