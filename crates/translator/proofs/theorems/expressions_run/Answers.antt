use Rattle.translator.proofs.Expressions.{expressions_run}
use Rattle.translator.proofs.theorems.expressions_run.Goals as goal

pub returns : goal.returns
returns g c = expressions_run g.F.Figures.kind g.met.F.Figures.tells
