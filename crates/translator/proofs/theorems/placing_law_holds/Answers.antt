use Rattle.translator.proofs.Placing.{placing_law}
use Rattle.translator.proofs.theorems.placing_law_holds.Goals as goal

pub returns : goal.returns
returns g c = placing_law g.F.Figures.kind
