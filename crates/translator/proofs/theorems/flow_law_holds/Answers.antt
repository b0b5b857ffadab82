use Rattle.translator.proofs.Resuming.{flow_law}
use Rattle.translator.proofs.theorems.flow_law_holds.Goals as goal

pub returns : goal.returns
returns g c = flow_law g.F.Figures.kind
