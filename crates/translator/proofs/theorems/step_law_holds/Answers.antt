use Rattle.translator.proofs.Steps.{step_law}
use Rattle.translator.proofs.theorems.step_law_holds.Goals as goal

pub returns : goal.returns
returns g c = step_law g.F.Figures.kind
