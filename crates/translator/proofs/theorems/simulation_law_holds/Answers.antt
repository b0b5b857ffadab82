use Rattle.translator.proofs.AllPositions.{simulation_law}
use Rattle.translator.proofs.theorems.simulation_law_holds.Goals as goal

pub returns : goal.returns
returns g c = simulation_law g.F.Figures.kind
