use Rattle.translator.proofs.MachineSteps.{machine_law}
use Rattle.translator.proofs.theorems.machine_law_holds.Goals as goal

pub returns : goal.returns
returns g c = machine_law g.F.Figures.kind
