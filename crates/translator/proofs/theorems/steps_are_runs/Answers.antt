use Rattle.translator.proofs.Bridge.{steps_are_runs}
use Rattle.translator.proofs.theorems.steps_are_runs.Goals as goal

pub returns : goal.returns
returns g c = steps_are_runs g.F.Figures.kind
