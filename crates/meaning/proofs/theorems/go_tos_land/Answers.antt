use Rattle.meaning.proofs.theorems.go_tos_land.Goals as goal
use Rattle.meaning.proofs.Landing.{landing_law}

pub returns : goal.returns
returns g c = landing_law g.F.Figures.kind
