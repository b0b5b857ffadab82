use Rattle.translator.proofs.Promise.{promise_law}
use Rattle.translator.proofs.theorems.promise_law_holds.Goals as goal

pub returns : goal.returns
returns g c = promise_law g.F.Figures.kind g.met.F.Figures.counts g.met.F.Figures.tells
