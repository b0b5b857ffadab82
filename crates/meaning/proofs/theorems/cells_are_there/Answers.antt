use Rattle.meaning.proofs.theorems.cells_are_there.Goals as goal
use Rattle.meaning.proofs.Storing.{cells_there}

pub returns : goal.returns
returns c = cells_there
