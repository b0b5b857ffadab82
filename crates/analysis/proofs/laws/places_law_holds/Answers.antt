use Rattle.analysis.proofs.NameLines.{places_held}
use Rattle.analysis.proofs.laws.places_law_holds.Goals as goal

pub returns : goal.returns
returns c = places_held
