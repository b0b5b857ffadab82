use Rattle.symbols.proofs.Bounds.{bounds_in_range}
use Rattle.symbols.proofs.laws.bounds_law_holds.Goals as goal

pub returns : goal.returns
returns c = bounds_in_range
