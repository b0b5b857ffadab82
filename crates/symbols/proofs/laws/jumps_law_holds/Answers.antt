use Rattle.symbols.proofs.Jumps.{jumps_stay_outside}
use Rattle.symbols.proofs.laws.jumps_law_holds.Goals as goal

pub returns : goal.returns
returns c = jumps_stay_outside
