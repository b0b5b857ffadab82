use Rattle.symbols.proofs.Names.{names_agree}
use Rattle.symbols.proofs.laws.names_law_holds.Goals as goal

pub returns : goal.returns
returns c = names_agree
