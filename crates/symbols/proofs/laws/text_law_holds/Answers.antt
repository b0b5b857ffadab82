use Rattle.symbols.proofs.Telling.{text_told}
use Rattle.symbols.proofs.laws.text_law_holds.Goals as goal

pub returns : goal.returns
returns c = text_told
