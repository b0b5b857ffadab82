use Rattle.analysis.proofs.FewLines.{small_tables}
use Rattle.analysis.proofs.laws.small_law_holds.Goals as goal

pub returns : goal.returns
returns c = small_tables
