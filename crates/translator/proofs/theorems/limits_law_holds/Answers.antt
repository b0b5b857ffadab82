use Rattle.translator.proofs.LimitsTexts.{limits_law}
use Rattle.translator.proofs.theorems.limits_law_holds.Goals as goal

pub returns : goal.returns
returns c = limits_law
