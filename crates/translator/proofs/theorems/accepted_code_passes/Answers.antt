use Rattle.translator.proofs.AcceptedCode.{every_code_passes}
use Rattle.translator.proofs.theorems.accepted_code_passes.Goals as goal

pub returns : goal.returns
returns c = every_code_passes
