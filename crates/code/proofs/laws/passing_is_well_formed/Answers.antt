use Rattle.code.proofs.Passing.{passes_to_well_formed, well_formed_to_passes}
use Rattle.code.proofs.laws.passing_is_well_formed.Goals as goal

pub returns : goal.returns
returns c code = (passes_to_well_formed code, well_formed_to_passes code)
