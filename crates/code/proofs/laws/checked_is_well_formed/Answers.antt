use Rattle.code.proofs.Targets.{checked_to_well_formed}
use Rattle.code.proofs.laws.checked_is_well_formed.Goals as goal

pub returns : goal.returns
returns c = checked_to_well_formed c.args.code.now
