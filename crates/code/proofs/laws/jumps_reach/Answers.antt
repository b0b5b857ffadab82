use Rattle.code.proofs.Targets.{lands_to_reaches, row_to_reaches}
use Rattle.code.proofs.laws.jumps_reach.Goals as goal

pub returns : goal.returns
returns c = record { jump = lands_to_reaches; row = row_to_reaches }
