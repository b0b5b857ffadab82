use Rattle.std.proofs.Common.{sym, ap}
use Rattle.machine.specs.Reasons.{ending_reason}
use Rattle.machine.proofs.fault.ending_reason.Goals as goal

pub returns-in-End : goal.returns-in-End
returns-in-End c = sym (ap ending_reason c.in-End.is)

pub returns-in-Damaged : goal.returns-in-Damaged
returns-in-Damaged c = sym (ap ending_reason c.in-Damaged.is)
