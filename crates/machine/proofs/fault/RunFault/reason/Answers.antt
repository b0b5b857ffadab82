use Rattle.std.proofs.Common.{sym, ap}
use Rattle.machine.specs.Reasons.{fault_reason}
use Rattle.machine.proofs.fault.RunFault.reason.Goals as goal

pub returns-in-BookFull : goal.returns-in-BookFull
returns-in-BookFull c = sym (ap fault_reason c.in-BookFull.is)

pub returns-in-Subscript : goal.returns-in-Subscript
returns-in-Subscript c = sym (ap fault_reason c.in-Subscript.is)
