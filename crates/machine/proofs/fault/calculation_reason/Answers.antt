use Rattle.std.proofs.Common.{sym, ap}
use Rattle.machine.specs.Reasons.{calculation_reason}
use Rattle.machine.proofs.fault.calculation_reason.Goals as goal

pub returns-in-OutOfRange : goal.returns-in-OutOfRange
returns-in-OutOfRange c = sym (ap calculation_reason c.in-OutOfRange.is)

pub returns-in-DivisionByZero : goal.returns-in-DivisionByZero
returns-in-DivisionByZero c = sym (ap calculation_reason c.in-DivisionByZero.is)
