use Rattle.std.proofs.Common.{sym, ap}
use Rattle.machine.specs.Reasons.{refusal_reason}
use Rattle.machine.proofs.refusal.Refusal.reason.Goals as goal

pub returns-in-CellCount : goal.returns-in-CellCount
returns-in-CellCount c = sym (ap refusal_reason c.in-CellCount.is)

pub returns-in-ShortStack : goal.returns-in-ShortStack
returns-in-ShortStack c = sym (ap refusal_reason c.in-ShortStack.is)

pub returns-in-NotNamed : goal.returns-in-NotNamed
returns-in-NotNamed c = sym (ap refusal_reason c.in-NotNamed.is)

pub returns-in-Ended : goal.returns-in-Ended
returns-in-Ended c = sym (ap refusal_reason c.in-Ended.is)

pub returns-in-StepLimit : goal.returns-in-StepLimit
returns-in-StepLimit c = sym (ap refusal_reason c.in-StepLimit.is)

pub returns-in-ShortBook : goal.returns-in-ShortBook
returns-in-ShortBook c = sym (ap refusal_reason c.in-ShortBook.is)
