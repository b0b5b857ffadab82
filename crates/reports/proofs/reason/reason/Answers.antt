use Rattle.std.proofs.Common.{arith}
use Rattle.reports.proofs.Reasons.{other_numbers_have_none}
use Rattle.reports.proofs.reason.reason.Goals as goal

pub returns-in_default : goal.returns-in_default
returns-in_default c = other_numbers_have_none c.args.number (λ h. omega arith)
