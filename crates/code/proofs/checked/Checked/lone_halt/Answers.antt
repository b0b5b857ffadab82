use Rattle.std.proofs.Common.{refl}
use Rattle.code.specs.Check.{check}
use Rattle.code.specs.Operations.{operation}
use Rattle.code.specs.Codes.{operation_at}
use Rattle.code.proofs.checked.Checked.lone_halt.Goals as goal

pub invariant_of-result : goal.invariant_of-result
unfolding check operation operation_at
invariant_of-result c = record { passes = refl }
