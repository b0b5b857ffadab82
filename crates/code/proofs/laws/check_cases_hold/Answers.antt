use Rattle.std.proofs.Common.{refl}
use Rattle.code.specs.Check.{check}
use Rattle.code.specs.Codes.{operation_at}
use Rattle.code.specs.Operations.{operation}
use Rattle.code.proofs.laws.check_cases_hold.Goals as goal

pub returns : goal.returns
unfolding check operation_at operation
returns c =
    record {
      lone_halt = refl;
      assignment = refl;
      table = refl;
      endless_rows = refl;
      no_operation = refl;
      short_arrays = refl;
      unknown_operation = refl;
      cells_beyond = refl;
      too_few_figures = refl;
      too_many_figures = refl;
      jump_back_to_here = refl;
      jump_outside = refl;
      open_end = refl;
    }
