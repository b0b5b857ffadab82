use Rattle.std.proofs.Common.{◌≤◌, map, Some, None, refl, sym, arith}
use Rattle.std.proofs.lemmas.List.{get_or_past}
use Rattle.code.specs.Operations.{all_operations, operation}
use Rattle.code.proofs.operations.OperationTryFromU8.try_from.Goals as goal

pub returns-in_default : goal.returns-in_default
unfolding operation
returns-in_default c =
    let past : 30 ≤ c.args.byte = omega arith in
    record { value = sym (get_or_past (map Some all_operations) c.args.byte None past); numbered = refl }
