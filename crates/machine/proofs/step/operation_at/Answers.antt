use Rattle.std.proofs.Common.{get_or, rules, ap}
use Rattle.code.proofs.Targets.{checked_to_ok}
use Rattle.machine.proofs.step.operation_at.Goals as goal

pub unwrap-requires : goal.unwrap-requires
unwrap-requires c =
    let byte = ap (λ os. get_or os c.args.place 0) c.operations.ensures in
    let known = checked_to_ok c.args.code.now c.args.place _ c.try_from.result c.requires byte c.try_from.ensures in
    rw known.1 (search rules)

pub returns : goal.returns
returns c =
    let byte = ap (λ os. get_or os c.args.place 0) c.operations.ensures in
    let known = checked_to_ok c.args.code.now c.args.place _ c.try_from.result c.requires byte c.try_from.ensures in
    let found = c.unwrap.ensures in
    cc
