use Rattle.std.proofs.Common.{length, ap, arith}
use Rattle.code.specs.CheckedCode.{code_in}
use Rattle.code.proofs.Targets.{passed_to_well_formed}
use Rattle.machine.proofs.Facts.{operands_as_long}
use Rattle.machine.proofs.step.operand_at.Goals as goal

pub offset_bounds-operands-place : goal.offset_bounds-operands-place
offset_bounds-operands-place c =
    let code = code_in c.args.code.now in
    let w = passed_to_well_formed code c.args.code.now.passes in
    let long = w.operations_long in
    let few = w.few_operations in
    let inside = c.requires in
    omega arith

pub bounds-operands-place : goal.bounds-operands-place
bounds-operands-place c =
    let code = code_in c.args.code.now in
    let long = operands_as_long code (passed_to_well_formed code c.args.code.now.passes) in
    let same = ap length c.operands.ensures in
    let inside = c.requires in
    omega arith
