use Rattle.std.proofs.Common.{◌≡◌, Some, None, sym, ap, ◌∙◌}
use Rattle.std.specs.Option.{option_map}
use Rattle.code.specs.Codes.{operation_at}
use Rattle.code.specs.Operations.{role}
use Rattle.code.proofs.Places.{operation_at_inside, operation_at_past}
use Rattle.code.proofs.check.role_at.Goals as goal

pub returns-in_err-byte : goal.returns-in_err-byte
returns-in_err-byte c =
    c.from_residual.ensures ∙ sym (ap (option_map role) (operation_at_past c.args.operations.now c.args.place c.in_err-byte.ensures.lookup.3))

pub returns-in_err-operation : goal.returns-in_err-operation
returns-in_err-operation c =
    let known = operation_at_inside c.args.operations.now c.args.place c.in_ok-byte.ensures.lookup.3.0 in
    let byte = c.in_ok-byte.ensures.lookup.3.1 0 in
    let none : operation_at c.args.operations.now c.args.place ≡ None = cc (c.try_from.ensures.value, c.in_err-operation.ensures.value) in
    c.from_residual-in_err-operation.ensures ∙ sym (ap (option_map role) none)

pub returns : goal.returns
returns c =
    let known = operation_at_inside c.args.operations.now c.args.place c.in_ok-byte.ensures.lookup.3.0 in
    let byte = c.in_ok-byte.ensures.lookup.3.1 0 in
    let some : operation_at c.args.operations.now c.args.place ≡ Some c.in_ok-operation.operation = cc (c.try_from.ensures.value, c.in_ok-operation.ensures.value) in
    ap Some c.role.ensures ∙ sym (ap (option_map role) some)
