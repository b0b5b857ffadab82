use Rattle.std.proofs.Common.{get_or, sym, ap, ◌∙◌}
use Rattle.std.proofs.lemmas.Result.{err_from_is_err_and}
use Rattle.code.specs.Answers.{number}
use Rattle.code.specs.Check.{refused, ruling}
use Rattle.code.specs.Codes.{Code}
use Rattle.code.proofs.Verdicts.{check_more, check_stop, check_done}
use Rattle.code.proofs.check.Lent.check.Goals as goal

pub returns-in_err-depth : goal.returns-in_err-depth
returns-in_err-depth c =
    let code : Code = record { sizes = c.args.self.now.sizes; operations = c.args.self.now.operations.now; operands = c.args.self.now.operands.now } in
    let p = err_from_is_err_and c.from_residual.result c.from_residual.ensures.1 in
    let e = c.in_err-depth.ensures in
    let k = c.in_err-depth.field-0.0 in
    let ruled = ap (ruling code.sizes code.operations c.loop-place.place (get_or code.operands c.loop-place.place 0) c.loop-place.depth) c.in-Ok.ensures.value in
    let at = c.loop-place.invariant.1 ∙ check_stop code _ _ _ c.loop-place-test.true (e.ruling ∙ ruled) ∙ ap (refused (number k)) (sym e.at) in
    rw (p.1, p.2) (sym at)

pub loop-place-preserved : goal.loop-place-preserved
loop-place-preserved c =
    let code : Code = record { sizes = c.args.self.now.sizes; operations = c.args.self.now.operations.now; operands = c.args.self.now.operands.now } in
    let e = c.in_ok-depth.ensures in
    let ruled = ap (ruling code.sizes code.operations c.loop-place.place (get_or code.operands c.loop-place.place 0) c.loop-place.depth) c.in-Ok.ensures.value in
    (e.at, c.loop-place.invariant.1 ∙ check_more code _ _ _ c.loop-place-test.true (e.ruling ∙ ruled))

pub returns : goal.returns
returns c =
    let code : Code = record { sizes = c.args.self.now.sizes; operations = c.args.self.now.operations.now; operands = c.args.self.now.operands.now } in
    sym (c.loop-place.invariant.1 ∙ check_done code _ _ c.loop-place-test.false)
