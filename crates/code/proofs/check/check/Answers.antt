use Rattle.std.proofs.Common.{Ok, Err, sym, refl, ap, ◌∙◌}
use Rattle.std.proofs.lemmas.Result.{err_from_is_err_and}
use Rattle.code.specs.Answers.{verdict_of}
use Rattle.code.specs.Check.{check, passed}
use Rattle.code.specs.Codes.{code_of}
use Rattle.code.proofs.Passing.{answer_to_well_formed}
use Rattle.code.proofs.Verdicts.{check_bad_sizes, check_cut, sizes_ok_cut}
use Rattle.code.proofs.check.check.Goals as goal

pub returns-in_err-code : goal.returns-in_err-code
returns-in_err-code c =
    let code = code_of c.args.sizes c.args.operations.now c.args.operands.now in
    let bad = sizes_ok_cut c.args.sizes c.args.operations.now c.args.operands.now ∙ c.in_err-code.ensures.decided in
    let p = err_from_is_err_and c.from_residual.result c.from_residual.ensures.1 in
    let answer = ap (λ e. verdict_of {X = Unit {0}} (Err e)) c.in_err-code.ensures.cut ∙ sym (check_bad_sizes code bad) in
    rw (p.1, p.2) (record { answer = answer; passes = answer_to_well_formed {X = Unit {0}} (Err _) code answer; after = refl })

pub returns-in_err-check : goal.returns-in_err-check
returns-in_err-check c =
    let code = code_of c.args.sizes c.args.operations.now c.args.operands.now in
    let whole = check_cut c.args.sizes c.args.operations.now c.args.operands.now _ c.in_ok-code.ensures.cut c.in_ok-code.ensures.decided in
    let p = err_from_is_err_and c.from_residual-in_err-check.result c.from_residual-in_err-check.ensures.1 in
    let answer = c.in_err-check.ensures ∙ whole in
    rw (p.1, p.2) (record { answer = answer; passes = answer_to_well_formed {X = Unit {0}} (Err _) code answer; after = refl })

pub invariant_of-place : goal.invariant_of-place
invariant_of-place c =
    let whole = check_cut c.args.sizes c.args.operations.now c.args.operands.now _ c.in_ok-code.ensures.cut c.in_ok-code.ensures.decided in
    record { passes = ap (λ code. passed (check code)) c.in_ok-code.ensures.cut ∙ ap passed (sym (c.in_ok-check.ensures ∙ whole)) }

pub returns : goal.returns
returns c =
    let code = code_of c.args.sizes c.args.operations.now c.args.operands.now in
    let whole = check_cut c.args.sizes c.args.operations.now c.args.operands.now _ c.in_ok-code.ensures.cut c.in_ok-code.ensures.decided in
    let answer = c.in_ok-check.ensures ∙ whole in
    record { answer = answer; passes = answer_to_well_formed {X = Unit {0}} (Ok tt) code answer; after = c.in_ok-code.ensures.cut }
