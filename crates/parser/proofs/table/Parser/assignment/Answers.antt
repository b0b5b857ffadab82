use Rattle.std.proofs.lemmas.Result.{err_from_is_err_and}
use Rattle.parser.proofs.Stepping.{stops_behind, stops_missing}
use Rattle.parser.proofs.Statements.{assignment_begun, assignment_read}
use Rattle.parser.proofs.table.Parser.assignment.Goals as goal

pub returns-in_err-target : goal.returns-in_err-target
returns-in_err-target c =
    let p = err_from_is_err_and c.from_residual.result c.from_residual.ensures.1 in
    record { moves = c.target.ensures.moves; reads = rw (p.1, p.2) c.in_err-target.ensures.reads }

pub returns-in_err-expect : goal.returns-in_err-expect
returns-in_err-expect c =
    let p = err_from_is_err_and c.from_residual-in_err-expect.result c.from_residual-in_err-expect.ensures.1 in
    rw (p.1, p.2) (stops_missing c.expect.new.self _ c.expect.ensures.moves c.in_ok-target.ensures.reads.goes c.in_err-expect.ensures.took)

pub returns-in_err-value : goal.returns-in_err-value
returns-in_err-value c =
    let p = err_from_is_err_and c.from_residual-in_err-value.result c.from_residual-in_err-value.ensures.1 in
    rw (p.1, p.2) (stops_behind c.expression.new.self _ c.expression.ensures.moves tt
    (assignment_begun c.in_ok-target.ensures.reads c.in_ok-expect.ensures.took) c.in_err-value.ensures.reads)

pub returns : goal.returns
returns c =
    assignment_read c.in_ok-target.ensures.reads c.in_ok-expect.ensures.took
    c.expression.new.self c.make.new.self c.in_ok-value.value c.make.result c.in_ok-value.ensures.reads c.make.ensures
