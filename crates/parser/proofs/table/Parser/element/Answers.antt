use Rattle.std.proofs.Common.{refl}
use Rattle.std.proofs.lemmas.Result.{err_from_is_err_and}
use Rattle.words.specs.declared.token.Mark.TheVariants.{OpenRound}
use Rattle.grammar.specs.Classes.{the_mark}
use Rattle.parser.proofs.Tables.{word_left}
use Rattle.parser.proofs.Stepping.{goes_first, stops_behind, stops_behind_deeper, stops_missing_deeper, stops_deep}
use Rattle.parser.proofs.Elements.{element_begins, from_read, single_read, step_begun, step_read, limit_begun, progression_read}
use Rattle.parser.proofs.table.Parser.element.Goals as goal

pub returns-in_err-from : goal.returns-in_err-from
returns-in_err-from c =
    let p = err_from_is_err_and c.from_residual.result c.from_residual.ensures.1 in
    rw (p.1, p.2) (stops_behind c.expression.new.self _ c.expression.ensures.moves tt element_begins c.in_err-from.ensures.reads)

pub returns-then-not-next_is : goal.returns-then-not-next_is
returns-then-not-next_is c = single_read c.in_ok-from.ensures.reads c.if-not-next_is.ensures

pub open-requires : goal.open-requires
open-requires c = record { left = word_left (the_mark OpenRound) tt c.expression.new.self c.if-not-next_is.ensures }

pub returns-in_err-inner : goal.returns-in_err-inner
returns-in_err-inner c =
    let p = err_from_is_err_and c.from_residual-in_err-inner.result c.from_residual-in_err-inner.ensures.1 in
    let e = c.if-not-next_is.ensures in
    rw (p.1, p.2) (stops_deep c.open.new.self _ c.open.ensures.moves tt e refl refl (goes_first e (from_read c.in_ok-from.ensures.reads)) c.in_err-inner.ensures.opens)

pub returns-in_err-step : goal.returns-in_err-step
returns-in_err-step c =
    let p = err_from_is_err_and c.from_residual-in_err-step.result c.from_residual-in_err-step.ensures.1 in
    let o = c.in_ok-inner.ensures.opens in
    rw (p.1, p.2) (stops_behind_deeper c.expression-2.new.self _ c.expression-2.ensures.moves o.level tt
    (step_begun c.in_ok-from.ensures.reads c.if-not-next_is.ensures o) c.in_err-step.ensures.reads)

pub returns-in_err-expect : goal.returns-in_err-expect
returns-in_err-expect c =
    let p = err_from_is_err_and c.from_residual-in_err-expect.result c.from_residual-in_err-expect.ensures.1 in
    rw (p.1, p.2) (stops_missing_deeper c.expect.new.self _ c.expect.ensures.moves
    (step_read c.in_ok-from.ensures.reads c.if-not-next_is.ensures c.in_ok-inner.ensures.opens c.in_ok-step.ensures.reads) c.in_err-expect.ensures.took)

pub returns-in_err-limit : goal.returns-in_err-limit
returns-in_err-limit c =
    let p = err_from_is_err_and c.from_residual-in_err-limit.result c.from_residual-in_err-limit.ensures.1 in
    rw (p.1, p.2) (stops_behind c.expression-3.new.self _ c.expression-3.ensures.moves tt
    (limit_begun c.in_ok-from.ensures.reads c.if-not-next_is.ensures c.in_ok-inner.ensures.opens c.in_ok-step.ensures.reads c.in_ok-expect.ensures.took)
    c.in_err-limit.ensures.reads)

pub returns : goal.returns
returns c =
    progression_read c.in_ok-from.ensures.reads c.if-not-next_is.ensures c.in_ok-inner.ensures.opens c.in_ok-step.ensures.reads c.in_ok-expect.ensures.took
    c.expression-3.new.self c.make.new.self c.in_ok-limit.limit c.make.result c.in_ok-limit.ensures.reads c.make.ensures
