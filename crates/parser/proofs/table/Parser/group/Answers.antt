use Rattle.std.proofs.Common.{refl}
use Rattle.std.proofs.lemmas.Result.{err_from_is_err_and}
use Rattle.parser.proofs.Stepping.{stops_behind, stops_behind_deeper, stops_missing_deeper, stops_unopened}
use Rattle.parser.proofs.Groups.{group_begins, group_named, bounds_begun, low_read, high_begun, high_read, group_read}
use Rattle.parser.proofs.table.Parser.group.Goals as goal

pub returns-in_err-names : goal.returns-in_err-names
returns-in_err-names c =
    let p = err_from_is_err_and c.from_residual.result c.from_residual.ensures.1 in
    rw (p.1, p.2) (stops_behind c.row.new.self _ c.row.ensures.moves tt group_begins c.in_err-names.ensures.reads)

pub returns-in_err-open_mark : goal.returns-in_err-open_mark
returns-in_err-open_mark c =
    let p = err_from_is_err_and c.from_residual-in_err-open_mark.result c.from_residual-in_err-open_mark.ensures.1 in
    rw (p.1, p.2) (stops_unopened c.open_mark.new.self _ c.open_mark.ensures.moves refl refl
    (group_named c.in_ok-names.ensures.reads) c.in_err-open_mark.ensures.opens)

pub returns-in_err-low : goal.returns-in_err-low
returns-in_err-low c =
    let p = err_from_is_err_and c.from_residual-in_err-low.result c.from_residual-in_err-low.ensures.1 in
    let o = c.in_ok-open_mark.ensures.opens in
    rw (p.1, p.2) (stops_behind_deeper c.bound.new.self _ c.bound.ensures.moves o.1.level tt
    (bounds_begun c.in_ok-names.ensures.reads o.0 o.1) (c.in_err-low.ensures.reads _))

pub returns-in_err-expect : goal.returns-in_err-expect
returns-in_err-expect c =
    let p = err_from_is_err_and c.from_residual-in_err-expect.result c.from_residual-in_err-expect.ensures.1 in
    let o = c.in_ok-open_mark.ensures.opens in
    rw (p.1, p.2) (stops_missing_deeper c.expect.new.self _ c.expect.ensures.moves
    (low_read c.in_ok-names.ensures.reads o.0 o.1 c.in_ok-low.ensures.reads) c.in_err-expect.ensures.took)

pub returns-in_err-high : goal.returns-in_err-high
returns-in_err-high c =
    let p = err_from_is_err_and c.from_residual-in_err-high.result c.from_residual-in_err-high.ensures.1 in
    let o = c.in_ok-open_mark.ensures.opens in
    rw (p.1, p.2) (stops_behind_deeper c.bound-2.new.self _ c.bound-2.ensures.moves o.1.level tt
    (high_begun c.in_ok-names.ensures.reads o.0 o.1 c.in_ok-low.ensures.reads c.in_ok-expect.ensures.took) (c.in_err-high.ensures.reads _))

pub returns-in_err-expect-2 : goal.returns-in_err-expect-2
returns-in_err-expect-2 c =
    let p = err_from_is_err_and c.from_residual-in_err-expect-2.result c.from_residual-in_err-expect-2.ensures.1 in
    let o = c.in_ok-open_mark.ensures.opens in
    rw (p.1, p.2) (stops_missing_deeper c.expect-2.new.self _ c.expect-2.ensures.moves
    (high_read c.in_ok-names.ensures.reads o.0 o.1 c.in_ok-low.ensures.reads c.in_ok-expect.ensures.took c.in_ok-high.ensures.reads)
    c.in_err-expect-2.ensures.took)

pub returns : goal.returns
returns c =
    let o = c.in_ok-open_mark.ensures.opens in
    group_read c.in_ok-names.ensures.reads o.0 o.1 c.in_ok-low.ensures.reads c.in_ok-expect.ensures.took c.in_ok-high.ensures.reads
    c.expect-2.new.self c.make.new.self c.place-bracket.result c.make.result c.in_ok-expect-2.ensures.took c.place-bracket.ensures c.make.ensures
