use Rattle.std.proofs.Common.{refl}
use Rattle.std.proofs.lemmas.Result.{err_from_is_err_and}
use Rattle.words.specs.declared.token.Keyword.TheVariants.{Print}
use Rattle.grammar.specs.Classes.{the_keyword}
use Rattle.parser.proofs.Tables.{word_left}
use Rattle.parser.proofs.Stepping.{stops_missing_deeper, stops_behind_deeper, stops_unopened}
use Rattle.parser.proofs.Statements.{print_begun, print_opened, print_inner, printed_read}
use Rattle.parser.proofs.table.Parser.print.Goals as goal

pub skip-requires : goal.skip-requires
skip-requires c = record { left = word_left (the_keyword Print) tt c.args.self.now c.requires.begins }

pub returns-in_err-inner : goal.returns-in_err-inner
returns-in_err-inner c =
    let p = err_from_is_err_and c.from_residual.result c.from_residual.ensures.1 in
    rw (p.1, p.2) (stops_unopened c.open_mark.new.self _ c.open_mark.ensures.moves refl refl (print_begun c.requires.begins c.skip.ensures.took) c.in_err-inner.ensures.opens)

pub returns-in_err-all : goal.returns-in_err-all
returns-in_err-all c =
    let p = err_from_is_err_and c.from_residual-in_err-all.result c.from_residual-in_err-all.ensures.1 in
    let o = c.in_ok-inner.ensures.opens in
    rw (p.1, p.2) (stops_behind_deeper c.row.new.self _ c.row.ensures.moves o.1.level tt
    (print_opened c.requires.begins c.skip.ensures.took o.0 o.1) c.in_err-all.ensures.reads)

pub returns-in_err-expect : goal.returns-in_err-expect
returns-in_err-expect c =
    let p = err_from_is_err_and c.from_residual-in_err-expect.result c.from_residual-in_err-expect.ensures.1 in
    let o = c.in_ok-inner.ensures.opens in
    rw (p.1, p.2) (stops_missing_deeper c.expect.new.self _ c.expect.ensures.moves
    (print_inner c.requires.begins c.skip.ensures.took o.0 o.1 c.in_ok-all.ensures.reads) c.in_err-expect.ensures.took)

pub returns : goal.returns
returns c =
    let o = c.in_ok-inner.ensures.opens in
    printed_read c.requires.begins c.skip.ensures.took o.0 o.1 c.in_ok-all.ensures.reads
    c.expect.new.self c.make.new.self c.place-place.result c.make.result c.in_ok-expect.ensures.took c.place-place.ensures c.make.ensures
