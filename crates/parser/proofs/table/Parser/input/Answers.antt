use Rattle.std.proofs.Common.{refl}
use Rattle.std.proofs.lemmas.Result.{err_from_is_err_and}
use Rattle.words.specs.declared.token.Keyword.TheVariants.{In}
use Rattle.grammar.specs.Classes.{the_keyword}
use Rattle.parser.proofs.Tables.{word_left}
use Rattle.parser.proofs.Stepping.{stops_missing, stops_missing_deeper, stops_behind_deeper, stops_unopened}
use Rattle.parser.proofs.Statements.{in_begun, in_into, in_opened, in_inner, input_read}
use Rattle.parser.proofs.table.Parser.input.Goals as goal

pub skip-requires : goal.skip-requires
skip-requires c = record { left = word_left (the_keyword In) tt c.args.self.now c.requires.begins }

pub returns-in_err-expect : goal.returns-in_err-expect
returns-in_err-expect c =
    let p = err_from_is_err_and c.from_residual.result c.from_residual.ensures.1 in
    rw (p.1, p.2) (stops_missing c.expect.new.self _ c.expect.ensures.moves (in_begun c.requires.begins c.skip.ensures.took) c.in_err-expect.ensures.took)

pub returns-in_err-inner : goal.returns-in_err-inner
returns-in_err-inner c =
    let p = err_from_is_err_and c.from_residual-in_err-inner.result c.from_residual-in_err-inner.ensures.1 in
    rw (p.1, p.2) (stops_unopened c.open_mark.new.self _ c.open_mark.ensures.moves refl refl
    (in_into c.requires.begins c.skip.ensures.took c.in_ok-expect.ensures.took) c.in_err-inner.ensures.opens)

pub returns-in_err-target : goal.returns-in_err-target
returns-in_err-target c =
    let p = err_from_is_err_and c.from_residual-in_err-target.result c.from_residual-in_err-target.ensures.1 in
    let o = c.in_ok-inner.ensures.opens in
    rw (p.1, p.2) (stops_behind_deeper c.variable.new.self _ c.variable.ensures.moves o.1.level tt
    (in_opened c.requires.begins c.skip.ensures.took c.in_ok-expect.ensures.took o.0 o.1) c.in_err-target.ensures.reads)

pub returns-in_err-expect-2 : goal.returns-in_err-expect-2
returns-in_err-expect-2 c =
    let p = err_from_is_err_and c.from_residual-in_err-expect-2.result c.from_residual-in_err-expect-2.ensures.1 in
    let o = c.in_ok-inner.ensures.opens in
    rw (p.1, p.2) (stops_missing_deeper c.expect-2.new.self _ c.expect-2.ensures.moves
    (in_inner c.requires.begins c.skip.ensures.took c.in_ok-expect.ensures.took o.0 o.1 c.in_ok-target.ensures.reads) c.in_err-expect-2.ensures.took)

pub returns : goal.returns
returns c =
    let o = c.in_ok-inner.ensures.opens in
    input_read c.requires.begins c.skip.ensures.took c.in_ok-expect.ensures.took o.0 o.1 c.in_ok-target.ensures.reads
    c.expect-2.new.self c.make.new.self c.place-place.result c.make.result c.in_ok-expect-2.ensures.took c.place-place.ensures c.make.ensures
