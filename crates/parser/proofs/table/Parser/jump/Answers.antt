use Rattle.std.proofs.lemmas.Result.{err_from_is_err_and}
use Rattle.words.specs.declared.token.Keyword.TheVariants.{Go}
use Rattle.grammar.specs.Classes.{the_keyword}
use Rattle.grammar.specs.Grammar.{a, statement}
use Rattle.parser.proofs.Tables.{word_left}
use Rattle.parser.proofs.Moving.{moves_trans}
use Rattle.parser.proofs.Going.{fails_here}
use Rattle.parser.proofs.Stepping.{stops_missing}
use Rattle.parser.proofs.Statements.{go_begun, go_to, go_read, switch_subscript, switched_read}
use Rattle.parser.proofs.table.Parser.jump.Goals as goal

pub skip-requires : goal.skip-requires
skip-requires c = record { left = word_left (the_keyword Go) tt c.args.self.now c.requires.begins }

pub returns-in_err-expect : goal.returns-in_err-expect
returns-in_err-expect c =
    let p = err_from_is_err_and c.from_residual.result c.from_residual.ensures.1 in
    rw (p.1, p.2) (stops_missing c.expect.new.self _ c.expect.ensures.moves (go_begun c.requires.begins c.skip.ensures.took) c.in_err-expect.ensures.took)

pub returns-in_err-name : goal.returns-in_err-name
returns-in_err-name c =
    let p = err_from_is_err_and c.from_residual-in_err-name.result c.from_residual-in_err-name.ensures.1 in
    rw (p.1, p.2) (stops_missing c.expect_name.new.self _ c.expect_name.ensures.moves
    (go_to c.requires.begins c.skip.ensures.took c.in_ok-expect.ensures.took) c.in_err-name.ensures.took)

pub returns-then-not-next_is : goal.returns-then-not-next_is
returns-then-not-next_is c =
    go_read c.requires.begins c.skip.ensures.took c.in_ok-expect.ensures.took c.in_ok-name.ensures.took
    c.make.new.self c.place-place.result c.make.result c.if-not-next_is.ensures c.place-place.ensures c.make.ensures

pub returns-in_err-subscript : goal.returns-in_err-subscript
returns-in_err-subscript c =
    let p = err_from_is_err_and c.from_residual-in_err-subscript.result c.from_residual-in_err-subscript.ensures.1 in
    let g = switch_subscript c.requires.begins c.skip.ensures.took c.in_ok-expect.ensures.took c.in_ok-name.ensures.took c.if-not-next_is.ensures in
    record {
      moves = moves_trans c.args.self.now c.expect_name.new.self c.subscript.new.self g.moves c.subscript.ensures.moves;
      reads = rw (p.1, p.2) (fails_here _ g (λ limit d k h. c.in_err-subscript.ensures.reads (a statement) _ limit d k h));
    }

pub returns : goal.returns
returns c =
    switched_read c.requires.begins c.skip.ensures.took c.in_ok-expect.ensures.took c.in_ok-name.ensures.took c.if-not-next_is.ensures
    c.subscript.new.self c.make-2.new.self c.place-place.result c.in_ok-subscript.subscript c.make-2.result (c.in_ok-subscript.ensures.reads (a statement) _) c.place-place.ensures c.make-2.ensures
