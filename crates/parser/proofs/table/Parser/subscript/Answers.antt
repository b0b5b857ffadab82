use Rattle.std.proofs.Common.{refl}
use Rattle.std.proofs.lemmas.Result.{err_from_is_err_and}
use Rattle.parser.proofs.Moving.{moves_trans}
use Rattle.parser.proofs.Going.{goes_start}
use Rattle.parser.proofs.Stepping.{fails_unopened, fails_behind_deeper, fails_missing_deeper}
use Rattle.parser.proofs.Statements.{subscript_opened, subscript_inner, subscript_read}
use Rattle.parser.proofs.table.Parser.subscript.Goals as goal

pub returns-in_err-inner : goal.returns-in_err-inner
returns-in_err-inner c =
    let p = err_from_is_err_and c.from_residual.result c.from_residual.ensures.1 in
    record { moves = c.open_mark.ensures.moves; reads = λ o f. rw (p.1, p.2) (fails_unopened _ refl refl c.in_err-inner.ensures.opens goes_start) }

pub returns-in_err-subscript : goal.returns-in_err-subscript
returns-in_err-subscript c =
    let p = err_from_is_err_and c.from_residual-in_err-subscript.result c.from_residual-in_err-subscript.ensures.1 in
    let o = c.in_ok-inner.ensures.opens in
    record {
      moves = moves_trans c.args.self.now c.open_mark.new.self c.expression.new.self c.open_mark.ensures.moves c.expression.ensures.moves;
      reads = λ q f. rw (p.1, p.2) (fails_behind_deeper _ o.1.level tt c.in_err-subscript.ensures.reads (subscript_opened f o.0 o.1));
    }

pub returns-in_err-expect : goal.returns-in_err-expect
returns-in_err-expect c =
    let p = err_from_is_err_and c.from_residual-in_err-expect.result c.from_residual-in_err-expect.ensures.1 in
    let o = c.in_ok-inner.ensures.opens in
    let x = c.in_ok-subscript.ensures.reads in
    record {
      moves = moves_trans c.args.self.now c.open_mark.new.self c.expect.new.self c.open_mark.ensures.moves
          (moves_trans c.open_mark.new.self c.expression.new.self c.expect.new.self c.expression.ensures.moves c.expect.ensures.moves);
      reads = λ q f. rw (p.1, p.2) (fails_missing_deeper _ c.in_err-expect.ensures.took (subscript_inner f o.0 o.1 x));
    }

pub returns : goal.returns
returns c =
    let o = c.in_ok-inner.ensures.opens in
    record {
      moves = moves_trans c.args.self.now c.open_mark.new.self c.expect.new.self c.open_mark.ensures.moves
          (moves_trans c.open_mark.new.self c.expression.new.self c.expect.new.self c.expression.ensures.moves c.expect.ensures.moves);
      reads = λ q f. subscript_read f o.0 o.1 c.in_ok-subscript.ensures.reads c.in_ok-expect.ensures.took;
    }
