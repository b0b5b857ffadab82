use Rattle.std.proofs.Common.{refl}
use Rattle.std.proofs.lemmas.Result.{err_from_is_err_and}
use Rattle.grammar.specs.Tree.{Row, Name, Item, integer}
use Rattle.parser.proofs.Moving.{moves_trans}
use Rattle.parser.proofs.Going.{goes_start}
use Rattle.parser.proofs.Stepping.{fails_unopened, fails_behind_deeper, fails_missing_deeper}
use Rattle.parser.proofs.Groups.{names_begun, names_inside, names_read}
use Rattle.parser.proofs.table.Parser.bracketed_names.Goals as goal

pub returns-in_err-inner : goal.returns-in_err-inner
returns-in_err-inner c =
    let p = err_from_is_err_and c.from_residual.result c.from_residual.ensures.1 in
    record { moves = c.open_mark.ensures.moves; reads = λ f. rw (p.1, p.2) (fails_unopened _ refl refl c.in_err-inner.ensures.opens goes_start) }

pub returns-in_err-names : goal.returns-in_err-names
returns-in_err-names c =
    let p = err_from_is_err_and c.from_residual-in_err-names.result c.from_residual-in_err-names.ensures.1 in
    let o = c.in_ok-inner.ensures.opens in
    record {
      moves = moves_trans c.args.self.now c.open_mark.new.self c.row.new.self c.open_mark.ensures.moves c.row.ensures.moves;
      reads = λ f. rw (p.1, p.2) (fails_behind_deeper _ o.1.level tt c.in_err-names.ensures.reads (names_begun f o.0 o.1));
    }

pub returns-in_err-expect : goal.returns-in_err-expect
returns-in_err-expect c =
    let p = err_from_is_err_and c.from_residual-in_err-expect.result c.from_residual-in_err-expect.ensures.1 in
    let o = c.in_ok-inner.ensures.opens in
    let g = λ (f : Row Name → Item). names_inside f o.0 o.1 c.in_ok-names.ensures.reads in
    record {
      moves = moves_trans c.args.self.now c.row.new.self c.expect.new.self (g integer).moves c.expect.ensures.moves;
      reads = λ f. rw (p.1, p.2) (fails_missing_deeper _ c.in_err-expect.ensures.took (g f));
    }

pub returns : goal.returns
returns c =
    let o = c.in_ok-inner.ensures.opens in
    let x = λ (f : Row Name → Item). names_read f o.0 o.1 c.in_ok-names.ensures.reads c.in_ok-expect.ensures.took in
    record { moves = (x integer).goes.moves; reads = λ f. x f }
