use Rattle.std.proofs.Common.{refl, ◌≡◌, suc, ◌+◌, ap, ◌∙◌, add-one, arith}
use Rattle.std.proofs.lemmas.Result.{err_from_is_err_and}
use Rattle.words.specs.declared.token.Mark.TheVariants.{OpenRound, OpenSquare}
use Rattle.grammar.specs.Classes.{the_mark, an_operator, rank}
use Rattle.grammar.specs.Parser.{bracket_script}
use Rattle.parser.specs.Records.{ExpAt}
use Rattle.parser.specs.Promises.{Moves}
use Rattle.parser.proofs.Tables.{word_left}
use Rattle.parser.proofs.Moving.{moves_trans, moves_took, moves_left}
use Rattle.parser.proofs.Going.{goes_left, goes_part, fails_part, reads_behind}
use Rattle.parser.proofs.Operators.{operators_more, operators_fail, operators_end}
use Rattle.parser.proofs.Stepping.{part_deep, goes_first, stops_missing, stops_missing_deeper, stops_behind_deeper, stops_deep}
use Rattle.parser.proofs.Factors.{goes_as_variable, goes_as_factor, variable_reads, number_read, bracket_takes, bracket_opened, bracket_closing, bracket_read, comparison_begun, comparison_inside, comparison_read, prefix_begun, prefix_fails, prefix_read, variable_begins, variable_begun, whole_read, subscript_begun, subscript_inside, indexed_read}
use Rattle.parser.proofs.table.Parser.+bracket_expression_factor_operated_variable.Goals as goal

pub bracket-open-requires : goal.bracket-open-requires
bracket-open-requires t c = record { left = word_left (the_mark OpenRound) tt c.args.self.now c.requires.opens }

pub bracket-returns-in_err-inner : goal.bracket-returns-in_err-inner
bracket-returns-in_err-inner t c =
    let p = err_from_is_err_and c.from_residual.result c.from_residual.ensures.1 in
    rw (p.1, p.2) (part_deep (the_mark OpenRound) tt bracket_script c.requires.opens bracket_takes c.open.new.self _ refl c.open.ensures.moves c.in_err-inner.ensures.opens)

pub bracket-returns-in_err-left : goal.bracket-returns-in_err-left
bracket-returns-in_err-left t c =
    let p = err_from_is_err_and c.from_residual-in_err-left.result c.from_residual-in_err-left.ensures.1 in
    let o = c.in_ok-inner.ensures.opens in
    rw (p.1, p.2) (stops_behind_deeper c.expression.new.self _ c.expression.ensures.moves o.level tt (bracket_opened c.requires.opens o) c.in_err-left.ensures.reads)

pub bracket-returns-in_err-right : goal.bracket-returns-in_err-right
bracket-returns-in_err-right t c =
    let p = err_from_is_err_and c.from_residual-in_err-right.result c.from_residual-in_err-right.ensures.1 in
    let o = c.in_ok-inner.ensures.opens in
    rw (p.1, p.2) (stops_behind_deeper c.expression-in-Some.new.self _ c.expression-in-Some.ensures.moves o.level tt
    (comparison_begun c.requires.opens o c.in_ok-left.ensures.reads c.in-Some.ensures) c.in_err-right.ensures.reads)

pub bracket-returns-in_err-expect : goal.bracket-returns-in_err-expect
bracket-returns-in_err-expect t c =
    let p = err_from_is_err_and c.from_residual-in_err-expect.result c.from_residual-in_err-expect.ensures.1 in
    rw (p.1, p.2) (stops_missing_deeper c.expect.new.self _ c.expect.ensures.moves
    (comparison_inside c.requires.opens c.in_ok-inner.ensures.opens c.in_ok-left.ensures.reads c.in-Some.ensures c.in_ok-right.ensures.reads) c.in_err-expect.ensures.took)

pub bracket-returns-in-Some : goal.bracket-returns-in-Some
bracket-returns-in-Some t c =
    comparison_read c.requires.opens c.in_ok-inner.ensures.opens c.in_ok-left.ensures.reads c.in-Some.ensures c.in_ok-right.ensures.reads
    c.expect.new.self c.make.new.self c.place-place.result c.make.result c.in_ok-expect.ensures.took c.place-place.ensures c.make.ensures

pub bracket-returns-in_err-expect-2 : goal.bracket-returns-in_err-expect-2
bracket-returns-in_err-expect-2 t c =
    let p = err_from_is_err_and c.from_residual-in_err-expect-2.result c.from_residual-in_err-expect-2.ensures.1 in
    rw (p.1, p.2) (stops_missing_deeper c.expect-2.new.self _ c.expect-2.ensures.moves
    (bracket_closing c.requires.opens c.in_ok-inner.ensures.opens c.in_ok-left.ensures.reads c.in_default.ensures) c.in_err-expect-2.ensures.took)

pub bracket-returns : goal.bracket-returns
bracket-returns t c =
    bracket_read c.requires.opens c.in_ok-inner.ensures.opens c.in_ok-left.ensures.reads c.in_default.ensures
    c.expect-2.new.self c.make-2.new.self c.place-place.result c.make-2.result c.in_ok-expect-2.ensures.took c.place-place.ensures c.make-2.ensures

pub expression-returns-in_err-operand : goal.expression-returns-in_err-operand
expression-returns-in_err-operand t c =
    let p = err_from_is_err_and c.from_residual.result c.from_residual.ensures.1 in
    let r = c.args.self.now in
    let s = c.take.new.self in
    let g = prefix_begun c.args.levels r s c.args.rank c.in-Some.o c.in-Some.ensures.is c.in-Some.ensures.took in
    record {
      moves = moves_trans r s c.expression.new.self g.moves c.expression.ensures.moves;
      reads = rw (p.1, p.2) (prefix_fails c.args.levels r s c.args.rank c.in-Some.o c.in-Some.ensures.is c.in-Some.ensures.took c.operand_rank.result _ c.operand_rank.ensures c.in_err-operand.ensures.reads);
    }

pub expression-returns-in-Some : goal.expression-returns-in-Some
expression-returns-in-Some t c =
    let r = c.args.self.now in
    let s = c.take.new.self in
    let q = c.make-left.new.self in
    let x = prefix_read c.args.levels r s c.args.rank c.in-Some.o c.in-Some.ensures.is c.in-Some.ensures.took c.expression.new.self q c.operand_rank.result
    c.in_ok-operand.operand c.place-place.result c.make-left.result c.rank.result c.operand_rank.ensures c.in_ok-operand.ensures.reads c.place-place.ensures c.make-left.ensures c.rank.ensures in
    record {
      moves = moves_trans r q c.operated.new.self x.goes.moves c.operated.ensures.moves;
      reads = reads_behind ExpAt c.operated.new.self c.operated.result x.goes (c.operated.ensures.reads x.tree x.held);
    }

pub expression-returns-in_err-left : goal.expression-returns-in_err-left
expression-returns-in_err-left t c =
    let p = err_from_is_err_and c.from_residual-in_err-left.result c.from_residual-in_err-left.ensures.1 in
    let r = c.args.self.now in
    let s = c.take.new.self in
    let g = goes_left s (goes_as_factor c.args.levels r c.args.rank c.in_default.ensures.is) c.in_default.ensures.took in
    record { moves = moves_trans r s c.factor.new.self g.moves c.factor.ensures.moves; reads = rw (p.1, p.2) (fails_part _ tt g c.in_err-left.ensures.reads) }

pub expression-returns : goal.expression-returns
expression-returns t c =
    let r = c.args.self.now in
    let s = c.take.new.self in
    let q = c.factor.new.self in
    let x = c.in_ok-left.ensures.reads in
    let g = goes_part q c.in_ok-left.left tt (goes_left s (goes_as_factor c.args.levels r c.args.rank c.in_default.ensures.is) c.in_default.ensures.took) x in
    record {
      moves = moves_trans r q c.operated-2.new.self g.moves c.operated-2.ensures.moves;
      reads = reads_behind ExpAt c.operated-2.new.self c.operated-2.result g (c.operated-2.ensures.reads x.tree x.held);
    }

pub factor-returns-in-Some : goal.factor-returns-in-Some
factor-returns-in-Some t c =
    number_read c.args.levels c.args.self.now c.take.new.self c.make.new.self c.in-Some.n c.place-place.result c.make.result
    c.in-Some.ensures.is c.in-Some.ensures.took c.place-place.ensures c.make.ensures

pub factor-returns : goal.factor-returns
factor-returns t c =
    let r = c.args.self.now in
    let s = c.take.new.self in
    let g = goes_left s (goes_as_variable c.args.levels r c.if-next_is.ensures c.in_default.ensures.is) c.in_default.ensures.took in
    record {
      moves = moves_trans r s c.variable.new.self g.moves c.variable.ensures.moves;
      reads = variable_reads c.args.levels r s c.variable.new.self c.variable.result g c.variable.ensures.reads;
    }

pub operated-returns-in_err-right : goal.operated-returns-in_err-right
operated-returns-in_err-right t c =
    let p = err_from_is_err_and c.from_residual.result c.from_residual.ensures.1 in
    let r = c.args.self.now in
    let s = c.loop-o.self in
    let q = c.take.new.self in
    let k : c.rank.result + 1 ≡ suc (rank c.in-Some.o) = ap (λ n. n + 1) c.rank.ensures ∙ add-one (rank c.in-Some.o) in
    let m : Moves s c.expression.new.self = moves_trans s q c.expression.new.self (moves_took s q (word_left (an_operator c.args.rank c.loop-o.up_to) c.in-Some.o s c.in-Some.ensures.is) c.in-Some.ensures.took) c.expression.ensures.moves in
    record {
      moves = moves_trans r s c.expression.new.self c.loop-o.invariant.moves m;
      reads = λ x y. rw (p.1, p.2) (operators_fail c.args.rank c.args.levels r s q c.args.first c.args.bound c.loop-o.left c.loop-o.up_to c.in-Some.o _ c.loop-o.invariant
          c.in-Some.ensures.is c.in-Some.ensures.took (rw k at c.in_err-right.ensures.reads) x y);
    }

pub operated-loop-o-preserved : goal.operated-loop-o-preserved
operated-loop-o-preserved t c =
    let k : c.rank.result + 1 ≡ suc (rank c.in-Some.o) = ap (λ n. n + 1) c.rank.ensures ∙ add-one (rank c.in-Some.o) in
    let tk = c.in-Some.ensures.took in
    let m = c.in_ok-right.ensures.moves in
    rw c.rank-up_to.ensures
    (operators_more c.args.rank c.args.levels c.args.self.now c.loop-o.self c.take.new.self c.expression.new.self c.make-left.new.self c.args.first c.args.bound c.loop-o.left c.loop-o.up_to
    c.in-Some.o c.in_ok-right.right c.make-left.result c.loop-o.invariant c.in-Some.ensures.is tk (rw k at c.in_ok-right.ensures.reads)
    (omega (arith, c.loop-o.self.thrift, tk.at, tk.made, m.thrift)) c.make-left.ensures)

pub operated-returns : goal.operated-returns
operated-returns t c =
    let r = c.args.self.now in
    let s = c.loop-o.self in
    let q = c.take.new.self in
    record {
      moves = moves_trans r s q c.loop-o.invariant.moves (moves_left s q c.in_default.ensures.took);
      reads = λ x y. operators_end c.args.rank c.args.levels r s q c.args.first c.args.bound c.loop-o.left c.loop-o.up_to c.loop-o.invariant c.in_default.ensures.is c.in_default.ensures.took x y;
    }

pub variable-returns-in_err-name : goal.variable-returns-in_err-name
variable-returns-in_err-name t c =
    let p = err_from_is_err_and c.from_residual.result c.from_residual.ensures.1 in
    rw (p.1, p.2) (stops_missing c.expect_name.new.self _ c.expect_name.ensures.moves variable_begins c.in_err-name.ensures.took)

pub variable-returns-then-not-next_is : goal.variable-returns-then-not-next_is
variable-returns-then-not-next_is t c = whole_read c.in_ok-name.ensures.took c.make.new.self c.make.result c.if-not-next_is.ensures c.make.ensures

pub variable-open-requires : goal.variable-open-requires
variable-open-requires t c = record { left = word_left (the_mark OpenSquare) tt c.expect_name.new.self c.if-not-next_is.ensures }

pub variable-returns-in_err-inner : goal.variable-returns-in_err-inner
variable-returns-in_err-inner t c =
    let p = err_from_is_err_and c.from_residual-in_err-inner.result c.from_residual-in_err-inner.ensures.1 in
    let e = c.if-not-next_is.ensures in
    rw (p.1, p.2) (stops_deep c.open.new.self _ c.open.ensures.moves tt e refl refl (goes_first e (variable_begun c.in_ok-name.ensures.took)) c.in_err-inner.ensures.opens)

pub variable-returns-in_err-subscript : goal.variable-returns-in_err-subscript
variable-returns-in_err-subscript t c =
    let p = err_from_is_err_and c.from_residual-in_err-subscript.result c.from_residual-in_err-subscript.ensures.1 in
    let o = c.in_ok-inner.ensures.opens in
    rw (p.1, p.2) (stops_behind_deeper c.expression.new.self _ c.expression.ensures.moves o.level tt (subscript_begun c.in_ok-name.ensures.took c.if-not-next_is.ensures o) c.in_err-subscript.ensures.reads)

pub variable-returns-in_err-expect : goal.variable-returns-in_err-expect
variable-returns-in_err-expect t c =
    let p = err_from_is_err_and c.from_residual-in_err-expect.result c.from_residual-in_err-expect.ensures.1 in
    rw (p.1, p.2) (stops_missing_deeper c.expect.new.self _ c.expect.ensures.moves
    (subscript_inside c.in_ok-name.ensures.took c.if-not-next_is.ensures c.in_ok-inner.ensures.opens c.in_ok-subscript.ensures.reads) c.in_err-expect.ensures.took)

pub variable-returns : goal.variable-returns
variable-returns t c =
    indexed_read c.in_ok-name.ensures.took c.if-not-next_is.ensures c.in_ok-inner.ensures.opens c.in_ok-subscript.ensures.reads
    c.expect.new.self c.make-2.new.self c.make-2.result c.in_ok-expect.ensures.took c.make-2.ensures
