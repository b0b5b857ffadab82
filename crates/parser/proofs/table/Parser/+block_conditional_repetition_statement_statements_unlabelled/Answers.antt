use Rattle.std.proofs.Common.{rules, ◌≡◌, None, refl, arith}
use Rattle.std.proofs.lemmas.Result.{err_from_is_err_and}
use Rattle.words.specs.declared.token.Keyword.TheVariants.{Begin, If, For, Go, In, Print, Stop}
use Rattle.grammar.specs.Classes.{heads, the_keyword}
use Rattle.grammar.specs.Grammar.{statement}
use Rattle.grammar.specs.Parser.{conditional_script, repetition_script, block_script}
use Rattle.parser.specs.Records.{ahead}
use Rattle.parser.proofs.Tables.{word_left}
use Rattle.parser.proofs.Moving.{moves_trans}
use Rattle.parser.proofs.Naming.{name_missing}
use Rattle.parser.proofs.Rows.{row_none, row_again, row_paid, row_falls, row_fails, row_refused, row_ended}
use Rattle.parser.proofs.Stepping.{part_deep, stops_behind_deeper, stops_missing_deeper}
use Rattle.parser.proofs.Labels.{labelled_fails, labelled_read}
use Rattle.parser.proofs.Nesting.{statement_missing, if_begun, condition_read, if_body_begun, conditional_read, for_begun, for_named, elements_begun, elements_read, for_body_begun, repeated_read, block_begun, block_inside, block_read}
use Rattle.parser.proofs.table.Parser.+block_conditional_repetition_statement_statements_unlabelled.Goals as goal

pub block-open-requires : goal.block-open-requires
block-open-requires t c = record { left = word_left (the_keyword Begin) tt c.args.self.now c.requires.begins }

pub block-returns-in_err-inner : goal.block-returns-in_err-inner
block-returns-in_err-inner t c =
    let p = err_from_is_err_and c.from_residual.result c.from_residual.ensures.1 in
    rw (p.1, p.2) (part_deep (the_keyword Begin) tt (λ _. block_script) c.requires.begins (λ d b k. refl) c.open.new.self _ refl c.open.ensures.moves c.in_err-inner.ensures.opens)

pub block-returns-in_err-all : goal.block-returns-in_err-all
block-returns-in_err-all t c =
    let p = err_from_is_err_and c.from_residual-in_err-all.result c.from_residual-in_err-all.ensures.1 in
    let o = c.in_ok-inner.ensures.opens in
    rw (p.1, p.2) (stops_behind_deeper c.statements.new.self _ c.statements.ensures.moves o.level tt (block_begun c.requires.begins o) c.in_err-all.ensures.reads)

pub block-returns-in_err-expect : goal.block-returns-in_err-expect
block-returns-in_err-expect t c =
    let p = err_from_is_err_and c.from_residual-in_err-expect.result c.from_residual-in_err-expect.ensures.1 in
    rw (p.1, p.2) (stops_missing_deeper c.expect.new.self _ c.expect.ensures.moves
    (block_inside c.requires.begins c.in_ok-inner.ensures.opens c.in_ok-all.ensures.reads) c.in_err-expect.ensures.took)

pub block-returns : goal.block-returns
block-returns t c = block_read c.requires.begins c.in_ok-inner.ensures.opens c.in_ok-all.ensures.reads c.in_ok-expect.ensures.took

pub conditional-open-requires : goal.conditional-open-requires
conditional-open-requires t c = record { left = word_left (the_keyword If) tt c.args.self.now c.requires.begins }

pub conditional-returns-in_err-inner : goal.conditional-returns-in_err-inner
conditional-returns-in_err-inner t c =
    let p = err_from_is_err_and c.from_residual.result c.from_residual.ensures.1 in
    rw (p.1, p.2) (part_deep (the_keyword If) tt conditional_script c.requires.begins (λ d b k. refl) c.open.new.self _ refl c.open.ensures.moves c.in_err-inner.ensures.opens)

pub conditional-returns-in_err-condition : goal.conditional-returns-in_err-condition
conditional-returns-in_err-condition t c =
    let p = err_from_is_err_and c.from_residual-in_err-condition.result c.from_residual-in_err-condition.ensures.1 in
    let o = c.in_ok-inner.ensures.opens in
    rw (p.1, p.2) (stops_behind_deeper c.expression.new.self _ c.expression.ensures.moves o.level tt (if_begun c.requires.begins o) c.in_err-condition.ensures.reads)

pub conditional-returns-in_err-expect : goal.conditional-returns-in_err-expect
conditional-returns-in_err-expect t c =
    let p = err_from_is_err_and c.from_residual-in_err-expect.result c.from_residual-in_err-expect.ensures.1 in
    rw (p.1, p.2) (stops_missing_deeper c.expect.new.self _ c.expect.ensures.moves
    (condition_read c.requires.begins c.in_ok-inner.ensures.opens c.in_ok-condition.ensures.reads) c.in_err-expect.ensures.took)

pub conditional-returns-in_err-body : goal.conditional-returns-in_err-body
conditional-returns-in_err-body t c =
    let p = err_from_is_err_and c.from_residual-in_err-body.result c.from_residual-in_err-body.ensures.1 in
    let o = c.in_ok-inner.ensures.opens in
    rw (p.1, p.2) (stops_behind_deeper c.statement.new.self _ c.statement.ensures.moves o.level tt
    (if_body_begun c.requires.begins o c.in_ok-condition.ensures.reads c.in_ok-expect.ensures.took) c.in_err-body.ensures.reads)

pub conditional-returns : goal.conditional-returns
conditional-returns t c =
    conditional_read c.requires.begins c.in_ok-inner.ensures.opens c.in_ok-condition.ensures.reads c.in_ok-expect.ensures.took
    c.statement.new.self c.make.new.self c.in_ok-body.body c.place-place.result c.make.result c.in_ok-body.ensures.reads c.place-place.ensures c.make.ensures

pub repetition-open-requires : goal.repetition-open-requires
repetition-open-requires t c = record { left = word_left (the_keyword For) tt c.args.self.now c.requires.begins }

pub repetition-returns-in_err-inner : goal.repetition-returns-in_err-inner
repetition-returns-in_err-inner t c =
    let p = err_from_is_err_and c.from_residual.result c.from_residual.ensures.1 in
    rw (p.1, p.2) (part_deep (the_keyword For) tt repetition_script c.requires.begins (λ d b k. refl) c.open.new.self _ refl c.open.ensures.moves c.in_err-inner.ensures.opens)

pub repetition-returns-in_err-name : goal.repetition-returns-in_err-name
repetition-returns-in_err-name t c =
    let p = err_from_is_err_and c.from_residual-in_err-name.result c.from_residual-in_err-name.ensures.1 in
    rw (p.1, p.2) (stops_missing_deeper c.expect_name.new.self _ c.expect_name.ensures.moves (for_begun c.requires.begins c.in_ok-inner.ensures.opens) c.in_err-name.ensures.took)

pub repetition-returns-in_err-expect : goal.repetition-returns-in_err-expect
repetition-returns-in_err-expect t c =
    let p = err_from_is_err_and c.from_residual-in_err-expect.result c.from_residual-in_err-expect.ensures.1 in
    rw (p.1, p.2) (stops_missing_deeper c.expect.new.self _ c.expect.ensures.moves
    (for_named c.requires.begins c.in_ok-inner.ensures.opens c.in_ok-name.ensures.took) c.in_err-expect.ensures.took)

pub repetition-returns-in_err-elements : goal.repetition-returns-in_err-elements
repetition-returns-in_err-elements t c =
    let p = err_from_is_err_and c.from_residual-in_err-elements.result c.from_residual-in_err-elements.ensures.1 in
    let o = c.in_ok-inner.ensures.opens in
    rw (p.1, p.2) (stops_behind_deeper c.row.new.self _ c.row.ensures.moves o.level tt
    (elements_begun c.requires.begins o c.in_ok-name.ensures.took c.in_ok-expect.ensures.took) c.in_err-elements.ensures.reads)

pub repetition-returns-in_err-expect-2 : goal.repetition-returns-in_err-expect-2
repetition-returns-in_err-expect-2 t c =
    let p = err_from_is_err_and c.from_residual-in_err-expect-2.result c.from_residual-in_err-expect-2.ensures.1 in
    rw (p.1, p.2) (stops_missing_deeper c.expect-2.new.self _ c.expect-2.ensures.moves
    (elements_read c.requires.begins c.in_ok-inner.ensures.opens c.in_ok-name.ensures.took c.in_ok-expect.ensures.took c.in_ok-elements.ensures.reads)
    c.in_err-expect-2.ensures.took)

pub repetition-returns-in_err-body : goal.repetition-returns-in_err-body
repetition-returns-in_err-body t c =
    let p = err_from_is_err_and c.from_residual-in_err-body.result c.from_residual-in_err-body.ensures.1 in
    let o = c.in_ok-inner.ensures.opens in
    rw (p.1, p.2) (stops_behind_deeper c.statement.new.self _ c.statement.ensures.moves o.level tt
    (for_body_begun c.requires.begins o c.in_ok-name.ensures.took c.in_ok-expect.ensures.took c.in_ok-elements.ensures.reads c.in_ok-expect-2.ensures.took)
    c.in_err-body.ensures.reads)

pub repetition-returns : goal.repetition-returns
repetition-returns t c =
    repeated_read c.requires.begins c.in_ok-inner.ensures.opens c.in_ok-name.ensures.took c.in_ok-expect.ensures.took c.in_ok-elements.ensures.reads
    c.in_ok-expect-2.ensures.took c.statement.new.self c.make.new.self c.in_ok-body.body c.place-place.result c.make.result
    c.in_ok-body.ensures.reads c.place-place.ensures c.make.ensures

pub statement-returns-in_err-inner : goal.statement-returns-in_err-inner
statement-returns-in_err-inner t c =
    let p = err_from_is_err_and c.from_residual.result c.from_residual.ensures.1 in
    let l = c.skip_labels-labels.ensures.passed in
    record {
      moves = moves_trans c.args.self.now c.skip_labels-labels.new.self c.unlabelled.new.self l.moves c.unlabelled.ensures.moves;
      reads = rw (p.1, p.2) (labelled_fails c.args.levels l _ c.in_err-inner.ensures.reads);
    }

pub statement-label-requires : goal.statement-label-requires
statement-label-requires t c =
    let l = c.skip_labels-labels.ensures.passed in
    let m = c.in_ok-inner.ensures.moves in
    record {
      behind = omega (arith, l.on, m.on);
      paid = omega (arith, l.on, l.made, m.thrift, c.args.self.now.thrift);
      made = c.in_ok-inner.ensures.reads.below;
    }

pub statement-returns : goal.statement-returns
statement-returns t c =
    labelled_read c.args.levels c.skip_labels-labels.ensures.passed c.unlabelled.new.self c.label.new.self c.in_ok-inner.inner c.label.result c.in_ok-inner.ensures.reads c.label.ensures

pub statements-returns-in_err-all : goal.statements-returns-in_err-all
statements-returns-in_err-all t c =
    let p = err_from_is_err_and c.from_residual.result c.from_residual.ensures.1 in
    record {
      moves = c.statement.ensures.moves;
      reads = rw (p.1, p.2) (row_fails statement c.args.levels c.args.self.now _ c.in_err-all.ensures.reads);
    }

pub statements-loop-self-init : goal.statements-loop-self-init
statements-loop-self-init t c =
    row_none statement c.args.levels c.statement.new.self c.in_ok-all.all c.in_ok-all.ensures.reads.below

pub statements-returns-in_err-next : goal.statements-returns-in_err-next
statements-returns-in_err-next t c =
    let p = err_from_is_err_and c.from_residual-in_err-next.result c.from_residual-in_err-next.ensures.1 in
    rw (p.1, p.2) (row_refused statement c.args.levels c.args.self.now c.statement.new.self c.in_ok-all.all c.loop-self.self c.loop-self.all
    c.take.new.self c.statement-in-Some.new.self _ c.in_ok-all.ensures.reads c.loop-self.invariant
    c.in-Some.ensures.is c.in-Some.ensures.took c.statement-in-Some.ensures.moves c.in_err-next.ensures.reads)

pub statements-make-all-requires : goal.statements-make-all-requires
statements-make-all-requires t c =
    record {
      paid = row_paid statement c.args.levels c.statement.new.self c.in_ok-all.all c.loop-self.self c.loop-self.all c.take.new.self c.statement-in-Some.new.self
          c.loop-self.invariant c.in-Some.ensures.took c.in_ok-next.ensures.moves;
    }

pub statements-loop-self-smaller : goal.statements-loop-self-smaller
statements-loop-self-smaller t c =
    row_falls statement c.loop-self.self c.take.new.self c.statement-in-Some.new.self c.make-all.new.self c.loop-self.all c.in_ok-next.next c.make-all.result
    c.in-Some.ensures.is c.in-Some.ensures.took c.in_ok-next.ensures.moves c.make-all.ensures

pub statements-loop-self-preserved : goal.statements-loop-self-preserved
statements-loop-self-preserved t c =
    row_again statement c.args.levels c.statement.new.self c.in_ok-all.all c.loop-self.self c.loop-self.all c.take.new.self c.statement-in-Some.new.self c.make-all.new.self
    c.in_ok-next.next c.make-all.result c.loop-self.invariant c.in-Some.ensures.is c.in-Some.ensures.took c.in_ok-next.ensures.reads c.make-all.ensures

pub statements-returns : goal.statements-returns
statements-returns t c =
    row_ended statement c.args.levels c.args.self.now c.statement.new.self c.in_ok-all.all c.loop-self.self c.loop-self.all c.take.new.self
    c.in_ok-all.ensures.reads c.loop-self.invariant c.in_default.ensures.is c.in_default.ensures.took

pub unlabelled-returns-in-None-clause-reads : goal.unlabelled-returns-in-None-clause-reads
unlabelled-returns-in-None-clause-reads t c =
    let r = c.args.self.now in
    let e₁ : heads (the_keyword If) (ahead r) ≡ None = search rules in
    let e₂ : heads (the_keyword For) (ahead r) ≡ None = search rules in
    let e₃ : heads (the_keyword Begin) (ahead r) ≡ None = search rules in
    let e₄ : heads (the_keyword Go) (ahead r) ≡ None = search rules in
    let e₅ : heads (the_keyword In) (ahead r) ≡ None = search rules in
    let e₆ : heads (the_keyword Print) (ahead r) ≡ None = search rules in
    let e₇ : heads (the_keyword Stop) (ahead r) ≡ None = search rules in
    statement_missing c.args.levels r c.refuse.result e₁ e₂ e₃ e₄ e₅ e₆ e₇ (name_missing r c.in-None.ensures) (record { reason = c.refuse.ensures.reason; place = c.refuse.ensures.place })
