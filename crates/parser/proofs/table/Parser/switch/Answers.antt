use Rattle.std.proofs.lemmas.Result.{err_from_is_err_and}
use Rattle.words.specs.declared.token.Keyword.TheVariants.{Switch}
use Rattle.grammar.specs.Classes.{the_keyword}
use Rattle.parser.proofs.Tables.{word_left}
use Rattle.parser.proofs.Moving.{moves_trans}
use Rattle.parser.proofs.Going.{fails_here}
use Rattle.parser.proofs.Stepping.{stops_missing}
use Rattle.parser.proofs.Items.{switch_begun, switch_named, switch_becomes, switch_read}
use Rattle.parser.proofs.table.Parser.switch.Goals as goal

pub skip-requires : goal.skip-requires
skip-requires c = record { left = word_left (the_keyword Switch) tt c.args.self.now c.requires.begins }

pub returns-in_err-name : goal.returns-in_err-name
returns-in_err-name c =
    let p = err_from_is_err_and c.from_residual.result c.from_residual.ensures.1 in
    rw (p.1, p.2) (stops_missing c.expect_name.new.self _ c.expect_name.ensures.moves (switch_begun c.requires.begins c.skip.ensures.took) c.in_err-name.ensures.took)

pub returns-in_err-expect : goal.returns-in_err-expect
returns-in_err-expect c =
    let p = err_from_is_err_and c.from_residual-in_err-expect.result c.from_residual-in_err-expect.ensures.1 in
    rw (p.1, p.2) (stops_missing c.expect.new.self _ c.expect.ensures.moves
    (switch_named c.requires.begins c.skip.ensures.took c.in_ok-name.ensures.took) c.in_err-expect.ensures.took)

pub returns-in_err-labels : goal.returns-in_err-labels
returns-in_err-labels c =
    let p = err_from_is_err_and c.from_residual-in_err-labels.result c.from_residual-in_err-labels.ensures.1 in
    let g = switch_becomes {L = c.args.levels} c.requires.begins c.skip.ensures.took c.in_ok-name.ensures.took c.in_ok-expect.ensures.took in
    record {
      moves = moves_trans c.args.self.now c.expect.new.self c.bracketed_names.new.self g.moves c.bracketed_names.ensures.moves;
      reads = rw (p.1, p.2) (fails_here _ g (λ limit d k h. c.in_err-labels.ensures.reads _ limit d k h));
    }

pub returns : goal.returns
returns c =
    switch_read c.requires.begins c.skip.ensures.took c.in_ok-name.ensures.took c.in_ok-expect.ensures.took
    c.bracketed_names.new.self c.make.new.self c.in_ok-labels.labels c.make.result (c.in_ok-labels.ensures.reads _) c.make.ensures
