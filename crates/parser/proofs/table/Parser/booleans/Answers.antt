use Rattle.std.proofs.Common.{refl}
use Rattle.std.proofs.lemmas.Result.{err_from_is_err_and}
use Rattle.words.specs.declared.token.Keyword.TheVariants.{Boolean}
use Rattle.grammar.specs.Tree.{boolean}
use Rattle.grammar.specs.Classes.{the_keyword}
use Rattle.parser.specs.declared.node.Node.TheVariants.{Boolean as BooleanNode}
use Rattle.parser.proofs.Tables.{word_left}
use Rattle.parser.proofs.Moving.{moves_trans}
use Rattle.parser.proofs.Going.{fails_here}
use Rattle.parser.proofs.Items.{names_item_begun, names_item_read}
use Rattle.parser.proofs.table.Parser.booleans.Goals as goal

pub skip-requires : goal.skip-requires
skip-requires c = record { left = word_left (the_keyword Boolean) tt c.args.self.now c.requires.begins }

pub returns-in_err-names : goal.returns-in_err-names
returns-in_err-names c =
    let p = err_from_is_err_and c.from_residual.result c.from_residual.ensures.1 in
    let g = names_item_begun Boolean boolean BooleanNode {L = c.args.levels} c.requires.begins refl (λ d b k. refl) c.skip.ensures.took in
    record {
      moves = moves_trans c.args.self.now c.skip.new.self c.bracketed_names.new.self g.moves c.bracketed_names.ensures.moves;
      reads = rw (p.1, p.2) (fails_here _ g (λ limit d k h. c.in_err-names.ensures.reads boolean limit d k h));
    }

pub returns : goal.returns
returns c =
    names_item_read Boolean boolean BooleanNode c.requires.begins refl (λ d b k. refl) c.skip.ensures.took c.bracketed_names.new.self c.make.new.self c.in_ok-names.names c.make.result
    (c.in_ok-names.ensures.reads boolean) c.make.ensures (λ xs h. h)
