use Rattle.std.proofs.lemmas.Result.{err_from_is_err_and}
use Rattle.grammar.specs.Classes.{a_name}
use Rattle.grammar.specs.Grammar.{a, statement}
use Rattle.parser.proofs.Tables.{word_left}
use Rattle.parser.proofs.Moving.{moves_trans}
use Rattle.parser.proofs.Going.{fails_here}
use Rattle.parser.proofs.Naming.{name_taken}
use Rattle.parser.proofs.Labelling.{no_colon}
use Rattle.parser.proofs.Statements.{whole_target, target_subscript, indexed_target}
use Rattle.parser.proofs.table.Parser.target.Goals as goal

pub skip-requires : goal.skip-requires
skip-requires c =
    let n = name_taken c.args.self.now c.args.name c.requires.named in
    record { left = word_left a_name n.letters c.args.self.now n.next }

pub returns-then-not-next_is : goal.returns-then-not-next_is
returns-then-not-next_is c =
    let n = name_taken c.args.self.now c.args.name c.requires.named in
    whole_target n c.skip.ensures.took (no_colon c.args.self.now c.skip.new.self n.letters n.next c.requires.plain c.skip.ensures.took)
    c.make.new.self c.make.result c.if-not-next_is.ensures c.make.ensures

pub returns-in_err-subscript : goal.returns-in_err-subscript
returns-in_err-subscript c =
    let p = err_from_is_err_and c.from_residual.result c.from_residual.ensures.1 in
    let n = name_taken c.args.self.now c.args.name c.requires.named in
    let g = target_subscript n c.skip.ensures.took (no_colon c.args.self.now c.skip.new.self n.letters n.next c.requires.plain c.skip.ensures.took) c.if-not-next_is.ensures in
    record {
      moves = moves_trans c.args.self.now c.skip.new.self c.subscript.new.self g.moves c.subscript.ensures.moves;
      reads = rw (p.1, p.2) (fails_here _ g (λ limit d k h. c.in_err-subscript.ensures.reads (a statement) _ limit d k h));
    }

pub returns : goal.returns
returns c =
    let n = name_taken c.args.self.now c.args.name c.requires.named in
    indexed_target n c.skip.ensures.took (no_colon c.args.self.now c.skip.new.self n.letters n.next c.requires.plain c.skip.ensures.took) c.if-not-next_is.ensures
    c.subscript.new.self c.make-2.new.self c.in_ok-subscript.subscript c.make-2.result (c.in_ok-subscript.ensures.reads (a statement) _) c.make-2.ensures
