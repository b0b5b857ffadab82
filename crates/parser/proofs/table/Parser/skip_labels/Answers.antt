use Rattle.std.proofs.Common.{sym}
use Rattle.words.specs.declared.token.Mark.TheVariants.{Colon}
use Rattle.grammar.specs.Classes.{the_mark, a_name}
use Rattle.parser.proofs.Tables.{word_left}
use Rattle.parser.proofs.Labelling.{label_name, label_colon, labels_none, labels_more}
use Rattle.parser.proofs.table.Parser.skip_labels.Goals as goal

pub loop-self-init : goal.loop-self-init
loop-self-init c = labels_none c.args.self.now

pub skip-requires : goal.skip-requires
skip-requires c =
    let x = label_name c.loop-self.self (sym c.loop-self-test.ensures) in
    record { left = word_left a_name x.0 c.loop-self.self x.1 }

pub skip-requires-in-loop-self : goal.skip-requires-in-loop-self
skip-requires-in-loop-self c =
    record { left = word_left (the_mark Colon) tt c.skip.new.self (label_colon c.loop-self.self c.skip.new.self (sym c.loop-self-test.ensures) c.skip.ensures.took) }

pub loop-self-preserved : goal.loop-self-preserved
loop-self-preserved c =
    labels_more c.args.self.now c.loop-self.self c.skip.new.self c.skip-in-loop-self.new.self c.loop-self.labels c.loop-self.invariant (sym c.loop-self-test.ensures) c.skip.ensures.took c.skip-in-loop-self.ensures.took
