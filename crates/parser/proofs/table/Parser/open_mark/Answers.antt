use Rattle.grammar.specs.Classes.{the_mark}
use Rattle.parser.proofs.Tables.{word_left}
use Rattle.parser.proofs.table.Parser.open_mark.Goals as goal

pub open-requires : goal.open-requires
open-requires c = record { left = word_left (the_mark c.args.m) tt c.args.self.now c.if-not-next_is.ensures }
