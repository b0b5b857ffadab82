use Rattle.words.specs.declared.token.Keyword.TheVariants.{Comment}
use Rattle.std.proofs.Common.{ℕ}
use Rattle.grammar.specs.Classes.{the_keyword}
use Rattle.parser.proofs.Tables.{word_left}
use Rattle.parser.proofs.Items.{comment_read}
use Rattle.parser.proofs.table.Parser.comment.Goals as goal

pub skip-requires : goal.skip-requires
skip-requires c = record { left = word_left (the_keyword Comment) tt c.args.self.now c.requires.begins }

pub returns : goal.returns
returns c =
    let x = λ (l : ℕ). comment_read l c.args.self.now c.skip.new.self c.make.new.self c.make.result c.requires.begins c.skip.ensures.took c.make.ensures in
    record { moves = (x 0).moves; reads = λ l. (x l).reads }
