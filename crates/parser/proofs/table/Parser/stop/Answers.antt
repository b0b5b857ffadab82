use Rattle.std.proofs.Common.{ℕ}
use Rattle.words.specs.declared.token.Keyword.TheVariants.{Stop}
use Rattle.grammar.specs.Classes.{the_keyword}
use Rattle.parser.proofs.Tables.{word_left}
use Rattle.parser.proofs.Statements.{stop_read}
use Rattle.parser.proofs.table.Parser.stop.Goals as goal

pub skip-requires : goal.skip-requires
skip-requires c = record { left = word_left (the_keyword Stop) tt c.args.self.now c.requires.begins }

pub returns : goal.returns
returns c =
    let x = λ (l : ℕ). stop_read {L = l} c.make.new.self c.place-place.result c.make.result c.requires.begins c.skip.ensures.took c.place-place.ensures c.make.ensures in
    record { moves = (x 0).moves; reads = λ l. (x l).reads }
