use Rattle.grammar.specs.Classes.{a_name}
use Rattle.parser.proofs.Tables.{word_left}
use Rattle.parser.proofs.Naming.{name_taken}
use Rattle.parser.proofs.table.Parser.expect_name.Goals as goal

pub skip-requires : goal.skip-requires
skip-requires c =
    let n = name_taken c.args.self.now c.in-Some.w c.in-Some.ensures in
    record { left = word_left a_name n.letters c.args.self.now n.next }
