use Rattle.parser.proofs.Tables.{word_left}
use Rattle.parser.proofs.table.Parser.take.Goals as goal

pub skip-requires : goal.skip-requires
skip-requires g c = record { left = word_left (g.C.WordClass.class c.args.class) (g.C.WordClass.content c.args.class c.in_ok-found.found) c.args.self.now c.in_ok-found.ensures }
