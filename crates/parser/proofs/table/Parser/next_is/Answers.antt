use Rattle.parser.specs.Records.{ahead}
use Rattle.parser.proofs.Taking.{comes_when}
use Rattle.parser.proofs.table.Parser.next_is.Goals as goal

pub returns : goal.returns
returns g c = rw c.is_some.ensures (comes_when (g.C.WordClass.class c.args.class) (g.C.WordClass.content c.args.class) (ahead c.args.self.now) c.next.result c.next.ensures)
