use Rattle.std.proofs.Common.{drop}
use Rattle.words.specs.Records.{word_in}
use Rattle.parser.specs.Records.{all}
use Rattle.parser.proofs.Taking.{comes_some}
use Rattle.parser.proofs.table.Parser.word_of.Goals as goal

pub returns : goal.returns
returns g c =
    let p = c.args.self.now in
    comes_some (g.C.WordClass.class c.args.class) (g.C.WordClass.content c.args.class) (word_in p.text.now c.in_ok-w.w) (drop c.args.i (all p)) c.find.result c.in_ok-w.ensures (c.find.ensures (drop c.in_ok-w.w.place p.text.now))
