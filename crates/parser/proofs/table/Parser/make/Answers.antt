use Rattle.std.proofs.Common.{List, map, take, refl, ap, length-set}
use Rattle.words.specs.declared.word.Word.{Word}
use Rattle.words.specs.declared.token.Token.TheVariants.{Name}
use Rattle.words.specs.Records.{word_in}
use Rattle.parser.specs.declared.node.Node.TheVariants.{Empty}
use Rattle.parser.proofs.Tables.{words_set, nodes_set}
use Rattle.parser.proofs.table.Parser.make.Goals as goal

pub returns : goal.returns
returns c =
    let p = c.args.self.now in
    record {
      same = record {
        text = refl;
        words = ap (λ (l : List Word). map (word_in p.text.now) (take p.count l)) (words_set p.table.now p.made (record { word = record { token = Name 0; place = 0 }; symbol = 0; node = Empty }) c.args.node);
        count = refl;
        lent = refl;
        size = simp length-set;
      };
      nodes = nodes_set p.table.now p.made _ _ c.args.node;
      made = refl;
      at = refl;
      place = refl;
    }
