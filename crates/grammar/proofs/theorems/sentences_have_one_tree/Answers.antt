use Rattle.std.proofs.Common.{◌≡◌, ◌+◌, sym, ◌∙◌, arith}
use Rattle.grammar.specs.Parser.{tree}
use Rattle.grammar.specs.Tree.{Program}
use Rattle.grammar.proofs.Complete.{sentence_read}
use Rattle.grammar.proofs.theorems.sentences_have_one_tree.Goals as goal

same_tree : {t u : Program} → tree t ≡ tree u → t ≡ u
same_tree e = cc

pub returns : goal.returns
returns c = λ l m ws t u x y. same_tree (sym (sentence_read (l + m) 0 l ws t (omega arith) x) ∙ sentence_read (l + m) 0 m ws u (omega arith) y)
