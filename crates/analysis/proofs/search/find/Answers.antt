use Rattle.std.proofs.Common.{rules, tests, ◌∙◌}
use Rattle.std.specs.Str.{bytes_eq}
use Rattle.std.proofs.lemmas.Iterator.Search.{position_from_yields_List}
use Rattle.std.proofs.lemmas.Iterator.Adapters.{position_from-zero}
use Rattle.std.proofs.lemmas.Iterator.{YieldsList-from_slice}
use Rattle.words.specs.declared.word.Word.{Word}
use Rattle.analysis.specs.Letters.{letters_in}
use Rattle.analysis.proofs.Searching.{first_index}
use Rattle.analysis.proofs.search.find.Goals as goal

pub returns : goal.returns
returns c =
    let here = λ (w : Word). bytes_eq (letters_in c.args.text.now w) c.args.sought.now in
    position_from_yields_List here _ _ c.position.result c.position.ensures.ran (YieldsList-from_slice c.args.names.now (cc)) (λ x b q k. search (rules, tests))
    ∙ (position_from-zero here c.args.names.now ∙ first_index (letters_in c.args.text.now) c.args.sought.now c.args.names.now 0)
