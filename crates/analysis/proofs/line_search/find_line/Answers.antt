use Rattle.std.proofs.Common.{rules, tests, ◌∙◌}
use Rattle.std.specs.Str.{bytes_eq}
use Rattle.std.proofs.lemmas.Iterator.Search.{position_from_yields_List}
use Rattle.std.proofs.lemmas.Iterator.Adapters.{position_from-zero}
use Rattle.std.proofs.lemmas.Iterator.{YieldsList-from_slice}
use Rattle.analysis.specs.declared.symbol.NameRecord.{NameRecord}
use Rattle.analysis.specs.LineSearch.{line_letters}
use Rattle.analysis.proofs.Searching.{first_line}
use Rattle.analysis.proofs.line_search.find_line.Goals as goal

pub returns : goal.returns
returns c =
    let here = λ (w : NameRecord). bytes_eq c.args.sought.now (line_letters c.args.text.now c.args.records.now w) in
    position_from_yields_List here _ _ c.position.result c.position.ensures.ran (YieldsList-from_slice c.args.names.now (cc)) (λ x b q k. search (rules, tests))
    ∙ (position_from-zero here c.args.names.now ∙ first_line (line_letters c.args.text.now c.args.records.now) c.args.sought.now c.args.names.now 0)
