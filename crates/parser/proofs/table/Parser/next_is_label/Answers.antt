use Rattle.std.proofs.Common.{sym, ◌∙◌, add-one}
use Rattle.parser.specs.Records.{all}
use Rattle.parser.proofs.Naming.{name_comes}
use Rattle.parser.proofs.Labelling.{label_there}
use Rattle.parser.proofs.table.Parser.next_is_label.Goals as goal

pub returns-then-is_some : goal.returns-then-is_some
returns-then-is_some c =
    let r = c.args.self.now in
    let n = name_comes r c.next_name.result (sym c.is_some.ensures ∙ c.if-is_some.true) c.next_name.ensures in
    label_there (all r) r.at n.0 c.second_is_mark.result n.1 (rw (add-one r.at) at c.second_is_mark.ensures)
