use Rattle.std.proofs.Common.{Option, sym, ◌∙◌, subst, arith}
use Rattle.analysis.specs.declared.symbol.NameRecord.{NameRecord}
use Rattle.analysis.specs.NameLines.{LineFound}
use Rattle.analysis.specs.Numbering.{new_line}
use Rattle.analysis.proofs.NameLines.{copied_some, line_held, line_within}
use Rattle.analysis.proofs.tables.Tables.line_of.Goals as goal

pub returns : goal.returns
returns c = λ v ss x h n.
    let rs = c.args.self.now.records.now in
    let ns = c.args.self.now.names.now in
    let k = c.number_of.result in
    let (is, held, there, cases, value) = c.get.ensures.lookup in
    let within = line_within v rs ns ss c.args.w x h n k c.number_of.ensures in
    let d = new_line 0 in
    let P : Option NameRecord → Type 0 = λ o. LineFound v ss x.letters o in
    subst P (sym (c.copied.ensures ∙ copied_some c.get.result d _ (there within) (value (omega arith) d))) (line_held v rs ns ss c.args.w x h n k c.number_of.ensures d)
