use Rattle.std.proofs.Common.{◌≡◌, Err, ◌∙◌, rules}
use Rattle.reports.proofs.SettingLines.{no_line, a_line}
use Rattle.reports.proofs.symbol_table.SymbolTable.cell_of_name.Goals as goal

pub returns-in_err-line : goal.returns-in_err-line
returns-in_err-line c =
    let a = c.args in
    let q : c.from_residual.result ≡ Err c.in_err-line.field-0.0 = search rules in
    q ∙ no_line a.self.source.text.now a.self.source.records.now a.self.lines.now a.name.now a.subscript c.line_of.result _ c.line_of.ensures c.in_err-line.ensures.value

pub returns : goal.returns
returns c =
    let a = c.args in
    c.cell_of_line.ensures ∙ a_line a.self.source.text.now a.self.source.records.now a.self.lines.now a.name.now a.subscript c.line_of.result c.in_ok-line.line c.line_of.ensures c.in_ok-line.ensures.value
