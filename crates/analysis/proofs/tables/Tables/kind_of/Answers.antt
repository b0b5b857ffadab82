use Rattle.std.proofs.Common.{rules, ◌≡◌}
use Rattle.std.specs.Option.{option_map_or}
use Rattle.analysis.specs.declared.symbol.NameKind.TheVariants.{Variable}
use Rattle.analysis.proofs.NameLines.{line_kind}
use Rattle.analysis.proofs.tables.Tables.kind_of.Goals as goal

pub returns : goal.returns
returns c = λ v ss x h n.
    let read : c.map_or.result ≡ option_map_or (λ l. l.kind) c.line_of.result Variable = search rules in
    line_kind c.line_of.result c.map_or.result read (c.line_of.ensures v ss x h n)
