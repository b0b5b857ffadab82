use Rattle.std.proofs.Common.{rules, ◌≡◌, ◌∙◌}
use Rattle.std.specs.Option.{option_map_or}
use Rattle.symbols.specs.declared.value_type.ValueType.TheVariants.{Untyped}
use Rattle.analysis.proofs.NameLines.{line_type}
use Rattle.analysis.proofs.tables.Tables.type_of.Goals as goal

pub returns : goal.returns
returns c = λ v ss x h n.
    let read : c.map_or.result ≡ option_map_or (λ l. l.value_type) c.line_of.result Untyped = search rules in
    read ∙ line_type c.line_of.result (c.line_of.ensures v ss x h n)
