use Rattle.std.proofs.Common.{ap, ◌∙◌}
use Rattle.symbols.specs.Types.{part_type}
use Rattle.analysis.proofs.tables.Tables.name_type.Goals as goal

pub returns : goal.returns
returns c = λ v ss x h n. c.from.ensures ∙ ap part_type (c.type_of.ensures v ss x h n)
