use Rattle.std.proofs.Common.{ap, ◌∙◌}
use Rattle.symbols.specs.Types.{PartType, differs}
use Rattle.analysis.specs.PartTypes.{part_in}
use Rattle.analysis.proofs.EarlierPlace.{told_same}
use Rattle.analysis.proofs.tables.Tables.name_offence.Goals as goal

pub returns : goal.returns
returns c = λ v ss x h p n.
    told_same c.told.ensures
    (c.differs.ensures ∙ ap (λ (t : PartType). differs (part_in c.args.want) t) (c.name_type.ensures v ss x h n))
    (c.place_of.ensures ∙ p c.args.w x n)
