-- The type of a part, as the code has it.
use Rattle.symbols.specs.Types.{PartType, arithmetic, truth_value}
use Rattle.analysis.specs.declared.part_type.PartType.{PartType as TypeRecord}
use Rattle.analysis.specs.declared.part_type.PartType.TheVariants.{Arithmetic, TruthValue}

abbrev pub part_in : TypeRecord → PartType
part_in Arithmetic = arithmetic
part_in TruthValue = truth_value
