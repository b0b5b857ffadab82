use Rattle.symbols.proofs.Types.{program_typed, typed_program}
use Rattle.symbols.proofs.laws.types_law_holds.Goals as goal

pub returns : goal.returns
returns c = record { kept_to_typed = program_typed; typed_to_kept = typed_program }
