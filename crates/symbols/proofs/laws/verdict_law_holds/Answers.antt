use Rattle.symbols.proofs.Offences.{accepted_to_keeps_all, refused_to_first_broken}
use Rattle.symbols.proofs.laws.verdict_law_holds.Goals as goal

pub returns : goal.returns
returns c = record { accepts = accepted_to_keeps_all; refuses = refused_to_first_broken }
