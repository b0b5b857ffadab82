use Rattle.std.proofs.Common.{arith}
use Rattle.grammar.proofs.Names.{few}
use Rattle.grammar.proofs.theorems.names_are_few.Goals as goal

pub returns : goal.returns
returns c = λ l ws t x. omega (arith, few x)
