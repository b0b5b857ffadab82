use Rattle.std.proofs.Common.{arith}
use Rattle.grammar.proofs.Complete.{sentence_read}
use Rattle.grammar.proofs.theorems.reading_is_complete.Goals as goal

pub returns : goal.returns
returns c = λ limit end ws t x. sentence_read limit end limit ws t (omega arith) x
