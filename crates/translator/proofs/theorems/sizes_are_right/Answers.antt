use Rattle.std.proofs.Common.{arith}
use Rattle.translator.proofs.Behind.{behind}
use Rattle.translator.specs.Generator.{size}
use Rattle.translator.proofs.theorems.sizes_are_right.Goals as goal

pub returns : goal.returns
returns c names label_at table_at halt_at h a s r = behind names label_at table_at halt_at s h a (size names s) 0 r (omega arith)
