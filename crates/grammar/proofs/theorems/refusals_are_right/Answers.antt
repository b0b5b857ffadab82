use Rattle.std.proofs.Common.{refl}
use Rattle.grammar.specs.declared.refusal.SentenceRefusal.TheVariants.{Unexpected, TooDeep}
use Rattle.grammar.proofs.Refusals.{five, six, early, reason_of}
use Rattle.grammar.proofs.theorems.refusals_are_right.Goals as goal

pub returns : goal.returns
returns c = record {
  unexpected = λ limit end ws p e. five refl (reason_of limit end ws Unexpected p e);
  too_deep = λ limit end ws p e. six refl (reason_of limit end ws TooDeep p e);
  early_ends = early;
}
