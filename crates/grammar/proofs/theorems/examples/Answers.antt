use Rattle.std.proofs.Common.{refl}
use Rattle.grammar.proofs.theorems.examples.Goals as goal

pub returns : goal.returns
returns c = record { ranks = refl; repetition = refl; early_end = refl; impossible_word = refl; too_deep = refl; closed_levels = refl }
