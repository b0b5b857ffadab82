use Rattle.std.proofs.Common.{length}
use Rattle.ial.proofs.run_arguments.parse.Given as goal

abbrev pub decreases-words : goal.decreases-words
decreases-words l = length l.words
