use Rattle.analysis.proofs.LabelSets.{none_there}
use Rattle.analysis.proofs.labels.Labels.new.Goals as goal

pub returns : goal.returns
returns c = λ k. none_there 256 k
