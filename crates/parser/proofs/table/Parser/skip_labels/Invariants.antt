use Rattle.std.proofs.Common.{◌-◌}
use Rattle.parser.specs.Labels.{LabelsPassed}
use Rattle.parser.proofs.table.Parser.skip_labels.Given as goal

abbrev pub invariant-loop-self : goal.invariant-loop-self
invariant-loop-self l = LabelsPassed l.initial.self l.self l.labels

abbrev pub decreases-loop-self : goal.decreases-loop-self
decreases-loop-self l = l.self.count - l.self.at
