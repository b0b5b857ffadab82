use Rattle.parser.proofs.Labels.{LabelsMaking}
use Rattle.parser.proofs.table.Parser.label.Given as goal

abbrev pub invariant-loop-label : goal.invariant-loop-label
invariant-loop-label l = LabelsMaking l.first l.labels l.statement l.initial.self l.self l.label l.all
