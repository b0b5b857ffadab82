use Rattle.analysis.proofs.labels.Labels.+insert_open.Given as goal

abbrev pub decreases-insert_open : goal.decreases-insert_open
decreases-insert_open l = l.i
