use Rattle.analysis.proofs.tables.Tables.+labels_misuse.Given as goal

abbrev pub decreases-labels_misuse : goal.decreases-labels_misuse
decreases-labels_misuse l = l.i
