use Rattle.analysis.proofs.tables.Tables.+elements_misuse.Given as goal

abbrev pub decreases-elements_misuse : goal.decreases-elements_misuse
decreases-elements_misuse l = l.i
