use Rattle.analysis.proofs.tables.Tables.+exp_misuse.Given as goal

abbrev pub decreases-exp_misuse : goal.decreases-exp_misuse
decreases-exp_misuse l = l.i
