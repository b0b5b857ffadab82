use Rattle.analysis.proofs.tables.Tables.+exp_offence.Given as goal

abbrev pub decreases-exp_offence : goal.decreases-exp_offence
decreases-exp_offence l = l.i
