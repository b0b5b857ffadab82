use Rattle.analysis.proofs.tables.Tables.+misuse_offence.Given as goal

abbrev pub decreases-misuse_offence : goal.decreases-misuse_offence
decreases-misuse_offence l = l.i
