use Rattle.analysis.proofs.tables.Tables.+elements_offence.Given as goal

abbrev pub decreases-elements_offence : goal.decreases-elements_offence
decreases-elements_offence l = l.i
