use Rattle.analysis.proofs.tables.Tables.+type_offence.Given as goal

abbrev pub decreases-type_offence : goal.decreases-type_offence
decreases-type_offence l = l.i
