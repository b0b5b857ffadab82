use Rattle.analysis.proofs.tables.Tables.+jump_offence_seeing.Given as goal

abbrev pub decreases-jump_offence_seeing : goal.decreases-jump_offence_seeing
decreases-jump_offence_seeing l = l.i
