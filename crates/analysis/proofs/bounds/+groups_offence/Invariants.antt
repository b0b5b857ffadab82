use Rattle.analysis.proofs.bounds.+groups_offence.Given as goal

abbrev pub decreases-groups_offence : goal.decreases-groups_offence
decreases-groups_offence l = l.i
