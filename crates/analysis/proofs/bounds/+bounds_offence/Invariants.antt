use Rattle.analysis.proofs.bounds.+bounds_offence.Given as goal

abbrev pub decreases-bounds_offence : goal.decreases-bounds_offence
decreases-bounds_offence l = l.i
