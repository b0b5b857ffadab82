use Rattle.analysis.proofs.fors.+count_fors.Given as goal

abbrev pub decreases-count_fors : goal.decreases-count_fors
decreases-count_fors l = l.i
