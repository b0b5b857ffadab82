use Rattle.analysis.proofs.declare.+declare_row.Given as goal

abbrev pub decreases-declare_row : goal.decreases-declare_row
decreases-declare_row g l = l.i
