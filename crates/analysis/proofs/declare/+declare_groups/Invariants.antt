use Rattle.analysis.proofs.declare.+declare_groups.Given as goal

abbrev pub decreases-declare_groups : goal.decreases-declare_groups
decreases-declare_groups g l = l.i
