use Rattle.analysis.proofs.declare.+declare_all.Given as goal

abbrev pub decreases-declare_all : goal.decreases-declare_all
decreases-declare_all g l = l.i
