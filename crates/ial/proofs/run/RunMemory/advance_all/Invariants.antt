use Rattle.ial.proofs.run.RunMemory.advance_all.Given as goal

abbrev pub decreases-slices : goal.decreases-slices
decreases-slices g l = l.left
