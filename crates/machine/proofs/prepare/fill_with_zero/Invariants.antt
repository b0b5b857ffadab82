use Rattle.std.proofs.Common.{◌≡◌, ◌++◌, drop, replicate}
use Rattle.machine.proofs.prepare.fill_with_zero.Given as goal

-- The cells up to here hold the figure, the others are as they were.
abbrev pub invariant-loop-cell : goal.invariant-loop-cell
invariant-loop-cell g l = l.cells ≡ replicate l.cell-index l.nought ++ drop l.cell-index l.initial.cells
