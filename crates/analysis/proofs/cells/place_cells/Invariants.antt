use Rattle.std.proofs.Common.{◌*◌, ◌≤◌}
use Rattle.analysis.proofs.PlacedCells.{PlacedTo}
use Rattle.analysis.proofs.cells.place_cells.Given as goal

abbrev pub invariant-loop-line : goal.invariant-loop-line
invariant-loop-line l = PlacedTo l.records l.initial.names l.names l.line-index l.c l.offence × (l.c ≤ 8589934592 * l.line-index)
