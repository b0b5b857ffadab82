use Rattle.symbols.proofs.Cells.{enough_cells}
use Rattle.symbols.proofs.laws.cells_are_enough.Goals as goal

pub returns : goal.returns
returns c = enough_cells
