use Rattle.symbols.proofs.Cells.{cells_in_order}
use Rattle.symbols.proofs.Table.{every_line, lines_differ}
use Rattle.symbols.proofs.laws.table_law_holds.Goals as goal

pub returns : goal.returns
returns c = record { line = every_line; lines_differ = lines_differ; cells = cells_in_order }
