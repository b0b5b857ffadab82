use Rattle.machine.proofs.Arrays.{nth_value}
use Rattle.machine.proofs.operands.load.Goals as goal

pub returns : goal.returns
returns g c = nth_value g.F.Figures.means c.args.cells.now c.args.cell c.index-cells-cell.result c.requires c.index-cells-cell.is
