use Rattle.machine.proofs.Arrays.{operands_push}
use Rattle.machine.proofs.operands.OperandStack.push.Goals as goal

pub returns-clause-laid : goal.returns-clause-laid
returns-clause-laid g c = operands_push g.F.Figures.means c.args.self.now.figures.now c.args.self.now.depth c.args.figure c.requires
