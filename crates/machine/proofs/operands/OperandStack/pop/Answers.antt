use Rattle.std.proofs.Common.{◌-◌, arith}
use Rattle.machine.proofs.Arrays.{operands_top, top_at}
use Rattle.machine.proofs.operands.OperandStack.pop.Goals as goal

pub returns-clause-laid : goal.returns-clause-laid
returns-clause-laid g c =
    let s = c.args.self.now in
    let tall = s.tall in
    top_at g.F.Figures.means s.figures.now s.depth c.requires (operands_top g.F.Figures.means s.figures.now (s.depth - 1) c.index-self-self.result (omega arith))
