use Rattle.std.proofs.Common.{◌-◌, ◌∷◌, drop, get_or, sym, ap, ◌∙◌, arith}
use Rattle.machine.proofs.Arrays.{operands_top, top_at}
use Rattle.machine.proofs.operands.OperandStack.top.Goals as goal

pub returns : goal.returns
returns g c =
    let means = g.F.Figures.means in
    let s = c.args.self.now in
    let tall = s.tall in
    let e = top_at means s.figures.now s.depth c.requires (operands_top means s.figures.now (s.depth - 1) c.index-self-self.result (omega arith)) in
    e ∙ ap (λ vs. means (get_or s.figures.now (s.depth - 1) c.index-self-self.result) ∷ vs) (sym (ap (drop 1) e))
