use Rattle.std.proofs.Common.{sym, ap, ◌∙◌}
use Rattle.figures.specs.Kinds.{same_as}
use Rattle.machine.proofs.calculate.is_zero.Goals as goal

pub returns : goal.returns
returns g c =
    c.same.ensures ∙ sym (ap (same_as g.F.Figures.kind (g.F.Figures.means c.args.figure)) c.zero.ensures)
