use Rattle.std.proofs.Common.{map, sym, ap, ◌∙◌}
use Rattle.machine.specs.Machine.{gives, handed}
use Rattle.machine.specs.Views.{valued}
use Rattle.machine.proofs.Values.{handed_value, rest_value, taken_goes}
use Rattle.machine.proofs.transfer.take_into.Goals as goal

pub returns : goal.returns
returns g c =
    let means = g.R.Figure.Figures.means in
    let cells = map means c.args.cells.now in
    let before = g.R.Roll.holds c.args.roll.now in
    let figure = c.in_ok-figure.figure in
    let over = handed_value means before figure (ap handed c.in_ok-figure.ensures.answer) in
    let left = rest_value means before (g.R.Roll.holds c.take.new.self) c.take.ensures.left in
    record {
      work =
          ap (λ roll. gives (map means c.put.new.figures, roll)) left
          ∙ sym (taken_goes g.R.Figure.Figures.kind c.args.is_rounded c.args.operand (means c.args.subscript) cells (valued means before) c.in_ok-cell.cell (means figure) (means c.rounded_if.result) (map means c.put.new.figures) c.in_ok-cell.ensures.cell over c.rounded_if.ensures c.put.ensures.stored);
      kept = tt;
    }
