use Rattle.std.proofs.Common.{map, length, sym, ap, ◌∙◌, arith}
use Rattle.machine.specs.Runs.{filled}
use Rattle.machine.proofs.Arrays.{fill_more, fill_all, map_replicate}
use Rattle.machine.proofs.prepare.fill_with_zero.Goals as goal

pub loop-cell-preserved : goal.loop-cell-preserved
loop-cell-preserved g c =
    let same = c.loop-cell.auto.cells in
    fill_more c.loop-cell.cell-index c.zero-nought.result c.args.cells.now c.loop-cell.cells (omega arith) c.loop-cell.invariant

pub returns : goal.returns
returns g c =
    let means = g.F.Figures.means in
    let cells = c.args.cells.now in
    let x = c.zero-nought.result in
    let same = c.loop-cell.auto.cells in
    let all = fill_all c.loop-cell.cell-index (length cells) x cells c.loop-cell.cells (omega arith) (omega arith) c.loop-cell.invariant in
    ap (map means) all ∙ map_replicate means (length cells) x ∙ sym (ap (filled (length cells) (map means cells)) c.zero-nought.ensures)
