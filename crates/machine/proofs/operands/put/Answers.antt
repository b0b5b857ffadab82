use Rattle.std.proofs.Common.{map, sym, ap, ◌∙◌}
use Rattle.std.proofs.lemmas.List.{length-map}
use Rattle.machine.specs.Machine.{gives}
use Rattle.machine.proofs.Arrays.{map_set, stored_inside}
use Rattle.machine.proofs.operands.put.Goals as goal

pub returns : goal.returns
returns g c =
    let means = g.F.Figures.means in
    let xs = c.args.figures.now in
    let written = map_set means xs c.args.place c.args.figure in
    record {
      set = written;
      stored = stored_inside (map means xs) c.args.place (means c.args.figure) (simp length-map c.requires) ∙ ap gives (sym written);
    }
