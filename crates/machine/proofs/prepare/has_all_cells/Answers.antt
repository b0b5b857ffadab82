use Rattle.std.proofs.Common.{eqb, length, sym, ap, ◌∙◌}
use Rattle.std.proofs.lemmas.List.{length-map}
use Rattle.code.specs.CheckedCode.{code_in}
use Rattle.machine.proofs.prepare.has_all_cells.Goals as goal

pub returns : goal.returns
returns g c =
    let cells = c.args.cells.now in
    let stated = ap (λ s. eqb (length cells) s.cells) c.sizes.ensures in
    record {
      figures = stated;
      values = stated ∙ ap (λ n. eqb n (code_in c.args.code.now).sizes.cells) (sym (length-map cells g.F.Figures.means));
    }
