use Rattle.std.proofs.Common.{length, sym, ◌∙◌, arith}
use Rattle.std.proofs.lemmas.Bool.{eqb-true, ltb-true}
use Rattle.code.specs.CheckedCode.{code_in}
use Rattle.code.proofs.Targets.{passed_to_well_formed}
use Rattle.machine.proofs.prepare.named_cell.Goals as goal

-- The named cells are the first of all cells.
pub returns-clause-inside : goal.returns-clause-inside
returns-clause-inside g c =
    let code = code_in c.args.code.now in
    let few = (passed_to_well_formed code c.args.code.now.passes).few_named in
    let all = eqb-true (length c.args.cells.now) code.sizes.cells (sym c.has_all_cells.ensures.figures ∙ c.if-not-has_all_cells.false) in
    let named = ltb-true c.args.cell code.sizes.named (sym c.is_named.ensures ∙ c.if-not-is_named.false) in
    omega arith
