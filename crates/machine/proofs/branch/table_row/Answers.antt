use Rattle.std.proofs.Common.{get_or, sym, ap, ◌∙◌, w32, SFits, rules}
use Rattle.std.proofs.lemmas.Option.{slice_get-get_or}
use Rattle.std.proofs.lemmas.Int.{to_z-of_z}
use Rattle.machine.specs.Machine.{◌>>=◌, gives, row, rows_at}
use Rattle.machine.proofs.branch.table_row.Goals as goal

pub returns : goal.returns
returns g c =
    let number = c.nearest.result in
    let fits : SFits w32 number = search rules in
    let table = c.args.table in
    let numbers = c.args.numbers.now in
    let on = c.args.on in
    let k = get_or numbers table 0 in
    let named = c.row.ensures ∙ ap (row table k on) (to_z-of_z w32 number fits) ∙ ap (row table k on) c.nearest.ensures.value in
    ap (λ o. rows_at o >>= λ k. gives (row table k on (g.F.Figures.kind.nearest (g.F.Figures.means c.args.figure)))) (slice_get-get_or numbers table 0 c.requires.there)
    ∙ ap gives (sym named)
