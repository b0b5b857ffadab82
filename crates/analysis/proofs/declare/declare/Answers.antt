use Rattle.std.proofs.Common.{◌≡◌, List, Some, sym, ap, ◌∙◌}
use Rattle.symbols.specs.Occurrences.{Occurrence}
use Rattle.analysis.specs.Heeding.{TableAt}
use Rattle.analysis.proofs.EarlierPlace.{told_same}
use Rattle.analysis.proofs.OneDeclared.{heeds, no_room}
use Rattle.analysis.proofs.declare.declare.Goals as goal

pub returns-then-k-names : goal.returns-then-k-names
returns-then-k-names g c = λ v ns whole x role numbered at_role named.
    let number = numbered.lines c.args.w x named ∙ ap Some (sym c.number_of-k.ensures) in
    let place : c.place_of.result ≡ x.place = c.place_of.ensures ∙ numbered.places c.args.w x named in
    heeds numbered x number g.P.Pass.kind c.args.names.now at_role _ c.heed.new.line c.heed.ensures.line c.told.result (told_same c.told.ensures c.heed.ensures.told place)

pub returns-else-k-names : goal.returns-else-k-names
returns-else-k-names g c = λ v ns whole x role numbered at_role named.
    let number = numbered.lines c.args.w x named ∙ ap Some (sym c.number_of-k.ensures) in
    let none = λ (before : List Occurrence) (t : TableAt _ v ns whole before c.args.names.now). no_room _ v ns whole before c.args.names.now x.letters c.number_of-k.result number t c.if-k-names.false in
    record { table = λ before t. absurd (none before t); told = λ before t. absurd (none before t) }
