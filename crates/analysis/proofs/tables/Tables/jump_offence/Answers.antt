use Rattle.std.proofs.Common.{ℕ, List, [], subst, append-nil}
use Rattle.symbols.specs.Jumps.{outer_labels}
use Rattle.analysis.specs.LabelSets.{Sees}
use Rattle.analysis.proofs.tables.Tables.jump_offence.Goals as goal

pub returns : goal.returns
returns c = λ v ss t h p small k.
    let P : List (List ℕ) → Type 0 = λ l. Sees ss c.insert_open.new.self.lines l in
    c.jump_offence_seeing.ensures v ss (outer_labels t) t h p small
    (subst P (append-nil (outer_labels t))
    (c.insert_open.ensures v c.args.self.now.names.now ss [] t h small (λ x j n. c.new-outer.ensures j) k))
    k
