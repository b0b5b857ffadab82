use Rattle.std.proofs.Common.{Bool, not, ap, ◌∙◌}
use Rattle.analysis.proofs.EarlierPlace.{told_same}
use Rattle.analysis.proofs.Misuses.{suits_alike}
use Rattle.analysis.proofs.tables.Tables.name_misuse.Goals as goal

pub returns : goal.returns
returns c = λ v ss x h p n.
    told_same c.told.ensures
    (ap (λ (b : Bool). not b) (c.does_suit-suited.ensures ∙ suits_alike (c.kind_of.ensures v ss x h n) c.args.usage))
    (c.place_of.ensures ∙ p c.args.w x n)
