use Rattle.std.proofs.Common.{ℕ, List, ap, ◌∙◌}
use Rattle.std.specs.Str.{bytes_eq}
use Rattle.std.proofs.lemmas.Slice.Eq.{slice_eq-Decides, bytes_eq-Decides}
use Rattle.std.proofs.lemmas.Bool.Decides.{same_from_decides, Decides-eqb}
use Rattle.analysis.proofs.search.has_letters.Goals as goal

pub returns : goal.returns
returns c =
    same_from_decides c.eq.result (bytes_eq c.letters.result.now c.args.sought.now)
    (slice_eq-Decides Decides-eqb c.letters.result.now c.args.sought.now c.eq.result c.eq.ensures) (bytes_eq-Decides c.letters.result.now c.args.sought.now)
    ∙ ap (λ (l : List ℕ). bytes_eq l c.args.sought.now) c.letters.ensures
