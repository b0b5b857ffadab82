use Rattle.std.proofs.Common.{ℕ, List, ap, ◌∙◌}
use Rattle.std.specs.Str.{bytes_eq}
use Rattle.std.proofs.lemmas.Slice.Eq.{slice_eq-Decides, bytes_eq-Decides}
use Rattle.std.proofs.lemmas.Bool.Decides.{same_from_decides, Decides-eqb}
use Rattle.analysis.proofs.line_search.line_has_letters.Goals as goal

pub returns : goal.returns
returns c =
    same_from_decides c.eq.result (bytes_eq c.args.sought.now c.letters_of.result.now)
    (slice_eq-Decides Decides-eqb c.args.sought.now c.letters_of.result.now c.eq.result c.eq.ensures) (bytes_eq-Decides c.args.sought.now c.letters_of.result.now)
    ∙ ap (λ (l : List ℕ). bytes_eq c.args.sought.now l) c.letters_of.ensures
