use Rattle.std.proofs.Common.{not, ◌&&◌, length, ◌==◌, ap, ◌∙◌}
use Rattle.std.specs.Bool.{then_some}
use Rattle.rolls.proofs.AmountLines.{number_read}
use Rattle.rolls.proofs.amounts.read_number.Goals as goal
use Rattle.rolls.proofs.amounts.read_number.Goals.{then-is_empty, else-is_empty}

pub returns : goal.returns
returns c =
    let ds = c.args.ds.now in
    let value = c.read_digits-value.result.0 in
    let read = number_read ds _ _ c.read_digits-value.ensures in
    elim c.if-is_empty.branch [
      | then-is_empty w ↦
          c.then_some.ensures
          ∙ ap (λ t. then_some t value) (w.then_some-is ∙ ap not w.is_empty-then-is_empty.ensures ∙ ap (λ t. t && not (length ds == 0)) w.if-is_empty.ensures)
          ∙ read
      | else-is_empty w ↦
          c.then_some.ensures
          ∙ ap (λ t. then_some t value) (w.then_some-is ∙ w.if-is_empty.false ∙ ap (λ t. t && not (length ds == 0)) w.if-is_empty.ensures)
          ∙ read
    ]
