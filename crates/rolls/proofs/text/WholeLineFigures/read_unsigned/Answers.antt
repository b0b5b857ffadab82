use Rattle.std.proofs.Common.{◌∷◌, inl, inr, ap, ◌∙◌}
use Rattle.std.proofs.lemmas.List.{nil_from_length}
use Rattle.rolls.proofs.Magnitudes.{empty_row, large_row, only_digits, other_byte}
use Rattle.rolls.proofs.text.WholeLineFigures.read_unsigned.Goals as goal

pub returns-in_err-end-clause-line : goal.returns-in_err-end-clause-line
returns-in_err-end-clause-line c =
    rw c.from_residual.ensures
    (only_digits c.args.bytes.now _ _ c.read_digits-value.ensures (nil_from_length _ c.in_err-end.ensures.cases))

pub returns-then-end-ne10-clause-line : goal.returns-then-end-ne10-clause-line
returns-then-end-ne10-clause-line c =
    let bytes = c.args.bytes.now in
    let digits = c.read_digits-value.ensures in
    let rest = c.in_ok-end.rest.now in
    let parts = c.in_ok-end.ensures.cases.0 in
    elim c.then-end-ne10.either [
      | inl other ↦ other_byte bytes _ _ digits c.in_ok-end.end.now rest parts other
      | inr later ↦ elim later [
        | inl empty ↦ empty_row bytes _ _ digits rest (parts ∙ ap (λ b. b ∷ rest) empty.0) empty.1
        | inr large ↦ large_row bytes _ _ digits rest (parts ∙ ap (λ b. b ∷ rest) large.0) large.2
      ]
    ]
