use Rattle.std.proofs.Common.{◌≡◌, ◌/◌, ◌%◌, ◌+◌, ◌∷◌, [], arith, rules}
use Rattle.std.specs.Fmt.{sign_text, styled_decimal}
use Rattle.std.specs.Int.{is_negative}
use Rattle.std.specs.Prelude.{unsigned_abs}
use Rattle.std.proofs.Output.{has_written_of_eq}
use Rattle.figures.specs.Hundredths.{hundredths_value}
use Rattle.figures.proofs.Printed.{two_digits}
use Rattle.figures.proofs.hundredths.HundredthsDisplay.fmt.Goals.{then-value-lt0, else-value-lt0}
use Rattle.figures.proofs.hundredths.HundredthsDisplay.fmt.Goals as goal

pub returns-clause-writes : goal.returns-clause-writes
returns-clause-writes g c p ok =
    let n = c.unsigned_abs-size.result in
    let value = hundredths_value c.args.self.now in
    let sign : c.if-value-lt0.minus.now ≡ sign_text (is_negative value) = elim c.if-value-lt0.branch [ then-value-lt0 w ↦ search rules | else-value-lt0 w ↦ search rules ] in
    let size : n ≡ unsigned_abs value = search rules in
    let part : styled_decimal c.laid_out.result (n % 100) ≡ (48 + n % 100 / 10) ∷ (48 + n % 100 % 10) ∷ [] = rw (c.laid_out.ensures, two_digits (n % 100) (omega arith)) in
    let last : n % 100 % 10 ≡ n % 10 = omega arith in
    has_written_of_eq _ _ _ _ _ (rw (sign, part, last, size)) (c.write.ensures.writes p ok)
