use Rattle.std.proofs.Common.{◌∙◌, rules}
use Rattle.figures.proofs.Stored.{scaled_quotient_held}
use Rattle.figures.proofs.hundredths.HundredthsFigures.divide.Goals as goal

pub returns-in_err-hundredths : goal.returns-in_err-hundredths
returns-in_err-hundredths c =
    let answer = c.divide.ensures ∙ scaled_quotient_held c.value.ensures.bound c.value-2.ensures.bound c.value.ensures.value c.value-2.ensures.value in
    search rules

pub returns : goal.returns
returns c =
    let answer = c.divide.ensures ∙ scaled_quotient_held c.value.ensures.bound c.value-2.ensures.bound c.value.ensures.value c.value-2.ensures.value in
    search rules
