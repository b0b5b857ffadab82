use Rattle.std.proofs.Common.{◌≡◌, Ok, ap, ◌∙◌, rules}
use Rattle.figures.specs.Amounts.{ReadsMoney}
use Rattle.figures.specs.Hundredths.{hundredths_value}
use Rattle.figures.specs.Range.{in_range}
use Rattle.figures.proofs.Stored.{held}
use Rattle.figures.proofs.Words.{Found, reads_figure}
use Rattle.figures.proofs.hundredths.HundredthsFromStr.from_str.Goals as goal

pub returns-in_err-try_from : goal.returns-in_err-try_from
returns-in_err-try_from c =
    let z = c.in_ok-money.field-0 in
    let read : ReadsMoney c.args.word.now (Ok z) = search rules in
    let same : held z ≡ z = search rules in
    let answer : Found hundredths_value c.args.word.now c.try_from.result = reads_figure hundredths_value c.args.word.now z read c.try_from.result (c.try_from.ensures ∙ ap in_range same) in
    search rules

pub returns : goal.returns
returns c =
    let z = c.in_ok-money.field-0 in
    let read : ReadsMoney c.args.word.now (Ok z) = search rules in
    let same : held z ≡ z = search rules in
    let answer : Found hundredths_value c.args.word.now c.try_from.result = reads_figure hundredths_value c.args.word.now z read c.try_from.result (c.try_from.ensures ∙ ap in_range same) in
    search rules
