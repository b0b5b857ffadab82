use Rattle.std.proofs.Common.{Some, None, Ok, arith, rules}
use Rattle.std.proofs.lemmas.Str.Pattern.{strip_prefix_char}
use Rattle.figures.proofs.Words.{Negated, reads_negated, reads_plain}
use Rattle.figures.proofs.word.money.Goals as goal

pub returns-in_err-amount-in-Some : goal.returns-in_err-amount-in-Some
returns-in_err-amount-in-Some c =
    let at = strip_prefix_char 45 c.args.word.now (Some c.in-Some.size) c.in-Some.ensures.cases (omega arith) in
    let answer : Negated c.args.word.now c.amount.result = reads_negated c.args.word.now c.in-Some.size.now at c.amount.result c.amount.ensures in
    search rules

pub returns-in_ok-amount-in-Some : goal.returns-in_ok-amount-in-Some
returns-in_ok-amount-in-Some c =
    let at = strip_prefix_char 45 c.args.word.now (Some c.in-Some.size) c.in-Some.ensures.cases (omega arith) in
    let answer : Negated c.args.word.now c.amount.result = reads_negated c.args.word.now c.in-Some.size.now at c.amount.result c.amount.ensures in
    let here : Negated c.args.word.now (Ok c.in_ok-amount-in-Some.field-0) = search rules in
    here

pub returns-in-None : goal.returns-in-None
returns-in-None c = reads_plain c.args.word.now (strip_prefix_char 45 c.args.word.now None c.in-None.ensures.cases (omega arith)) c.amount-in-None.result c.amount-in-None.ensures
