use Rattle.std.proofs.Common.{ap, ◌∙◌}
use Rattle.parser.specs.declared.table.Record.{Record}
use Rattle.analysis.specs.Letters.{letters_in}
use Rattle.analysis.proofs.Nodes.{letters_within, letters_past}
use Rattle.analysis.proofs.letters.letters_of.Goals as goal

pub returns-in-Some : goal.returns-in-Some
returns-in-Some c =
    let (is, held, there, cases, value) = c.in-Some.ensures.lookup in
    c.letters.ensures ∙ (ap (λ (r : Record). letters_in c.args.text.now r.word) held ∙ letters_within c.args.text.now c.args.records.now c.args.w c.in-Some.record.now cases.0)

pub returns-in-None : goal.returns-in-None
returns-in-None c =
    let (is, held, there, cases, value) = c.in-None.ensures.lookup in
    letters_past c.args.text.now c.args.records.now c.args.w cases
