use Rattle.std.proofs.Common.{◌+◌, rules, ap, ◌∙◌}
use Rattle.std.specs.List.{prefix_len}
use Rattle.words.specs.Spelling.{blank}
use Rattle.words.proofs.NextWord.{next_at_end, word_to_next, refusal_to_next, part_to_end}
use Rattle.words.proofs.reader.next_word.Goals as goal

pub returns-then-is_empty-clause-is : goal.returns-then-is_empty-clause-is
returns-then-is_empty-clause-is c =
    next_at_end c.args.text.now c.args.at c.run.result (c.run.ensures.is blank (search rules) ∙ ap (prefix_len blank) (part_to_end c.args.text.now c.args.at)) (search rules)

pub returns-in-Ok-clause-is : goal.returns-in-Ok-clause-is
returns-in-Ok-clause-is c =
    let t = c.args.text.now in
    let place = c.args.at + c.run.result in
    word_to_next t c.args.at c.run.result (c.run.ensures.is blank (search rules) ∙ ap (prefix_len blank) (part_to_end t c.args.at)) (search rules)
    _ (part_to_end t place) c.in-Ok.token c.in-Ok.taken (c.in-Ok.ensures.0 place)

pub returns-in-Err-clause-is : goal.returns-in-Err-clause-is
returns-in-Err-clause-is c =
    let t = c.args.text.now in
    let place = c.args.at + c.run.result in
    refusal_to_next t c.args.at c.run.result (c.run.ensures.is blank (search rules) ∙ ap (prefix_len blank) (part_to_end t c.args.at)) (search rules)
    _ (part_to_end t place) c.in-Err.reason (c.in-Err.ensures.0 place)
