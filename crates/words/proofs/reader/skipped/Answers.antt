use Rattle.std.proofs.Common.{codes, rules, sym, ap, ◌∙◌, arith}
use Rattle.std.proofs.lemmas.Slice.Eq.{text_from_reads}
use Rattle.words.specs.Spelling.{not_semicolon}
use Rattle.words.specs.Words.{skipped}
use Rattle.words.proofs.reader.skipped.Goals as goal

pub returns-in-comment-clause-is : goal.returns-in-comment-clause-is
returns-in-comment-clause-is c =
    c.run.ensures.is not_semicolon (search rules)
    ∙ ap (λ s. skipped s c.args.after.now) (sym (text_from_reads c.args.name.now (codes "comment") (omega arith) (search rules)))
