use Rattle.std.proofs.Common.{drop, sym, ap, ◌∙◌}
use Rattle.words.specs.Spelling.{two_byte_marks}
use Rattle.words.specs.Words.{first_of}
use Rattle.words.proofs.OneWord.{two_bytes}
use Rattle.words.proofs.reader.longer_mark.Goals as goal

pub returns-in-len2-up-clause-is : goal.returns-in-len2-up-clause-is
returns-in-len2-up-clause-is c = λ o. c.two_byte_mark.ensures.is (drop 2 c.args.bytes.now) o ∙ sym (ap (λ z. first_of two_byte_marks z o) (two_bytes c.args.bytes.now c.in-len2-up.len_at_least))
