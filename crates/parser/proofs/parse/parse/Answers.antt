use Rattle.std.proofs.Common.{◌≡◌, length, arith, rules}
use Rattle.parser.proofs.Texts.{sentence_read}
use Rattle.parser.proofs.parse.parse.Goals as goal

pub returns : goal.returns
returns c =
    let cut = c.in_ok-words.ensures in
    let same : length c.cut_words.new.table ≡ length c.args.table.now = search rules in
    sentence_read c.args.text.now c.args.table.now c.cut_words.new.table c.parse_words.new.table c.in_ok-words.words c.in_ok-root.root
    (omega arith) same cut.rest.0 cut.defined c.in_ok-root.ensures
