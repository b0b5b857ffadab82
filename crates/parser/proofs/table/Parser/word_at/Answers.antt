use Rattle.std.proofs.Common.{rules, ◌≡◌, ◌∙◌, ap}
use Rattle.std.specs.Option.{option_map}
use Rattle.parser.specs.Promises.{in_text}
use Rattle.parser.proofs.Tables.{word_got}
use Rattle.parser.proofs.table.Parser.word_at.Goals as goal

pub returns : goal.returns
returns c =
    let read : c.map.result ≡ option_map (λ x. x.now.word) c.get.result = search rules in
    let (is, held, there, cases, value) = c.get.ensures.lookup in
    let p = c.args.self.now in
    ap (in_text p.text.now) read ∙ word_got p.text.now p.count c.args.i p.table.now c.get.result cases held
