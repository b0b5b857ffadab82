use Rattle.std.proofs.Common.{drop, sym, ap, ◌∙◌, arith}
use Rattle.words.specs.declared.token.Token.{Token as TokenRecord}
use Rattle.words.specs.Records.{token_in}
use Rattle.analysis.specs.Letters.{token_letters}
use Rattle.analysis.proofs.Parts.{part_to}
use Rattle.analysis.proofs.letters.letters.Goals as goal

pub returns-in-Name : goal.returns-in-Name
returns-in-Name c =
    part_to c.args.text.now c.args.w.place c.in-Name.n c.min-start.result _ c.min-start.ensures (omega arith)
    ∙ sym (ap (λ (t : TokenRecord). token_letters (token_in (drop c.args.w.place c.args.text.now) t)) c.in-Name.is)
