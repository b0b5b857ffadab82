use Rattle.std.proofs.Common.{ℕ, refl, ◌∙◌, arith}
use Rattle.std.proofs.lemmas.Result.{err_from_is_err_and}
use Rattle.grammar.specs.Classes.{a_name}
use Rattle.grammar.specs.Parser.{done, name_script}
use Rattle.parser.specs.declared.node.Node.TheVariants.{Simple}
use Rattle.parser.specs.Promises.{here}
use Rattle.parser.specs.Records.{NameAt}
use Rattle.parser.proofs.Going.{goes_start, goes_alike, goes_word}
use Rattle.parser.proofs.Naming.{name_taken}
use Rattle.parser.proofs.Standing.{made_read}
use Rattle.parser.proofs.Stepping.{fails_missing}
use Rattle.parser.proofs.table.Parser.name.Goals as goal

pub returns-in_err-word : goal.returns-in_err-word
returns-in_err-word c =
    let p = err_from_is_err_and c.from_residual.result c.from_residual.ensures.1 in
    record { moves = c.expect_name.ensures.moves; reads = λ l. rw (p.1, p.2) (fails_missing {L = l} _ c.in_err-word.ensures.took (goes_alike {y = name_script} goes_start (λ d k t n. refl) (λ d k. refl))) }

pub returns : goal.returns
returns c =
    let r = c.args.self.now in
    let h = c.in_ok-word.ensures.took in
    let n = name_taken r c.in_ok-word.word h.is in
    let x = λ (l : ℕ). made_read {L = l} NameAt (Simple c.in_ok-word.word) c.make.result c.make.new.self
    (goes_word a_name n.letters c.expect_name.new.self (λ b. here (done (record { letters = n.letters; place = b }))) goes_start n.next h.took refl (λ d b k. refl))
    (omega (arith, h.took.at, h.took.made)) c.make.ensures (λ z. (c.in_ok-word.word, z, n.named c.make.new.self (c.make.ensures.same.words ∙ h.took.same.words))) in
    record { moves = (x 0).moves; reads = λ l. (x l).reads }
