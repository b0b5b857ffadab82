use Rattle.std.proofs.Common.{◌≡◌, ◌+◌, ◌≤◌, length, sym, refl, ◌∙◌, arith}
use Rattle.analysis.proofs.EnteredWords.{other_enters, next_new, next_known, name_enters}
use Rattle.analysis.proofs.numbering.number_word.Goals as goal

pub returns-in_default : goal.returns-in_default
returns-in_default c = other_enters c.args.text.now c.args.records.now c.args.w c.args.n c.args.names.now _ c.requires.0 c.requires.1 c.in_default.not-Name

pub returns-then-n-names : goal.returns-then-n-names
returns-then-n-names c =
    let e = c.enter_name-k.ensures.number in
    let q = c.if-k-n.true in
    let test = c.if-n-names.true in
    let fits : c.args.n + 1 ≤ length c.enter_name-k.new.names = omega arith in
    name_enters c.args.text.now c.args.records.now c.args.w c.args.n c.args.names.now _ c.requires.0 c.in-Name.field-0 c.in-Name.is _ refl refl e c.enter_name-k.new.names c.enter_name-k.ensures.lines _
    (λ o h room. next_new c.args.text.now c.args.records.now c.args.w c.args.n c.args.names.now c.requires.1 (sym e ∙ q) o h) fits

pub returns-else-k-n : goal.returns-else-k-n
returns-else-k-n c =
    let kept : length c.enter_name-k.new.names ≡ length c.args.names.now = c.enter_name-k.auto.names in
    let before = c.requires.1 in
    let fits : c.args.n ≤ length c.enter_name-k.new.names = omega arith in
    name_enters c.args.text.now c.args.records.now c.args.w c.args.n c.args.names.now _ c.requires.0 c.in-Name.field-0 c.in-Name.is _ refl refl c.enter_name-k.ensures.number c.enter_name-k.new.names c.enter_name-k.ensures.lines _
    (next_known c.args.text.now c.args.records.now c.args.w c.args.n c.args.names.now c.enter_name-k.result c.enter_name-k.ensures.number c.enter_name-k.new.names c.enter_name-k.ensures.lines c.else-k-n.either) fits
