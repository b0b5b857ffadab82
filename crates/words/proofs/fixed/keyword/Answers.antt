use Rattle.std.proofs.Common.{codes, refl, rules, arith}
use Rattle.std.proofs.lemmas.Slice.Eq.{text_from_reads}
use Rattle.words.proofs.fixed.keyword.Goals as goal

pub returns-in-switch : goal.returns-in-switch
returns-in-switch c = rw (text_from_reads c.args.name.now (codes "switch") (omega arith) (search rules)) (λ t. refl)

pub returns-in-integer : goal.returns-in-integer
returns-in-integer c = rw (text_from_reads c.args.name.now (codes "integer") (omega arith) (search rules)) (λ t. refl)

pub returns-in-boolean : goal.returns-in-boolean
returns-in-boolean c = rw (text_from_reads c.args.name.now (codes "boolean") (omega arith) (search rules)) (λ t. refl)

pub returns-in-comment : goal.returns-in-comment
returns-in-comment c = rw (text_from_reads c.args.name.now (codes "comment") (omega arith) (search rules)) (λ t. refl)
