use Rattle.std.proofs.Common.{drop, sym, ap, ◌∙◌, arith}
use Rattle.std.proofs.lemmas.List.{at_drop_more}
use Rattle.words.specs.Spelling.{one_byte_marks}
use Rattle.words.specs.Words.{nothing, first_of, word_at}
use Rattle.words.proofs.OneWord.{mark_read, marks_in_two_parts}
use Rattle.words.proofs.reader.read_mark.Goals as goal

pub returns-in-Some : goal.returns-in-Some
returns-in-Some c =
    let bs = c.args.bytes.now in
    let e = marks_in_two_parts bs ∙ sym (c.in-Some.ensures.is (first_of one_byte_marks bs nothing)) in
    (λ p. mark_read p bs 2 c.in-Some.token (omega arith) c.in-Some.ensures.kind.0 e, (omega arith, c.in-Some.ensures.kind.1))

pub returns-in-Some-one_byte_mark : goal.returns-in-Some-one_byte_mark
returns-in-Some-one_byte_mark c =
    let bs = c.args.bytes.now in
    let one = c.in-Some-one_byte_mark.ensures.is (drop 1 bs) nothing ∙ sym (at_drop_more (λ z. first_of one_byte_marks z nothing) bs 0 0 c.requires) in
    let e = marks_in_two_parts bs ∙ (sym (c.in_default.ensures.is (first_of one_byte_marks bs nothing)) ∙ sym one) in
    (λ p. mark_read p bs 1 c.in-Some-one_byte_mark.token (omega arith) c.in-Some-one_byte_mark.ensures.kind e, (omega arith, omega (arith, c.requires)))

pub returns-in-None : goal.returns-in-None
returns-in-None c =
    let bs = c.args.bytes.now in
    let one = c.in-None.ensures.is (drop 1 bs) nothing ∙ sym (at_drop_more (λ z. first_of one_byte_marks z nothing) bs 0 0 c.requires) in
    let e = marks_in_two_parts bs ∙ (sym (c.in_default.ensures.is (first_of one_byte_marks bs nothing)) ∙ sym one) in
    (λ p. ap (word_at p bs) (sym e), tt)
