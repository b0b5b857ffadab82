use Rattle.std.proofs.Common.{rules, refl, arith}
use Rattle.std.specs.Char.{is_ascii_digit}
use Rattle.words.proofs.OneWord.{number_read, number_refused, digits_made_of, run_not_empty}
use Rattle.words.proofs.reader.read_number.Goals as goal

pub returns-then-length-gt-LONGEST_NUMBER : goal.returns-then-length-gt-LONGEST_NUMBER
returns-then-length-gt-LONGEST_NUMBER c = (λ p. number_refused p c.args.bytes.now c.run-length.result (c.run-length.ensures.is is_ascii_digit (search rules)) c.if-length-gt-LONGEST_NUMBER.true, tt)

pub value-requires-clause-digits : goal.value-requires-clause-digits
value-requires-clause-digits c = digits_made_of 0 c.args.bytes.now c.run-length.result (c.run-length.ensures.is is_ascii_digit (search rules))

pub returns : goal.returns
returns c =
    let bs = c.args.bytes.now in
    let run = c.run-length.ensures.is is_ascii_digit (search rules) in (
      λ p. number_read p bs c.run-length.result run c.value.result c.if-length-gt-LONGEST_NUMBER.false c.value.ensures,
      (omega (arith, run_not_empty is_ascii_digit bs refl c.requires, run), c.run-length.ensures.within),
    )
