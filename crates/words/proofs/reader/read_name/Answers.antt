use Rattle.std.proofs.Common.{◌≡◌, length, get_or, take, rules, sym, refl, ap, ◌∙◌, arith}
use Rattle.std.specs.Char.{is_ascii_alphanumeric}
use Rattle.words.specs.Words.{name_token, skipped}
use Rattle.words.proofs.OneWord.{name_read, name_refused, run_not_empty, letter_to_alnum}
use Rattle.words.proofs.reader.read_name.Goals as goal

pub returns-then-length-gt-LONGEST_NAME : goal.returns-then-length-gt-LONGEST_NAME
returns-then-length-gt-LONGEST_NAME c = (λ p. name_refused p c.args.bytes.now c.run-length.result (c.run-length.ensures.is is_ascii_alphanumeric (search rules)) c.if-length-gt-LONGEST_NAME.true, tt)

pub returns : goal.returns
returns c =
    let bs = c.args.bytes.now in
    let n = c.run-length.result in
    let run = c.run-length.ensures.is is_ascii_alphanumeric (search rules) in
    let name = c.split_at.ensures.front in
    let whole : take (length c.split_at.result.0.now) bs ≡ c.split_at.result.0.now = ap (λ l. take l bs) c.split_at.ensures.front_len ∙ sym name in
    let some = run_not_empty is_ascii_alphanumeric bs refl (letter_to_alnum (get_or bs 0 0) c.requires) in (
      λ p. name_read p bs n run c.skipped.result c.name_token.result c.if-length-gt-LONGEST_NAME.false
          (c.name_token.ensures bs whole ∙ ap name_token name)
          (c.skipped.ensures.is ∙ (ap (λ s. skipped s c.split_at.result.1.now) name ∙ ap (skipped (take n bs)) c.split_at.ensures.back)),
      (omega (arith, some, run), omega (arith, c.skipped.ensures.within, c.split_at.ensures.back_len, c.run-length.ensures.within)),
    )
