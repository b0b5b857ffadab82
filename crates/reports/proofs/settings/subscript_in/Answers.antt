use Rattle.std.proofs.Common.{Some, None, ◌∙◌, arith}
use Rattle.std.proofs.lemmas.Str.Pattern.{strip_suffix_char}
use Rattle.reports.proofs.SettingNumbers.{whole_number_is, closed_subscript, open_subscript}
use Rattle.reports.proofs.settings.subscript_in.Goals as goal

pub returns-in_err-strip_suffix : goal.returns-in_err-strip_suffix
returns-in_err-strip_suffix c = c.from_residual.ensures ∙ open_subscript c.args.word.now (strip_suffix_char 93 c.args.word.now None c.in_err-strip_suffix.ensures.cases (omega arith))

pub returns : goal.returns
returns c =
    c.ok.ensures.value
    ∙ (whole_number_is c.in_ok-strip_suffix.field-0.now c.parse.result c.parse.ensures.value.0
    ∙ closed_subscript c.args.word.now c.in_ok-strip_suffix.field-0.now (strip_suffix_char 93 c.args.word.now (Some c.in_ok-strip_suffix.field-0) c.in_ok-strip_suffix.ensures.cases (omega arith)))
