use Rattle.std.specs.String.{string_bytes}
use Rattle.reports.specs.Names.{name_letters}
use Rattle.reports.proofs.AsciiLetters.{letters_from_made}
use Rattle.reports.proofs.source.Source.name_text.Goals as goal

pub returns-clause-letters : goal.returns-clause-letters
returns-clause-letters c h =
    letters_from_made string_bytes c.to_string.result c.name.result.letters.now (name_letters c.args.self.text.now c.args.self.records.now c.args.w)
    c.name.ensures h c.to_string.ensures.ok
