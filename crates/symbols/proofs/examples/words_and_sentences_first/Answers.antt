use Rattle.std.proofs.Common.{refl}
use Rattle.words.specs.Words.{words_within, name_token, mark_at}
use Rattle.symbols.specs.Rules.{verdict}
use Rattle.symbols.proofs.examples.words_and_sentences_first.Goals as goal

pub returns : goal.returns
unfolding words_within name_token mark_at verdict
returns c =
    record { no_word = refl; long_number = refl; early_end = refl }
