use Rattle.std.proofs.Common.{refl}
use Rattle.words.specs.Words.{words_within, name_token, mark_at}
use Rattle.symbols.specs.Rules.{verdict}
use Rattle.symbols.proofs.examples.definitions_once.Goals as goal

pub returns : goal.returns
unfolding words_within name_token mark_at verdict
returns c =
    record { second_label = refl; second_array = refl; label_and_array = refl; second_type = refl; other_type = refl; typed_label = refl; typed_switch = refl; typed_array_and_label = refl; typed_later = refl; typed_array = refl; only_typed = refl; least_number_first = refl }
