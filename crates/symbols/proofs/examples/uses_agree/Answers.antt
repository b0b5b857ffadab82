use Rattle.std.proofs.Common.{refl}
use Rattle.words.specs.Words.{words_within, name_token, mark_at}
use Rattle.symbols.specs.Rules.{verdict}
use Rattle.symbols.proofs.examples.uses_agree.Goals as goal

pub returns : goal.returns
unfolding words_within name_token mark_at verdict
returns c =
    record { array_as_variable = refl; array_declared_later = refl; variable_as_array = refl; go_to_variable = refl; go_to_label_with_subscript = refl; go_to_switch_without = refl; variable_in_switch = refl; label_in_expression = refl; label_assigned = refl; go_to_later_label = refl; go_to_later_switch = refl }
