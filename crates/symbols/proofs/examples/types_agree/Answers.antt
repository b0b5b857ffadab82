use Rattle.std.proofs.Common.{refl}
use Rattle.words.specs.Words.{words_within, name_token, mark_at}
use Rattle.symbols.specs.Rules.{verdict}
use Rattle.symbols.proofs.examples.types_agree.Goals as goal

pub returns : goal.returns
unfolding words_within name_token mark_at verdict
returns c =
    record { comparison_assigned = refl; number_as_truth_value = refl; one_by_value = refl; signed_one = refl; variable_of_for = refl; variable_of_in = refl; condition = refl; row_is_one_part = refl; operand = refl; subscript = refl; brackets_pass_inward = refl; boolean_array = refl; boolean_later = refl }
