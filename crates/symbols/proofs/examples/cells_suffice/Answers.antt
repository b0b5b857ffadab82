use Rattle.std.proofs.Common.{refl}
use Rattle.words.specs.Words.{words_within, name_token, mark_at}
use Rattle.symbols.specs.Rules.{verdict}
use Rattle.symbols.proofs.examples.cells_suffice.Goals as goal

pub returns : goal.returns
unfolding words_within name_token mark_at verdict
returns c =
    record { reversed = refl; reversed_below_zero = refl; too_low = refl; too_high = refl; lowest = refl; all_cells = refl; one_array = refl; one_name_more = refl; one_for_more = refl; names_before_fors = refl; for_before_names = refl; all_cells_with_a_for = refl }
