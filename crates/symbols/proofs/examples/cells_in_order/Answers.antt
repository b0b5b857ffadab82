use Rattle.std.proofs.Common.{refl}
use Rattle.words.specs.Words.{words_within, name_token, mark_at}
use Rattle.symbols.specs.Rules.{verdict}
use Rattle.symbols.proofs.examples.cells_in_order.Goals as goal

pub returns : goal.returns
unfolding words_within name_token mark_at verdict
returns c = record { places = refl; first_cells = refl; counts = refl; types = refl }
