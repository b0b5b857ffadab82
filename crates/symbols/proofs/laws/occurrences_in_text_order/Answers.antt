use Rattle.symbols.proofs.InText.{names_in_text}
use Rattle.symbols.proofs.laws.occurrences_in_text_order.Goals as goal

pub returns : goal.returns
returns c = names_in_text
